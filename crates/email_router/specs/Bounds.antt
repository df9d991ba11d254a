-- Sizes that sums of them fit a machine word.
use Rattle.std.specs.Prelude.{◌*◌, ◌≤◌}
use Rattle.email_router.specs.declared.action.Size.{Size}
use Rattle.email_router.specs.declared.action.Action.{Action}
use Rattle.email_router.specs.declared.action.Action.TheVariants.{Mute, Send}

pub record Small (s : Size) : Type 0 where
  pub texts : s.texts ≤ 9249
  pub bytes : s.bytes ≤ 65537 * 9249

abbrev pub SmallAction : Action → Type 0
SmallAction Mute = Unit {0}
SmallAction (Send to cc rank) = Small to × Small cc
