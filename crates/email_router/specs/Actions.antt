-- An answer by its sizes, before a byte of it is written.
use Rattle.std.specs.Prelude.{ℕ, ◌+◌, cond, List, length, Some, None, Option, ◌==◌}
use Rattle.address.specs.Text.{Text}
use Rattle.roll.specs.Packing.{pack_texts}
use Rattle.email_policy.specs.declared.policy.PositiveReviewPolicy.{PositiveReviewPolicy}
use Rattle.audience.specs.Answers as audience
use Rattle.audience.specs.Answers.{everyone, somebody}
use Rattle.mail.specs.Rolls.{mailed}
use Rattle.mail.specs.declared.letter.Mail.{Mail}
use Rattle.email_router.specs.declared.chosen.Recipients.{Recipients}
use Rattle.email_router.specs.declared.action.Size.{Size}
use Rattle.email_router.specs.declared.action.Action.{Action}
use Rattle.email_router.specs.declared.action.Action.TheVariants.{Mute, Send}

-- whom the rolls of candidates mail
abbrev pub recipients_of : Recipients → Mail → audience.Recipients
recipients_of r m = record { to = mailed r.to m r.added; cc = mailed r.cc m r.added }

unfoldable pub sent_to : Recipients → Mail → Option audience.Recipients
sent_to r m = somebody (everyone (recipients_of r m)) (recipients_of r m)

-- how many texts a roll has, and the bytes of its packed texts
abbrev pub size_of : List Text → Size
size_of ts = record { texts = length ts; bytes = length (pack_texts ts) }

unfoldable pub action_of : Option audience.Recipients → PositiveReviewPolicy → Action
action_of None rank = Mute
action_of (Some r) rank = Send (size_of r.to) (size_of r.cc) rank

-- an empty roll is left out
abbrev pub part_size : Size → ℕ
part_size s = cond (s.texts == 0) 0 (2 + s.bytes)

abbrev pub action_size : Action → ℕ
action_size Mute = 1
action_size (Send to cc rank) = 1 + (part_size to + part_size cc)
