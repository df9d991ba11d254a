-- Worked examples: what the bare is.
use Rattle.std.specs.Prelude.{◌≡◌, [], codes}
use Rattle.address.specs.Address.{bare}

pub record Bares : Type 0 where
  pub display_name : bare (codes "Ann <A@X.test>") ≡ codes "a@x.test"
  pub blanks_at_the_ends : bare (codes " b@x.test ") ≡ codes "b@x.test"
  pub no_closing_angle : bare (codes "<c@x.test") ≡ codes "<c@x.test"
  pub quoted_name_with_an_address : bare (codes "\"L <l@x.test>\" <d@x.test>") ≡ codes "d@x.test"
  pub empty_angles : bare (codes "<>") ≡ []
  pub quote_never_closed : bare (codes "\"e <f@x.test>") ≡ codes "f@x.test"
