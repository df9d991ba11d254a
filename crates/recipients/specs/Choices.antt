-- Who takes part in To and in Cc, mark by mark.
use Rattle.std.specs.Prelude.{Bool, cond, not, ◌&&◌, ◌||◌, List, ◌∷◌, ◌++◌, map}
use Rattle.std.specs.Str.{bytes_eq}
use Rattle.address.specs.Text.{Text, small}
use Rattle.address.specs.Address.{bare, same_bare, domain}
use Rattle.keep_first.specs.Keep.{some}
use Rattle.audience.specs.Mail.{Mail, mailable}
use Rattle.audience.specs.Rules.{Grant, at_known}
use Rattle.audience.specs.Known.{known_domain}

-- one of these domains, in small letters
abbrev pub at_one_of : List Text → Text → Bool
at_one_of domains d = some (λ k. bytes_eq d (small k)) domains

-- a list address: that of a key, or at a known domain
abbrev pub listed_by : List Text → Text → Bool
listed_by keys t = some (λ k. same_bare k t) keys || at_known known_domain (domain (bare t))

module _ (keys : List Text) (m : Mail) (g : Grant) (individuals : Bool) where
  -- whether an address of the mail qualifies, once it is known whether individuals do
  abbrev pub qualifies_by : Text → Bool
  qualifies_by t = cond (listed_by keys t) (g.list t) individuals

  -- who takes part in To: the author, and the addresses of To
  unfoldable pub to_marks : List Bool
  to_marks = (g.author && mailable m m.author) ∷ map (λ t. qualifies_by t && mailable m t) m.to

  module _ (taken : List Text) where
    -- who may be mailed and is not among those that are taken
    abbrev pub apart : Text → Bool
    apart t = mailable m t && not (some (same_bare t) taken)

    -- who takes part in Cc: the addresses of Cc, and the cc texts
    unfoldable pub cc_marks : List Bool
    cc_marks = map (λ t. qualifies_by t && apart t) m.cc ++ map apart g.cc
