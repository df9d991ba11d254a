-- What is asked of a record's texts, with places.
use Rattle.std.specs.Prelude.{◌≡◌, ℕ, ◌+◌, cond, List, [], ◌∷◌, length, Some, None, Ok, Err, Option, Result}
use Rattle.std.specs.Str.{bytes_eq}
use Rattle.address.specs.Text.{Text}
use Rattle.address.specs.Address.{bare}
use Rattle.roll.specs.Reading.{texts_fault}
use Rattle.roll.specs.declared.fault.RollFault.{RollFault}
use Rattle.email_policy.specs.Policy.{ListPolicy}
use Rattle.email_policy.specs.Reading.{cc_place, ignored_place, read_policy}
use Rattle.email_policy.specs.declared.fault.RecordFault.{RecordFault}
use Rattle.email_policy.specs.declared.fault.RecordFault.TheVariants.{InRoll}

abbrev pub then_texts : Result (Unit {0}) RollFault → Result (Unit {0}) RecordFault → Result (Unit {0}) RecordFault
then_texts (Ok u) next = next
then_texts (Err f) next = Err (InRoll f)

-- the first byte that no text may hold, in the cc roll at one place and then the ignored roll at another
abbrev pub bytes_fault : ListPolicy → ℕ → ℕ → Result (Unit {0}) RecordFault
bytes_fault p cc ignored = then_texts (texts_fault (cc + 2) p.cc) (then_texts (texts_fault (ignored + 2) p.ignored_emails) (Ok tt))

-- the place of the first text, of those packed from a place on, that has this bare
unfoldable pub own_place : Text → ℕ → List Text → Option ℕ
own_place own at [] = None
own_place own at (t ∷ ts) = cond (bytes_eq (bare t) own) (Some at) (own_place own (at + (2 + length t)) ts)

-- a record in one slice says what one in another says: its policy, and what is asked of its texts
pub record SaysTheSame (bs : List ℕ) (at : ℕ) (bs' : List ℕ) (at' : ℕ) : Type 0 where
  pub policy : read_policy bs at ≡ read_policy bs' at'
  pub texts : bytes_fault (read_policy bs at) (cc_place bs at) (ignored_place bs at) ≡ bytes_fault (read_policy bs' at') (cc_place bs' at') (ignored_place bs' at')
  pub own : (key : Text) → own_place (bare key) (cc_place bs at + 2) (read_policy bs at).cc ≡ own_place (bare key) (cc_place bs' at' + 2) (read_policy bs' at').cc
