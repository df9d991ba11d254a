-- What is asked of a packed book, from left to right, with the first fault at its place.
use Rattle.std.specs.Prelude.{ℕ, zero, suc, ◌+◌, Bool, true, false, cond, ◌&&◌, List, [], length, take, drop, Some, None, Ok, Err, Option, Result, nat_le}
use Rattle.std.specs.Option.{option_map}
use Rattle.address.specs.Text.{Text}
use Rattle.address.specs.Address.{bare}
use Rattle.roll.specs.Ends.{after, word_at, there, text_end, filled}
use Rattle.roll.specs.declared.fault.RollFault.{RollFault}
use Rattle.roll.specs.declared.limits.Limits.{Limits}
use Rattle.email_policy.specs.Ends.{record_end}
use Rattle.email_policy.specs.Keys.{key_fault, rises}
use Rattle.email_policy.specs.Lawful.{most_lists, longest_book}
use Rattle.email_policy.specs.Questions.{bytes_fault, own_place}
use Rattle.email_policy.specs.Reading.{read_policy, cc_place, ignored_place}
use Rattle.email_policy.specs.declared.fault.PolicyFault.TheVariants.{Key, Record, OwnAddress}
use Rattle.email_policy.specs.declared.fault.RecordFault.{RecordFault}
use Rattle.packed_book.specs.declared.fault.OpenFault.{OpenFault}
use Rattle.packed_book.specs.declared.fault.OpenFault.TheVariants.{Size, InPolicy, Order, LeftOver}

abbrev pub BookEnd : Type 0
BookEnd = Result ℕ OpenFault

-- a key as a text of a roll: only whether it is all there is asked here
abbrev pub any_text : Limits
any_text = record { least = 0; most = 65535; longest = 65535 }

-- a part that is all there, or a fault of the book's size at the place where it begins
abbrev pub all_there : ℕ → Result ℕ RollFault → BookEnd
all_there at (Ok e) = Ok e
all_there at (Err f) = Err (Size at)

abbrev pub key_end : List ℕ → ℕ → BookEnd
key_end bs at = all_there at (text_end any_text bs at)

-- the key at a place
abbrev pub key_at : List ℕ → ℕ → Text
key_at bs at = take (word_at bs at) (drop (at + 2) bs)

-- a question, and then what follows
abbrev pub asked : Option OpenFault → BookEnd → BookEnd
asked (Some f) next = Err f
asked None next = next

abbrev pub in_policy : Result ℕ RecordFault → BookEnd
in_policy (Ok e) = Ok e
in_policy (Err f) = Err (InPolicy (Record f))

abbrev pub bytes_question : Result (Unit {0}) RecordFault → Option OpenFault
bytes_question (Ok u) = None
bytes_question (Err f) = Some (InPolicy (Record f))

-- a record at a place, with the bytes of its texts
abbrev pub policy_end : Bool → List ℕ → ℕ → BookEnd
policy_end full bs at =
    after (in_policy (record_end full bs at)) (λ e.
    asked (bytes_question (bytes_fault (read_policy bs at) (cc_place bs at) (ignored_place bs at))) (Ok e))

abbrev pub key_question : List ℕ → ℕ → Option OpenFault
key_question bs at = option_map (λ f. InPolicy (Key f)) (key_fault at (at + 2) (key_at bs at))

-- no cc text of the record at r has the key's bare
abbrev pub own_question : List ℕ → ℕ → Text → Option OpenFault
own_question bs r key = option_map (λ p. InPolicy (OwnAddress p)) (own_place (bare key) (cc_place bs r + 2) (read_policy bs r).cc)

abbrev pub order_question : Text → Text → ℕ → Option OpenFault
order_question last key at = cond (rises last key) None (Some (Order at))

-- a list, after the one with the key `last`: its key is all there and passes, its record passes, and the key rises
unfoldable pub list_end : Text → List ℕ → ℕ → BookEnd
list_end last bs at =
    after (key_end bs at) (λ r.
    asked (key_question bs at) (
    after (policy_end false bs r) (λ e.
    asked (own_question bs r (key_at bs at)) (
    asked (order_question last (key_at bs at) at) (Ok e)))))

unfoldable pub lists_end : ℕ → Text → List ℕ → ℕ → BookEnd
lists_end zero last bs at = Ok at
lists_end (suc n) last bs at = after (list_end last bs at) (lists_end n (key_at bs at) bs)

-- the number of lists is there and within the limit
abbrev pub count_end : List ℕ → ℕ → BookEnd
count_end bs at = cond (there bs at 2 && nat_le (word_at bs at) most_lists) (Ok (at + 2)) (Err (Size at))

-- a book: not too large, the defaults, the number of lists, the lists, and nothing after. Every key follows the empty text
abbrev pub whole_book : List ℕ → Result (Unit {0}) OpenFault
whole_book bs =
    cond (nat_le (length bs) longest_book)
    (after (policy_end true bs 0) (λ c.
    after (count_end bs c) (λ at.
    after (lists_end (word_at bs c) [] bs at) (filled LeftOver bs))))
    (Err (Size longest_book))
