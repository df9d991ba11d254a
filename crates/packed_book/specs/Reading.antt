-- The policy that is read from the bytes of a book.
use Rattle.std.specs.Prelude.{ℕ, zero, suc, ◌+◌, true, false, List, [], ◌∷◌}
use Rattle.roll.specs.Ends.{word_at}
use Rattle.email_policy.specs.Ends.{record_end}
use Rattle.email_policy.specs.Policy.{Entry, Policy}
use Rattle.email_policy.specs.Reading.{read_policy, as_defaults, end_or}
use Rattle.packed_book.specs.Ends.{key_at}

-- where the record of the list at a place begins, and where the next list does
abbrev pub policy_place : List ℕ → ℕ → ℕ
policy_place bs at = at + (2 + word_at bs at)

abbrev pub next_place : List ℕ → ℕ → ℕ
next_place bs at = end_or at (record_end false bs (policy_place bs at))

abbrev pub entry_at : List ℕ → ℕ → Entry
entry_at bs at = record { key = key_at bs at; policy = read_policy bs (policy_place bs at) }

-- where list n begins, of lists that begin at a place
unfoldable pub place_of : List ℕ → ℕ → ℕ → ℕ
place_of bs at zero = at
place_of bs at (suc n) = place_of bs (next_place bs at) n

unfoldable pub entries_at : ℕ → List ℕ → ℕ → List Entry
entries_at zero bs at = []
entries_at (suc n) bs at = entry_at bs at ∷ entries_at n bs (next_place bs at)

abbrev pub count_place : List ℕ → ℕ
count_place bs = end_or 0 (record_end true bs 0)

unfoldable pub read_book : List ℕ → Policy
read_book bs = record { defaults = as_defaults (read_policy bs 0); lists = entries_at (word_at bs (count_place bs)) bs (count_place bs + 2) }
