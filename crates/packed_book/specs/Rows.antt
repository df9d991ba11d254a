-- The parts of a policy as they are written one after another.
use Rattle.std.specs.Prelude.{◌≡◌, ℕ, ◌+◌, ◌≤◌, List, [], length, Some, None, Option}
use Rattle.roll.specs.Written.{written}
use Rattle.email_policy.specs.Lawful.{pack_entry}
use Rattle.email_policy.specs.Packing.{pack_field}
use Rattle.email_policy.specs.Policy.{Entry}

-- a field byte, where there is one
abbrev pub byte_row : Option ℕ → List ℕ
byte_row o = pack_field (λ b. b) o

-- the packed list of a number, and nothing past the last one
abbrev pub list_row : Option Entry → List ℕ
list_row (Some e) = pack_entry e
list_row None = []

-- the row is written where all of it fits; where it does not, nothing is said of what the tray then holds
abbrev pub Puts : List ℕ → ℕ → List ℕ → List ℕ → Type 0
Puts d at row d' = at + length row ≤ length d → d' ≡ written d at row
