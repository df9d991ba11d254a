-- What a list holds once a row has been written over it.
use Rattle.std.specs.Prelude.{ℕ, ◌+◌, Bool, cond, ◌&&◌, List, [], ◌∷◌, length, Some, None, Option, slice_set}
use Rattle.roll.specs.Ends.{there}

-- d with the row written over it from place i on; what would fall past its end falls away
unfoldable pub written : List ℕ → ℕ → List ℕ → List ℕ
written d i [] = d
written d i (x ∷ xs) = written (slice_set d i x) (i + 1) xs

-- a row that may be written is written where all of it fits, and else nothing is
abbrev pub put : Bool → List ℕ → ℕ → List ℕ → List ℕ
put may d i row = cond (may && there d i (length row)) (written d i row) d

-- the place after it
abbrev pub put_end : Bool → List ℕ → ℕ → List ℕ → Option ℕ
put_end may d i row = cond (may && there d i (length row)) (Some (i + length row)) None
