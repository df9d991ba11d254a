-- Lists with marks beside them.
use Rattle.std.specs.Prelude.{Bool, cond, List, [], ◌∷◌}

-- those that are marked
unfoldable pub marked : {X : Type 0} → List Bool → List X → List X
marked [] xs = []
marked (b ∷ bs) [] = []
marked (b ∷ bs) (x ∷ xs) = cond b (x ∷ marked bs xs) (marked bs xs)
