-- Keep-first, over any list with sameness and preference: of each class of like elements the place of the first is kept,
-- and there stands the first preferred one of the class, or the first of all where none is preferred.
use Rattle.std.specs.Prelude.{Bool, false, cond, not, ◌&&◌, ◌||◌, List, [], ◌∷◌, map, filter}

module _ {X : Type 0} where
  -- some element passes
  unfoldable pub some : (X → Bool) → List X → Bool
  some p [] = false
  some p (x ∷ xs) = p x || some p xs

  -- the first that passes, or else d
  unfoldable pub first_or : (X → Bool) → X → List X → X
  first_or p d [] = d
  first_or p d (x ∷ xs) = cond (p x) x (first_or p d xs)

  -- those that are the same as none before them
  unfoldable pub firsts : (X → X → Bool) → List X → List X
  firsts same [] = []
  firsts same (x ∷ xs) = x ∷ filter (λ y. not (same x y)) (firsts same xs)

  -- what stands at the place of x: the first of the list that is the same and preferred, or x where none is
  unfoldable pub stand_in : (X → X → Bool) → (X → Bool) → List X → X → X
  stand_in same preferred xs x = first_or (λ y. same x y && preferred y) x xs

  abbrev pub keep_first : (X → X → Bool) → (X → Bool) → List X → List X
  keep_first same preferred xs = map (stand_in same preferred xs) (firsts same xs)
