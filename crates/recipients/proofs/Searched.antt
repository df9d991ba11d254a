-- Whether some element that is marked passes.
use Rattle.std.proofs.Common.{◌≡◌, Bool, true, false, ◌&&◌, ◌||◌, List, [], ◌∷◌, map, refl, ap}
use Rattle.std.specs.List.{list_any, zip}
use Rattle.keep_first.specs.Keep.{some}
use Rattle.mail.specs.Marks.{marked}

module _ {X Y : Type 0} (f : X → Y) (p : Y → Bool) where
  pub any_marked : (xs : List X) (bs : List Bool) → list_any {X = X × Bool} (λ z. z.1 && p (f z.0)) (zip xs bs) ≡ some p (marked bs (map f xs))
  unfolding some marked
  any_marked [] [] = refl
  any_marked [] (b ∷ bs) = refl
  any_marked (x ∷ xs) [] = refl
  any_marked (x ∷ xs) (true ∷ bs) = ap (λ r. p (f x) || r) (any_marked xs bs)
  any_marked (x ∷ xs) (false ∷ bs) = any_marked xs bs
