-- What an element by its number says of the rest of the list.
use Rattle.std.proofs.Common.{◌≡◌, ℕ, zero, suc, ◌+◌, ◌<◌, ◌≤◌, List, [], ◌∷◌, length, drop, Some, None, sym, ap, ◌∙◌, arith}
use Rattle.std.specs.List.{slice_get}
use Rattle.std.proofs.lemmas.List.{drop_more}
use Rattle.std.proofs.lemmas.Option.{slice_get_within, get_or_from_slice_get}

pub nth_some : {X : Type 0} (xs : List X) (m : ℕ) (x : X) → Some x ≡ slice_get xs m → (drop m xs ≡ x ∷ drop (m + 1) xs) × (m < length xs)
nth_some xs m x e =
    let h = slice_get_within xs m x (sym e) in
    (drop_more xs m x h ∙ ap (λ y. y ∷ drop (m + 1) xs) (get_or_from_slice_get xs m x x (sym e)), h)

pub nth_none : {X : Type 0} (xs : List X) (m : ℕ) → None ≡ slice_get xs m → length xs ≤ m
nth_none [] m h = omega arith
nth_none (y ∷ xs) zero h = let z : ◌≡◌ {A = ℕ} 0 1 = cc in absurd (omega arith)
nth_none (y ∷ xs) (suc m) h = omega (arith, nth_none xs m h)
