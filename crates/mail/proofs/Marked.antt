-- Marks beside a list.
use Rattle.std.proofs.Common.{◌≡◌, ℕ, suc, ◌+◌, ◌≤◌, Bool, true, false, cond, List, [], ◌∷◌, ◌++◌, map, length, get_or, filter, refl, ap, ◌∙◌, arith}
use Rattle.std.specs.List.{range_with_len}
use Rattle.mail.specs.Marks.{marked}

module _ {X : Type 0} where
  -- each is marked by a test
  pub marked_all : (f : X → Bool) (xs : List X) → marked (map f xs) xs ≡ filter f xs
  unfolding marked
  marked_all f [] = refl
  marked_all f (x ∷ xs) = ap (λ l. cond (f x) (x ∷ l) l) (marked_all f xs)

  pub marked_append : (fs bs : List Bool) (xs ys : List X) → length fs ≡ length xs → marked (fs ++ bs) (xs ++ ys) ≡ marked fs xs ++ marked bs ys
  unfolding marked
  marked_append [] bs [] ys e = refl
  marked_append [] bs (x ∷ xs) ys e = absurd (omega arith)
  marked_append (f ∷ fs) bs [] ys e = absurd (omega arith)
  marked_append (true ∷ fs) bs (x ∷ xs) ys e = ap (λ l. x ∷ l) (marked_append fs bs xs ys (omega arith))
  marked_append (false ∷ fs) bs (x ∷ xs) ys e = marked_append fs bs xs ys (omega arith)

  -- the places that are marked, and what stands there
  module _ (d : X) where
    marked_from : (f : ℕ → X) (g : ℕ → Bool) (a : ℕ) (bs : List Bool) (xs : List X) → length bs ≤ length xs → ((k : ℕ) → f (a + k) ≡ get_or xs k d) → ((k : ℕ) → g (a + k) ≡ get_or bs k false) → map f (filter g (range_with_len a (length bs))) ≡ marked bs xs
    unfolding marked
    marked_from f g a [] xs h e m = refl
    marked_from f g a (b ∷ bs) [] h e m = absurd (omega arith)
    marked_from f g a (b ∷ bs) (x ∷ xs) h e m =
        let rest : map f (filter g (range_with_len (a + 1) (length bs))) ≡ marked bs xs =
        marked_from f g (a + 1) bs xs (omega arith) (λ k. let s : a + 1 + k ≡ a + suc k = omega arith in ap f s ∙ e (suc k)) (λ k. let s : a + 1 + k ≡ a + suc k = omega arith in ap g s ∙ m (suc k)) in
        let zero_on : a ≡ a + 0 = omega arith in
        let here : f a ≡ x = ap f zero_on ∙ e 0 in
        let mark : g a ≡ b = ap g zero_on ∙ m 0 in
        ap (λ c. map f (cond c (a ∷ filter g (range_with_len (a + 1) (length bs))) (filter g (range_with_len (a + 1) (length bs))))) mark
        ∙ (elim b as (λ c. map f (cond c (a ∷ filter g (range_with_len (a + 1) (length bs))) (filter g (range_with_len (a + 1) (length bs)))) ≡ cond c (x ∷ marked bs xs) (marked bs xs)) [
          | true ↦ (λ i. here i ∷ rest i)
          | false ↦ rest
        ])

    pub marked-places : (bs : List Bool) (xs : List X) → length bs ≤ length xs → map (λ i. get_or xs i d) (filter (λ i. get_or bs i false) (range_with_len 0 (length bs))) ≡ marked bs xs
    marked-places bs xs h =
        let at : (k : ℕ) → 0 + k ≡ k = λ k. omega arith in
        marked_from (λ i. get_or xs i d) (λ i. get_or bs i false) 0 bs xs h (λ k. ap (λ i. get_or xs i d) (at k)) (λ k. ap (λ i. get_or bs i false) (at k))
