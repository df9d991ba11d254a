-- More on `some` and on where an element stands in a list.
use Rattle.std.proofs.Common.{◌≡◌, Bool, true, List, [], ◌∷◌, filter, sym, refl, subst, inl, inr}
use Rattle.std.specs.List.{flat_map}
use Rattle.keep_first.specs.Keep.{some}
use Rattle.keep_first.proofs.Members.{In, in_left, in_right, in_either, in_kept, kept_in, in_some, some_in, some-both}

module _ {X : Type 0} where
  pub some_grows : (p q : X → Bool) (xs ys : List X) → ((x : X) → In x xs → p x ≡ true → In x ys × (q x ≡ true)) → some p xs ≡ true → some q ys ≡ true
  some_grows p q xs ys w e = let (x, i, t) = some_in p xs e in let (j, u) = w x i t in in_some q x ys j u

  -- where all that pass are kept, the kept tell whether some pass
  pub some_of_kept : (p q : X → Bool) → ((x : X) → p x ≡ true → q x ≡ true) → (xs : List X) → some p xs ≡ some p (filter q xs)
  some_of_kept p q w xs =
      some-both p p xs (filter q xs)
      (some_grows p p xs (filter q xs) (λ x i e. (in_kept q x xs i (w x e), e)))
      (some_grows p p (filter q xs) xs (λ x i e. ((kept_in q x xs i).0, e)))

module _ {X Y : Type 0} (k : X → List Y) where
  pub in_joined : (x : X) (y : Y) (xs : List X) → In x xs → In y (k x) → In y (flat_map k xs)
  in_joined x y [] i j = absurd i
  in_joined x y (z ∷ xs) (inl e) j = in_left y (k z) (flat_map k xs) (subst (λ x. In y (k x)) (sym e) j)
  in_joined x y (z ∷ xs) (inr i) j = in_right y (k z) (flat_map k xs) (in_joined x y xs i j)

  pub joined_in : (y : Y) (xs : List X) → In y (flat_map k xs) → (x : X) × In x xs × In y (k x)
  joined_in y [] i = absurd i
  joined_in y (z ∷ xs) i = elim (in_either y (k z) (flat_map k xs) i) [
    | inl j ↦ (z, inl refl, j)
    | inr j ↦ let (x, l, m) = joined_in y xs j in (x, inr l, m)
  ]
