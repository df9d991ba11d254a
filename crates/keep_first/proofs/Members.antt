-- Membership by clauses, and what filters, maps and `some` do to it.
use Rattle.std.proofs.Common.{◌≡◌, zero, suc, Bool, true, false, cond, not, ◌&&◌, ◌||◌, ◌⊎◌, List, [], ◌∷◌, ◌++◌, map, filter, sym, refl, ap, ◌∙◌, inl, inr, arith}
use Rattle.std.specs.List.{ContainsAt as Has, AllByRecursion, list_any}
use Rattle.std.proofs.lemmas.Bool.{cases_Bool, both_ways, true≢false, not-true, or_cases, or_left, or_right, cond_both}
use Rattle.std.proofs.ByRecursion.{all-has, All-weaker}
use Rattle.keep_first.specs.Keep.{some}

abbrev pub In : {X : Type 0} → X → List X → Type 0
In x [] = ⊥
In x (y ∷ ys) = (y ≡ x) ⊎ In x ys

module _ {X : Type 0} where
  all_in : (xs : List X) → AllByRecursion (λ y. In y xs) xs
  all_in [] = tt
  all_in (x ∷ xs) = (inl refl, All-weaker (λ y. In y xs) (λ y. In y (x ∷ xs)) (λ y i. inr i) xs (all_in xs))

  pub has_in : (xs : List X) (x : X) → Has xs x → In x xs
  has_in xs x h = all-has (λ y. In y xs) xs x (all_in xs) h

  pub in_has : (xs : List X) (x : X) → In x xs → Has xs x
  in_has [] x i = absurd i
  in_has (y ∷ ys) x (inl e) = (zero, omega arith, λ d. e)
  in_has (y ∷ ys) x (inr i) = let (k, l, a) = in_has ys x i in (suc k, omega arith, λ d. a d)

  pub in_left : (x : X) (xs ys : List X) → In x xs → In x (xs ++ ys)
  in_left x [] ys i = absurd i
  in_left x (z ∷ xs) ys (inl e) = inl e
  in_left x (z ∷ xs) ys (inr i) = inr (in_left x xs ys i)

  pub in_right : (x : X) (xs ys : List X) → In x ys → In x (xs ++ ys)
  in_right x [] ys i = i
  in_right x (z ∷ xs) ys i = inr (in_right x xs ys i)

  pub in_either : (x : X) (xs ys : List X) → In x (xs ++ ys) → In x xs ⊎ In x ys
  in_either x [] ys i = inr i
  in_either x (z ∷ xs) ys (inl e) = inl (inl e)
  in_either x (z ∷ xs) ys (inr i) = elim (in_either x xs ys i) [ inl j ↦ inl (inr j) | inr j ↦ inr j ]

  pub in_kept : (p : X → Bool) (x : X) (xs : List X) → In x xs → p x ≡ true → In x (filter p xs)
  in_kept p x [] i e = absurd i
  in_kept p x (z ∷ xs) (inl q) e = cond_both (p z) (z ∷ filter p xs) (filter p xs) (λ l. In x l) (λ t. inl q) (λ f. absurd (true≢false (sym e ∙ ap p (sym q) ∙ f)))
  in_kept p x (z ∷ xs) (inr i) e = cond_both (p z) (z ∷ filter p xs) (filter p xs) (λ l. In x l) (λ t. inr (in_kept p x xs i e)) (λ f. in_kept p x xs i e)

  pub kept_in : (p : X → Bool) (x : X) (xs : List X) → In x (filter p xs) → In x xs × (p x ≡ true)
  kept_in p x [] = λ i. absurd i
  kept_in p x (z ∷ xs) =
      let later : In x (filter p xs) → In x (z ∷ xs) × (p x ≡ true) = λ i. (inr (kept_in p x xs i).0, (kept_in p x xs i).1) in
      cond_both (p z) (z ∷ filter p xs) (filter p xs) (λ l. In x l → In x (z ∷ xs) × (p x ≡ true)) (λ t. elim [ inl q ↦ (inl q, ap p (sym q) ∙ t) | inr i ↦ later i ]) (λ f. later)

  pub in_some : (p : X → Bool) (x : X) (xs : List X) → In x xs → p x ≡ true → some p xs ≡ true
  unfolding some
  in_some p x [] i e = absurd i
  in_some p x (z ∷ xs) (inl q) e = or_left (p z) (some p xs) (ap p q ∙ e)
  in_some p x (z ∷ xs) (inr i) e = or_right (p z) (some p xs) (in_some p x xs i e)

  pub some_in : (p : X → Bool) (xs : List X) → some p xs ≡ true → (x : X) × In x xs × (p x ≡ true)
  unfolding some
  some_in p [] e = absurd (true≢false (sym e))
  some_in p (z ∷ xs) e = elim (or_cases (p z) (some p xs) e) [ inl t ↦ (z, inl refl, t) | inr t ↦ let (x, i, q) = some_in p xs t in (x, inr i, q) ]

  pub not_some : (p : X → Bool) (xs : List X) → ((x : X) → In x xs → p x ≡ true → ⊥) → some p xs ≡ false
  not_some p xs none = elim (cases_Bool (some p xs)) [ inr f ↦ f | inl t ↦ let (x, i, e) = some_in p xs t in absurd (none x i e) ]

  pub none_in : (p : X → Bool) (x : X) (xs : List X) → some p xs ≡ false → In x xs → p x ≡ true → ⊥
  none_in p x xs none i e = both_ways (some p xs) none (in_some p x xs i e)

  -- none of xs passes p where each that did would stand in ys and pass q, and none there passes q
  pub some_weaker : (p q : X → Bool) (xs ys : List X) → ((x : X) → In x xs → p x ≡ true → In x ys × (q x ≡ true)) → some q ys ≡ false → some p xs ≡ false
  some_weaker p q xs ys w none = not_some p xs (λ x i e. none_in q x ys none (w x i e).0 (w x i e).1)

  pub some-both : (p q : X → Bool) (xs ys : List X) → (some p xs ≡ true → some q ys ≡ true) → (some q ys ≡ true → some p xs ≡ true) → some p xs ≡ some q ys
  some-both p q xs ys to from = elim (cases_Bool (some p xs)) [
    | inl t ↦ t ∙ sym (to t)
    | inr f ↦ elim (cases_Bool (some q ys)) [ inl t ↦ absurd (both_ways (some p xs) f (from t)) | inr g ↦ f ∙ sym g ]
  ]

  pub some-kept : (p q : X → Bool) (xs : List X) → some p xs ≡ false → some p (filter q xs) ≡ false
  some-kept p q xs none = some_weaker p p (filter q xs) xs (λ x i e. ((kept_in q x xs i).0, e)) none

  pub some-kept_not : (p : X → Bool) (xs : List X) → some p (filter (λ x. not (p x)) xs) ≡ false
  some-kept_not p xs = not_some p (filter (λ x. not (p x)) xs) (λ x i e. both_ways (p x) (not-true (p x) (kept_in (λ x. not (p x)) x xs i).1) e)

  -- `some` is what `any` gives
  pub some_is_any : (p : X → Bool) (xs : List X) → some p xs ≡ list_any p xs
  unfolding some
  some_is_any p [] = refl
  some_is_any p (x ∷ xs) = ap (λ b. p x || b) (some_is_any p xs)

  -- `any` over all, with a test that also asks whether the element is kept
  pub any_kept : (keep p : X → Bool) (xs : List X) → list_any (λ x. keep x && p x) xs ≡ some p (filter keep xs)
  unfolding some
  any_kept keep p [] = refl
  any_kept keep p (x ∷ xs) =
      let later = any_kept keep p xs in
      elim (keep x) as (λ k. ((k && p x) || list_any (λ y. keep y && p y) xs) ≡ some p (cond k (x ∷ filter keep xs) (filter keep xs))) [ true ↦ ap (λ b. p x || b) later | false ↦ later ]

module _ {X Y : Type 0} (f : X → Y) where
  pub in_map : (x : X) (xs : List X) → In x xs → In (f x) (map f xs)
  in_map x [] i = absurd i
  in_map x (z ∷ xs) (inl e) = inl (ap f e)
  in_map x (z ∷ xs) (inr i) = inr (in_map x xs i)

  pub map_in : (y : Y) (xs : List X) → In y (map f xs) → (x : X) × In x xs × (f x ≡ y)
  map_in y [] i = absurd i
  map_in y (z ∷ xs) (inl e) = (z, inl refl, e)
  map_in y (z ∷ xs) (inr i) = let (x, j, q) = map_in y xs i in (x, inr j, q)
