-- Keep-first by tests that agree on the list, and over what a function makes of the list.
use Rattle.std.proofs.Common.{◌≡◌, Bool, not, ◌&&◌, ◌||◌, List, [], ◌∷◌, map, filter, sym, refl, ap, ◌∙◌, inl, inr}
use mathlib.Core.List.{map-map}
use Rattle.std.proofs.lemmas.Bool.{cases_Bool}
use Rattle.keep_first.specs.Keep.{some, first_or, firsts, stand_in, keep_first}
use Rattle.keep_first.specs.Laws.{Commutes}
use Rattle.keep_first.proofs.Members.{In}
use Rattle.keep_first.proofs.Firsts.{firsts_within}

module _ {X : Type 0} where
  -- whether some element passes is the same by two tests that agree on the list
  pub some_agrees : (p q : X → Bool) (xs : List X) → ((x : X) → In x xs → p x ≡ q x) → some p xs ≡ some q xs
  unfolding some
  some_agrees p q [] e = refl
  some_agrees p q (x ∷ xs) e = rw (e x (inl refl), some_agrees p q xs (λ y i. e y (inr i)))

  pub kept_by_agrees : (p q : X → Bool) (xs : List X) → ((x : X) → In x xs → p x ≡ q x) → filter p xs ≡ filter q xs
  kept_by_agrees p q [] e = refl
  kept_by_agrees p q (x ∷ xs) e = rw (e x (inl refl), kept_by_agrees p q xs (λ y i. e y (inr i)))

  -- and so is the first that passes
  pub first_or_agrees : (p q : X → Bool) (d : X) (xs : List X) → ((x : X) → In x xs → p x ≡ q x) → first_or p d xs ≡ first_or q d xs
  unfolding first_or
  first_or_agrees p q d [] e = refl
  first_or_agrees p q d (x ∷ xs) e = rw (e x (inl refl), first_or_agrees p q d xs (λ y i. e y (inr i)))

  pub map_agrees : {Y : Type 0} (f g : X → Y) (xs : List X) → ((x : X) → In x xs → f x ≡ g x) → map f xs ≡ map g xs
  map_agrees f g [] e = refl
  map_agrees f g (x ∷ xs) e = rw (e x (inl refl), map_agrees f g xs (λ y i. e y (inr i)))

  module _ (same alike : X → X → Bool) where
    -- the firsts are the same by two samenesses that agree on the list
    pub firsts_agrees : (xs : List X) → ((x y : X) → In x xs → In y xs → same x y ≡ alike x y) → firsts same xs ≡ firsts alike xs
    unfolding firsts
    firsts_agrees [] e = refl
    firsts_agrees (x ∷ xs) e =
        ap (λ l. x ∷ l)
        (kept_by_agrees (λ y. not (same x y)) (λ y. not (alike x y)) (firsts same xs) (λ y i. ap not (e x y (inl refl) (inr (firsts_within same y xs i))))
        ∙ ap (filter (λ y. not (alike x y))) (firsts_agrees xs (λ y z i j. e y z (inr i) (inr j))))

    module _ (preferred liked : X → Bool) where
      -- what stands at a place is the same where the preferences agree too
      pub stand_in_agrees : (xs : List X) (x : X) → ((y : X) → In y xs → same x y ≡ alike x y) → ((y : X) → In y xs → preferred y ≡ liked y) → stand_in same preferred xs x ≡ stand_in alike liked xs x
      unfolding stand_in
      stand_in_agrees xs x e f = first_or_agrees (λ y. same x y && preferred y) (λ y. alike x y && liked y) x xs (λ y i. rw (e y i, f y i))

      -- and so is what is kept
      pub keep_first_agrees : (xs : List X) → ((x y : X) → In x xs → In y xs → same x y ≡ alike x y) → ((x : X) → In x xs → preferred x ≡ liked x) → keep_first same preferred xs ≡ keep_first alike liked xs
      keep_first_agrees xs e f =
          map_agrees (stand_in same preferred xs) (stand_in alike liked xs) (firsts same xs) (λ x i. stand_in_agrees xs x (λ y j. e x y (firsts_within same x xs i) j) f)
          ∙ ap (map (stand_in alike liked xs)) (firsts_agrees xs e)

module _ {X Y : Type 0} (f : X → Y) where
  pub some-map : (p : Y → Bool) (xs : List X) → some (λ x. p (f x)) xs ≡ some p (map f xs)
  unfolding some
  some-map p [] = refl
  some-map p (x ∷ xs) = ap (λ b. p (f x) || b) (some-map p xs)

  pub kept_by_map : (p : Y → Bool) (xs : List X) → map f (filter (λ x. p (f x)) xs) ≡ filter p (map f xs)
  kept_by_map p [] = refl
  kept_by_map p (x ∷ xs) = elim (cases_Bool (p (f x))) [ inl t ↦ rw (t, kept_by_map p xs) | inr e ↦ rw (e, kept_by_map p xs) ]

  pub first_or-map : (p : Y → Bool) (d : X) (xs : List X) → f (first_or (λ x. p (f x)) d xs) ≡ first_or p (f d) (map f xs)
  unfolding first_or
  first_or-map p d [] = refl
  first_or-map p d (x ∷ xs) = elim (cases_Bool (p (f x))) [ inl t ↦ rw t | inr e ↦ rw (e, first_or-map p d xs) ]

  module _ (same : Y → Y → Bool) where
    pub firsts-map : (xs : List X) → map f (firsts (λ x y. same (f x) (f y)) xs) ≡ firsts same (map f xs)
    unfolding firsts
    firsts-map [] = refl
    firsts-map (x ∷ xs) = ap (λ l. f x ∷ l) (kept_by_map (λ y. not (same (f x) y)) (firsts (λ x y. same (f x) (f y)) xs) ∙ ap (filter (λ y. not (same (f x) y))) (firsts-map xs))

    pub stand_in-map : (preferred : Y → Bool) (xs : List X) (x : X) → f (stand_in (λ x y. same (f x) (f y)) (λ x. preferred (f x)) xs x) ≡ stand_in same preferred (map f xs) (f x)
    unfolding stand_in
    stand_in-map preferred xs x = first_or-map (λ y. same (f x) y && preferred y) x xs

pub commutes : (X Y : Type 0) → Commutes X Y
commutes X Y f same preferred xs =
    let below : X → X → Bool = λ x y. same (f x) (f y) in
    let s : X → X = stand_in below (λ x. preferred (f x)) xs in
    map-map f s (firsts below xs)
    ∙ map_agrees (λ x. f (s x)) (λ x. stand_in same preferred (map f xs) (f x)) (firsts below xs) (λ x _. stand_in-map f same preferred xs x)
    ∙ sym (map-map (stand_in same preferred (map f xs)) f (firsts below xs))
    ∙ ap (map (stand_in same preferred (map f xs))) (firsts-map f same xs)
