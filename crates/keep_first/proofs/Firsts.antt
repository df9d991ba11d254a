-- What sameness alone gives: the firsts of a list.
use Rattle.std.proofs.Common.{◌≡◌, ◌≤◌, Bool, true, false, cond, not, ◌||◌, List, [], ◌∷◌, ◌++◌, map, length, filter, sym, refl, ap, ◌∙◌, inl, inr, arith}
use Rattle.std.proofs.lemmas.Bool.{cases_Bool, not_from_false, cond_both}
use Rattle.std.proofs.lemmas.List.Elements.{filter-append}
use Rattle.keep_first.specs.Keep.{some, firsts}
use Rattle.keep_first.specs.Model.{Equivalence}
use Rattle.keep_first.specs.Laws.{Apart, Part, KeepsFirsts}
use Rattle.keep_first.specs.Laws.Part.{none, with_it, without}
use Rattle.keep_first.proofs.Members.{In, has_in, in_has, in_kept, in_some, some_in, some-both, none_in, not_some, some-kept, some-kept_not, map_in}

module _ {X : Type 0} where
  pub part_kept : (p : X → Bool) (ys xs : List X) → Part ys xs → Part (filter p ys) xs
  part_kept p ys xs none = none
  part_kept p (y ∷ ys) (x ∷ xs) (with_it r) =
      cond_both (p y) (y ∷ filter p ys) (filter p ys) (λ l. Part l (x ∷ xs)) (λ _. with_it (part_kept p ys xs r)) (λ _. without (part_kept p ys xs r))
  part_kept p ys (x ∷ xs) (without r) = without (part_kept p ys xs r)

  pub part_all : (xs : List X) → Part xs xs
  part_all [] = none
  part_all (x ∷ xs) = with_it (part_all xs)

  pub part_length : (ys xs : List X) → Part ys xs → length ys ≤ length xs
  part_length ys xs none = omega arith
  part_length (y ∷ ys) (x ∷ xs) (with_it r) = omega (arith, part_length ys xs r)
  part_length ys (x ∷ xs) (without r) = omega (arith, part_length ys xs r)

  pub part_in : (x : X) (ys xs : List X) → Part ys xs → In x ys → In x xs
  part_in x ys xs none i = i
  part_in x (y ∷ ys) (z ∷ xs) (with_it r) (inl e) = inl e
  part_in x (y ∷ ys) (z ∷ xs) (with_it r) (inr i) = inr (part_in x ys xs r i)
  part_in x ys (z ∷ xs) (without r) i = inr (part_in x ys xs r i)

module _ {X : Type 0} (same : X → X → Bool) where
  pub apart-kept : (p : X → Bool) (xs : List X) → Apart same xs → Apart same (filter p xs)
  apart-kept p [] a = tt
  apart-kept p (x ∷ xs) a =
      cond_both (p x) (x ∷ filter p xs) (filter p xs) (Apart same) (λ _. (some-kept (same x) p xs a.0, apart-kept p xs a.1)) (λ _. apart-kept p xs a.1)

  pub firsts-apart : (xs : List X) → Apart same (firsts same xs)
  unfolding firsts
  firsts-apart [] = tt
  firsts-apart (x ∷ xs) = (some-kept_not (same x) (firsts same xs), apart-kept (λ y. not (same x y)) (firsts same xs) (firsts-apart xs))

  pub firsts_part : (xs : List X) → Part (firsts same xs) xs
  unfolding firsts
  firsts_part [] = none
  firsts_part (x ∷ xs) = with_it (part_kept (λ y. not (same x y)) (firsts same xs) xs (firsts_part xs))

  pub firsts_within : (x : X) (xs : List X) → In x (firsts same xs) → In x xs
  firsts_within x xs i = part_in x (firsts same xs) xs (firsts_part xs) i

  -- one more at the end is a first where none before it is the same
  pub firsts_push : (xs : List X) (y : X) → firsts same (xs ++ y ∷ []) ≡ firsts same xs ++ cond (some (λ x. same x y) xs) [] (y ∷ [])
  unfolding firsts some
  firsts_push [] y = refl
  firsts_push (x ∷ xs) y =
      let p : X → Bool = λ z. not (same x z) in
      let last : (b : Bool) → filter p (cond b [] (y ∷ [])) ≡ cond (same x y || b) [] (y ∷ []) =
      λ b. elim (cases_Bool (same x y)) [
        | inl t ↦ elim b as (λ b. filter p (cond b [] (y ∷ [])) ≡ cond (same x y || b) [] (y ∷ [])) [ true ↦ rw t | false ↦ rw t ]
        | inr f ↦ elim b as (λ b. filter p (cond b [] (y ∷ [])) ≡ cond (same x y || b) [] (y ∷ [])) [ true ↦ rw f | false ↦ rw f ]
      ] in
      ap (λ l. x ∷ l) (ap (filter p) (firsts_push xs y) ∙ filter-append p (firsts same xs) _ ∙ ap (λ l. filter p (firsts same xs) ++ l) (last (some (λ x. same x y) xs)))

  module _ (law : Equivalence same) where
    pub firsts_reach : (x : X) (xs : List X) → In x xs → (y : X) × In y (firsts same xs) × (same x y ≡ true)
    unfolding firsts
    firsts_reach x [] i = absurd i
    firsts_reach x (z ∷ xs) (inl e) = (z, inl refl, ap (same x) e ∙ law.reflexive x)
    firsts_reach x (z ∷ xs) (inr i) =
        let (y, j, e) = firsts_reach x xs i in
        elim (cases_Bool (same z y)) [
          | inl t ↦ (z, inl refl, law.transitive x y z e (law.symmetric z y t))
          | inr f ↦ (y, inr (in_kept (λ y. not (same z y)) y (firsts same xs) j (not_from_false (same z y) f)), e)
        ]

    pub keeps_firsts : (xs : List X) → KeepsFirsts same xs
    keeps_firsts xs = record {
      apart = firsts-apart xs;
      reached = λ x h. let (y, i, e) = firsts_reach x xs (has_in xs x h) in (y, in_has (firsts same xs) y i, e);
      ordered = firsts_part xs;
    }

    -- the firsts reach all that the list reaches
    pub some-firsts : (x : X) (xs : List X) → some (same x) (firsts same xs) ≡ some (same x) xs
    some-firsts x xs = some-both (same x) (same x) (firsts same xs) xs
        (λ t. let (y, i, e) = some_in (same x) (firsts same xs) t in in_some (same x) y xs (firsts_within y xs i) e)
        (λ t.
        let (y, i, e) = some_in (same x) xs t in
        let (z, j, f) = firsts_reach y xs i in
        in_some (same x) z (firsts same xs) j (law.transitive x y z e f))

    -- what each is replaced by is the same, so that they stay apart
    pub apart-map : (f : X → X) → ((x : X) → same x (f x) ≡ true) → (xs : List X) → Apart same xs → Apart same (map f xs)
    apart-map f alike [] a = tt
    apart-map f alike (x ∷ xs) a = (
      not_some (same (f x)) (map f xs) (λ y i e.
          let (z, j, q) = map_in f y xs i in
          let back : same y z ≡ true = law.symmetric z y (ap (same z) (sym q) ∙ alike z) in
          none_in (same x) z xs a.0 j (law.transitive x (f x) z (alike x) (law.transitive (f x) y z e back))),
      apart-map f alike xs a.1,
    )
