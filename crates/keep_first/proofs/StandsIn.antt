-- What preference adds: the one that stands in at the place of a first.
use Rattle.std.proofs.Common.{◌≡◌, Bool, true, false, cond, filter, Some, unwrap_or, ◌&&◌, ◌||◌, ◌⊎◌, List, [], ◌∷◌, ◌++◌, sym, refl, ap, ◌∙◌, subst, inl, inr}
use Rattle.std.specs.List.{ContainsAt as Has, find}
use Rattle.std.proofs.lemmas.Bool.{or_from, or_parts, and_parts, and_from, cond_both, cond-false}
use Rattle.keep_first.specs.Keep.{some, first_or, firsts, stand_in, keep_first}
use Rattle.keep_first.specs.Model.{Equivalence}
use Rattle.keep_first.specs.Laws.{StandsIn, Keeps}
use Rattle.keep_first.proofs.Members.{In, has_in, in_has, in_some, some_in, some-both, none_in, in_map, map_in}
use Rattle.keep_first.proofs.Firsts.{firsts-apart, firsts_within, firsts_reach, apart-map}

module _ {X : Type 0} (p : X → Bool) (d : X) where
  pub first_or_cases : (xs : List X) → ((first_or p d xs ≡ d) × (some p xs ≡ false)) ⊎ (In (first_or p d xs) xs × (p (first_or p d xs) ≡ true))
  unfolding first_or some
  first_or_cases [] = inl (refl, refl)
  first_or_cases (x ∷ xs) =
      cond_both (p x) x (first_or p d xs) (λ r. ((r ≡ d) × ((p x || some p xs) ≡ false)) ⊎ (In r (x ∷ xs) × (p r ≡ true)))
      (λ t. inr (inl refl, t))
      (λ f. elim (first_or_cases xs) [ inl h ↦ inl (h.0, or_from (p x) (some p xs) f h.1) | inr h ↦ inr (inr h.0, h.1) ])

  -- `find` over all, with a test that also asks whether the element is kept
  pub find_kept : (keep : X → Bool) (xs : List X) → unwrap_or (find (λ x. keep x && p x) xs) d ≡ first_or p d (filter keep xs)
  unfolding first_or
  find_kept keep [] = refl
  find_kept keep (x ∷ xs) =
      let later = find_kept keep xs in
      elim (keep x) as (λ k. unwrap_or (cond (k && p x) (Some x) (find (λ y. keep y && p y) xs)) d ≡ first_or p d (cond k (x ∷ filter keep xs) (filter keep xs))) [
        | true ↦ elim (p x) as (λ b. unwrap_or (cond b (Some x) (find (λ y. keep y && p y) xs)) d ≡ cond b x (first_or p d (filter keep xs))) [ true ↦ refl | false ↦ later ]
        | false ↦ later
      ]

  pub first_or_none : (xs : List X) → some p xs ≡ false → first_or p d xs ≡ d
  unfolding first_or some
  first_or_none [] none = refl
  first_or_none (x ∷ xs) none = cond-false (p x) x (first_or p d xs) (or_parts (p x) (some p xs) none).0 ∙ first_or_none xs (or_parts (p x) (some p xs) none).1

  pub first_or-append : (xs ys : List X) → some p xs ≡ false → first_or p d (xs ++ ys) ≡ first_or p d ys
  unfolding first_or some
  first_or-append [] ys none = refl
  first_or-append (x ∷ xs) ys none = cond-false (p x) x (first_or p d (xs ++ ys)) (or_parts (p x) (some p xs) none).0 ∙ first_or-append xs ys (or_parts (p x) (some p xs) none).1

module _ {X : Type 0} (same : X → X → Bool) (preferred : X → Bool) where
  pub stand_in_within : (xs : List X) (x : X) → In x xs → In (stand_in same preferred xs x) xs
  unfolding stand_in
  stand_in_within xs x i = elim (first_or_cases (λ y. same x y && preferred y) x xs) [ inl h ↦ subst (λ z. In z xs) (sym h.0) i | inr h ↦ h.0 ]

  pub stand_in_liked : (xs : List X) (x y : X) → In y xs → same x y ≡ true → preferred y ≡ true → preferred (stand_in same preferred xs x) ≡ true
  unfolding stand_in
  stand_in_liked xs x y i alike liked = elim (first_or_cases (λ y. same x y && preferred y) x xs) [
    | inl h ↦ absurd (none_in (λ y. same x y && preferred y) y xs h.1 i (and_from (same x y) (preferred y) alike liked))
    | inr h ↦ (and_parts (same x (stand_in same preferred xs x)) (preferred (stand_in same preferred xs x)) h.1).1
  ]

  -- each that is kept stands in for a first of the list
  pub kept_for : (xs : List X) (y : X) → In y (keep_first same preferred xs) → (x : X) × In x (firsts same xs) × (stand_in same preferred xs x ≡ y)
  kept_for xs y i = map_in (stand_in same preferred xs) y (firsts same xs) i

  module _ (law : Equivalence same) where
    pub stand_in_alike : (xs : List X) (x : X) → same x (stand_in same preferred xs x) ≡ true
    unfolding stand_in
    stand_in_alike xs x = elim (first_or_cases (λ y. same x y && preferred y) x xs) [
      | inl h ↦ ap (same x) h.0 ∙ law.reflexive x
      | inr h ↦ (and_parts (same x (stand_in same preferred xs x)) (preferred (stand_in same preferred xs x)) h.1).0
    ]

    pub stands_in : (xs : List X) (x : X) → Has xs x → StandsIn same preferred xs x
    stands_in xs x h = record {
      within = in_has xs (stand_in same preferred xs x) (stand_in_within xs x (has_in xs x h));
      alike = stand_in_alike xs x;
      liked = λ y i. stand_in_liked xs x y (has_in xs y i);
    }

    pub keeps : (xs : List X) → Keeps same preferred xs
    keeps xs =
        let s : X → X = stand_in same preferred xs in
        record {
          apart = apart-map same law s (stand_in_alike xs) (firsts same xs) (firsts-apart same xs);
          reached = λ x h.
              let (y, i, e) = firsts_reach same law x xs (has_in xs x h) in
              (s y, in_has (keep_first same preferred xs) (s y) (in_map s y (firsts same xs) i), law.transitive x y (s y) e (stand_in_alike xs y));
          within = λ y h.
              let (x, i, e) = kept_for xs y (has_in (keep_first same preferred xs) y h) in
              in_has xs y (subst (λ z. In z xs) e (stand_in_within xs x (firsts_within same x xs i)));
          liked = λ x y h good k e.
              let (z, i, q) = kept_for xs y (has_in (keep_first same preferred xs) y k) in
              let alike : same z y ≡ true = ap (same z) (sym q) ∙ stand_in_alike xs z in
              ap preferred (sym q) ∙ stand_in_liked xs z x (has_in xs x h) (law.transitive z y x alike e) good;
        }

    -- what is kept reaches all that the list reaches
    pub some-keep_first : (x : X) (xs : List X) → some (same x) (keep_first same preferred xs) ≡ some (same x) xs
    some-keep_first x xs = some-both (same x) (same x) (keep_first same preferred xs) xs
        (λ t.
        let (y, i, e) = some_in (same x) (keep_first same preferred xs) t in
        let (z, j, q) = kept_for xs y i in
        in_some (same x) y xs (subst (λ y. In y xs) q (stand_in_within xs z (firsts_within same z xs j))) e)
        (λ t.
        let (y, i, e) = some_in (same x) xs t in
        let (z, j, f) = firsts_reach same law y xs i in
        let s : X = stand_in same preferred xs z in
        in_some (same x) s (keep_first same preferred xs) (in_map (stand_in same preferred xs) z (firsts same xs) j)
        (law.transitive x z s (law.transitive x y z e f) (stand_in_alike xs z)))
