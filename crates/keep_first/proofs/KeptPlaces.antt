-- The places of a roll that are kept, by sameness and preference.
use Rattle.std.proofs.Common.{◌≡◌, ℕ, zero, suc, ◌+◌, ◌<◌, ◌≤◌, Bool, true, false, cond, not, ◌&&◌, List, [], ◌∷◌, ◌++◌, map, length, Some, None, Option, IfSome, is_some, sym, refl, ap, ◌∙◌, subst, inl, inr, zero-add, add-one, arith}
use Rattle.std.specs.List.{range_with_len, flat_map}
use Rattle.std.specs.Option.{option_to_list}
use Rattle.std.proofs.lemmas.List.FromFn.{length-range_with_len}
use Rattle.std.proofs.lemmas.List.{length-map, map-append, flat_map_more}
use Rattle.std.proofs.lemmas.Bool.{cases_lt, cases_Bool, and_parts, not-true, cond-true, cond-false}
use Rattle.keep_first.specs.Keep.{some, first_or, firsts, stand_in}
use Rattle.keep_first.specs.Model.{Classes, Equivalence, places_below, places_between, places, has_earlier, is_first, kept, stand_in_from, standing_at}
use Rattle.keep_first.proofs.Members.{In, in_left, some_weaker}
use Rattle.keep_first.proofs.Firsts.{part_all, part_kept, part_length, firsts_part, firsts_within}
use Rattle.keep_first.proofs.StandsIn.{first_or_cases, first_or_none, first_or-append, stand_in_within, kept_for}
use Rattle.keep_first.proofs.Places.{counting_push, in_places_below, places_below_split, places_between_none, firsts_more}

module _ (c : Classes) (preferred : ℕ → Bool) where
  -- what is kept of the places below n
  abbrev pub kept_below : ℕ → List ℕ
  kept_below n = map (stand_in c.same preferred (places c)) (firsts c.same (places_below c n))

  pub kept_below_none : [] ≡ kept_below 0
  unfolding firsts
  kept_below_none = refl

  pub kept_below_more : (n : ℕ) → kept_below (n + 1) ≡ kept_below n ++ option_to_list (standing_at c preferred n)
  kept_below_more n =
      let f : ℕ → ℕ = stand_in c.same preferred (places c) in
      ap (map f) (firsts_more c n)
      ∙ map-append f (firsts c.same (places_below c n)) (cond (is_first c n) (n ∷ []) [])
      ∙ ap (λ l. kept_below n ++ l) (elim (is_first c n) as (λ b. map f (cond b (n ∷ []) []) ≡ option_to_list (cond b (Some (f n)) None)) [ true ↦ refl | false ↦ refl ])

  gathered_below : (n : ℕ) → flat_map (λ i. option_to_list (standing_at c preferred i)) (range_with_len 0 n) ≡ kept_below n
  gathered_below zero = kept_below_none
  gathered_below (suc n) =
      let g : ℕ → List ℕ = λ i. option_to_list (standing_at c preferred i) in
      let e : range_with_len 0 (n + 1) ≡ range_with_len 0 n ++ n ∷ [] = rw zero-add at (counting_push 0 n) in
      let P : ℕ → Type 0 = λ k. flat_map g (range_with_len 0 k) ≡ kept_below k in
      subst P (add-one n) (ap (flat_map g) e ∙ sym (flat_map_more g [] (range_with_len 0 n) n) ∙ ap (λ l. l ++ g n) (gathered_below n) ∙ sym (kept_below_more n))

  -- what is kept is what stands at each place in turn
  pub gathered : flat_map (λ i. option_to_list (standing_at c preferred i)) (range_with_len 0 c.count) ≡ kept c preferred
  gathered = gathered_below c.count

  -- where no place before i is the same, the search may begin at i
  pub stand_in_from-first : Equivalence c.same → (i : ℕ) → has_earlier c i ≡ false → stand_in_from c preferred i ≡ stand_in c.same preferred (places c) i
  unfolding stand_in first_or
  stand_in_from-first law i none =
      let p : ℕ → Bool = λ j. c.same i j && preferred j in
      let before : some p (places_below c i) ≡ false =
      some_weaker p (λ j. c.same j i) (places_below c i) (places_below c i) (λ j k e. (k, law.symmetric i j (and_parts (c.same i j) (preferred j) e).0)) none in
      elim (cases_lt i c.count) [
        | inl h ↦ sym (ap (first_or p i) (places_below_split c i c.count (omega arith)) ∙ first_or-append p i (places_below c i) (places_between c i c.count) before)
        | inr h ↦
            let short : some p (places c) ≡ false =
            some_weaker p p (places c) (places_below c i) (λ j k e. (subst (In j) (sym (places_below_split c c.count i h)) (in_left j (places c) (places_between c c.count i) k), e)) before in
            ap (first_or p i) (places_between_none c i c.count h) ∙ sym (first_or_none p i (places c) short)
      ]

  -- an answer that is there where place i is first, and then is what stands there
  pub standing_is : Equivalence c.same → (i : ℕ) (r : Option ℕ) → is_some r ≡ is_first c i → IfSome r (λ k. k ≡ stand_in_from c preferred i) → r ≡ standing_at c preferred i
  standing_is law i None e at = sym (cond-false (is_first c i) _ _ (sym e))
  standing_is law i (Some k) e at =
      let (part, none) = and_parts (c.takes i) (not (has_earlier c i)) (sym e) in
      ap Some (at ∙ stand_in_from-first law i (not-true (has_earlier c i) none)) ∙ sym (cond-true (is_first c i) _ _ (sym e))

  -- what is kept are places of the roll that take part
  pub kept_within : (x : ℕ) → In x (kept c preferred) → (x < c.count) × (c.takes x ≡ true)
  kept_within x i =
      let (y, j, e) = kept_for c.same preferred (places c) x i in
      in_places_below c x c.count (subst (λ z. In z (places c)) e (stand_in_within c.same preferred (places c) y (firsts_within c.same y (places c) j)))

  pub length-kept : length (kept c preferred) ≤ c.count
  length-kept =
      let all : List ℕ = range_with_len 0 c.count in
      let part = part_length (firsts c.same (places c)) (places c) (firsts_part c.same (places c)) in
      let kept_part = part_length (places c) all (part_kept c.takes all all (part_all all)) in
      omega (arith, part, kept_part, length-range_with_len 0 c.count, length-map (firsts c.same (places c)) (stand_in c.same preferred (places c)))

  -- what stands at a place of the roll is a place of the roll
  pub standing_within : (i r : ℕ) → i < c.count → Some r ≡ standing_at c preferred i → r < c.count
  unfolding stand_in
  standing_within i r h e =
      let p : ℕ → Bool = λ j. c.same i j && preferred j in
      let at : first_or p i (places c) < c.count = elim (first_or_cases p i (places c)) [
        | inl q ↦ omega (arith, q.0)
        | inr q ↦ (in_places_below c (first_or p i (places c)) c.count q.0).0
      ] in
      elim (cases_Bool (is_first c i)) [
        | inl t ↦ let q : Some r ≡ Some (first_or p i (places c)) = e ∙ cond-true (is_first c i) _ _ t in
            let s : r ≡ first_or p i (places c) = cc in omega arith
        | inr f ↦ let q : Some r ≡ None = e ∙ cond-false (is_first c i) _ _ f in
            let z : ◌≡◌ {A = ℕ} 0 1 = cc in omega arith
      ]
