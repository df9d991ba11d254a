-- A list of which no two are the same, and of which each is the same as one of another list, is no longer than that one.
use Rattle.std.proofs.Common.{◌≡◌, suc, ◌≤◌, Bool, true, false, cond, List, [], ◌∷◌, length, sym, refl, ap, ◌∙◌, inl, inr, arith}
use Rattle.std.proofs.lemmas.Bool.{cases_Bool, both_ways, true≢false, or_cases, or_left, or_right, cond_both}
use Rattle.keep_first.specs.Keep.{some, keep_first}
use Rattle.keep_first.specs.Model.{Equivalence}
use Rattle.keep_first.specs.Laws.{Apart}
use Rattle.keep_first.proofs.Members.{In, has_in, in_has, in_some, none_in}
use Rattle.keep_first.proofs.StandsIn.{keeps, some-keep_first}

module _ {X : Type 0} (same : X → X → Bool) (law : Equivalence same) where
  -- xs without the first that is the same as x
  abbrev less : X → List X → List X
  less x [] = []
  less x (y ∷ ys) = cond (same x y) ys (y ∷ less x ys)

  length_less : (x : X) (xs : List X) → some (same x) xs ≡ true → suc (length (less x xs)) ≡ length xs
  unfolding some
  length_less x [] e = absurd (true≢false (sym e))
  length_less x (y ∷ ys) e =
      cond_both (same x y) ys (y ∷ less x ys) (λ l. suc (length l) ≡ suc (length ys)) (λ _. refl)
      (λ f. ap suc (elim (or_cases (same x y) (some (same x) ys) e) [ inl t ↦ absurd (both_ways _ f t) | inr t ↦ length_less x ys t ]))

  some_less : (x z : X) (xs : List X) → same x z ≡ false → some (same z) xs ≡ true → some (same z) (less x xs) ≡ true
  unfolding some
  some_less x z [] n e = absurd (true≢false (sym e))
  some_less x z (y ∷ ys) n e =
      cond_both (same x y) ys (y ∷ less x ys) (λ l. some (same z) l ≡ true)
      (λ t. elim (or_cases (same z y) (some (same z) ys) e) [ inl s ↦ absurd (both_ways _ n (law.transitive x y z t (law.symmetric z y s))) | inr s ↦ s ])
      (λ _. elim (or_cases (same z y) (some (same z) ys) e) [ inl s ↦ or_left _ _ s | inr s ↦ or_right (same z y) _ (some_less x z ys n s) ])

  pub no_longer : (xs ys : List X) → Apart same xs → ((x : X) → In x xs → some (same x) ys ≡ true) → length xs ≤ length ys
  no_longer [] ys a h = omega arith
  no_longer (x ∷ xs) ys a h =
      let apart : (z : X) → In z xs → same x z ≡ false = λ z i. elim (cases_Bool (same x z)) [ inr n ↦ n | inl t ↦ absurd (none_in (same x) z xs a.0 i t) ] in
      let r : length xs ≤ length (less x ys) = no_longer xs (less x ys) a.1 (λ z i. some_less x z ys (apart z i) (h z (inr i))) in
      let e : suc (length (less x ys)) ≡ length ys = length_less x ys (h x (inl refl)) in
      omega arith

  -- so are those that are kept of a list, where the other has all of it
  pub kept_no_longer : (preferred : X → Bool) (xs ys : List X) → ((x : X) → In x xs → some (same x) ys ≡ true) → length (keep_first same preferred xs) ≤ length ys
  kept_no_longer preferred xs ys covers =
      let k = keeps same preferred law xs in
      no_longer (keep_first same preferred xs) ys k.apart (λ x i. covers x (has_in xs x (k.within x (in_has _ x i))))

  -- the more there are, the more are kept
  pub kept_grows : (preferred : X → Bool) (xs ys : List X) → ((x : X) → In x xs → In x ys) → length (keep_first same preferred xs) ≤ length (keep_first same preferred ys)
  kept_grows preferred xs ys more = kept_no_longer preferred xs (keep_first same preferred ys) (λ x i. some-keep_first same preferred law x ys ∙ in_some (same x) x ys (more x i) (law.reflexive x))
