-- The places of a roll one after another, by sameness alone.
use Rattle.std.proofs.Common.{◌≡◌, ℕ, zero, suc, ◌+◌, ◌-◌, ◌<◌, ◌≤◌, Bool, true, false, cond, not, List, [], ◌∷◌, ◌++◌, filter, sym, refl, ap, ◌∙◌, inl, inr, add-zero, zero-add, arith}
use Rattle.std.specs.List.{range_with_len}
use Rattle.std.proofs.lemmas.List.FromFn.{map-range_with_len_more}
use Rattle.std.proofs.lemmas.List.Elements.{filter-append}
use Rattle.std.proofs.lemmas.List.{append-nil, map-id}
use Rattle.std.proofs.lemmas.Bool.{cases_Bool}
use Rattle.keep_first.specs.Keep.{firsts}
use Rattle.keep_first.specs.Model.{Classes, places_below, places_between, has_earlier, is_first}
use Rattle.keep_first.proofs.Members.{In, kept_in}
use Rattle.keep_first.proofs.Firsts.{firsts_push}

pub counting_push : (a n : ℕ) → range_with_len a (n + 1) ≡ range_with_len a n ++ (a + n) ∷ []
counting_push a n = sym (map-id _) ∙ map-range_with_len_more (λ i. i) a n (a + n) refl ∙ ap (λ xs. xs ++ (a + n) ∷ []) (map-id _)

pub counting_append : (a m n : ℕ) → range_with_len a (m + n) ≡ range_with_len a m ++ range_with_len (a + m) n
counting_append a zero n = rw (zero-add, add-zero)
counting_append a (suc m) n =
    let e : suc m + n ≡ suc (m + n) = omega arith in
    let f : a + 1 + m ≡ a + suc m = omega arith in
    ap (range_with_len a) e ∙ ap (λ xs. a ∷ xs) (counting_append (a + 1) m n ∙ ap (λ b. range_with_len (a + 1) m ++ range_with_len b n) f)

pub counting_split : (i n : ℕ) → i ≤ n → range_with_len 0 n ≡ range_with_len 0 i ++ range_with_len i (n - i)
counting_split i n h =
    let e : n ≡ i + (n - i) = omega arith in
    ap (range_with_len 0) e ∙ counting_append 0 i (n - i) ∙ ap (λ a. range_with_len 0 i ++ range_with_len a (n - i)) (zero-add i)

pub in_counting : (x a n : ℕ) → In x (range_with_len a n) → (a ≤ x) × (x < a + n)
in_counting x a zero i = absurd i
in_counting x a (suc n) (inl e) = (omega arith, omega arith)
in_counting x a (suc n) (inr i) = let h = in_counting x (a + 1) n i in (omega (arith, h.0), omega (arith, h.1))

module _ (c : Classes) where
  pub places_between_none : (i n : ℕ) → n ≤ i → places_between c i n ≡ []
  places_between_none i n h = let e : n - i ≡ 0 = omega arith in ap (λ m. filter c.takes (range_with_len i m)) e

  pub places_below_push : (n : ℕ) → places_below c (n + 1) ≡ places_below c n ++ cond (c.takes n) (n ∷ []) []
  places_below_push n = ap (filter c.takes) (rw zero-add at (counting_push 0 n)) ∙ filter-append c.takes (range_with_len 0 n) (n ∷ [])

  pub places_below_split : (i n : ℕ) → i ≤ n → places_below c n ≡ places_below c i ++ places_between c i n
  places_below_split i n h = ap (filter c.takes) (counting_split i n h) ∙ filter-append c.takes (range_with_len 0 i) (range_with_len i (n - i))

  pub in_places_below : (x n : ℕ) → In x (places_below c n) → (x < n) × (c.takes x ≡ true)
  in_places_below x n i =
      let (j, t) = kept_in c.takes x (range_with_len 0 n) i in
      let h = in_counting x 0 n j in
      (omega (arith, h.1), t)

  -- the firsts of the places, one place on
  pub firsts_more : (n : ℕ) → firsts c.same (places_below c (n + 1)) ≡ firsts c.same (places_below c n) ++ cond (is_first c n) (n ∷ []) []
  firsts_more n =
      let earlier : Bool = has_earlier c n in
      let before : List ℕ = firsts c.same (places_below c n) in
      ap (firsts c.same) (places_below_push n)
      ∙ elim (cases_Bool (c.takes n)) [
        | inl t ↦ rw t (firsts_push c.same (places_below c n) n ∙ ap (λ l. before ++ l) (elim earlier as (λ b. cond b [] (n ∷ []) ≡ cond (not b) (n ∷ []) []) [ true ↦ refl | false ↦ refl ]))
        | inr f ↦ rw f (ap (firsts c.same) (append-nil (places_below c n)) ∙ sym (append-nil before))
      ]
