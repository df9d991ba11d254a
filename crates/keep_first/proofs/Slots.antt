-- What keep_first answers and leaves in the slots.
use Rattle.std.proofs.Common.{◌≡◌, ℕ, ◌≤◌, Bool, true, false, leb, List, ◌++◌, length, take, drop, Some, None, sym, refl, ap, ◌∙◌, inl, inr, arith}
use Rattle.std.proofs.lemmas.List.{take_at, drop_at}
use Rattle.std.proofs.lemmas.Bool.{cases_Bool, and_parts, leb-true, cond-true, cond-false}
use Rattle.keep_first.specs.Model.{Classes, kept, fits, kept_count, kept_slots}

-- slots that suffice are no fewer than the places, and 16 bits can number each place
pub fits-parts : (c : Classes) (slots : List ℕ) → fits c slots ≡ true → (c.count ≤ length slots) × (c.count ≤ 65536)
fits-parts c slots e =
    let (h, l) = and_parts (leb c.count (length slots)) (leb c.count 65536) e in
    (leb-true c.count (length slots) h, leb-true c.count 65536 l)

module _ (c : Classes) (slots : List ℕ) (preferred : ℕ → Bool) where
  pub count_kept : (k : ℕ) → fits c slots ≡ true → k ≡ length (kept c preferred) → Some k ≡ kept_count c preferred slots
  count_kept k e long = ap Some long ∙ sym (cond-true (fits c slots) (Some (length (kept c preferred))) None e)

  pub count_refused : fits c slots ≡ false → None ≡ kept_count c preferred slots
  count_refused e = sym (cond-false (fits c slots) (Some (length (kept c preferred))) None e)

  pub slots_kept : fits c slots ≡ true → kept_slots c preferred slots ≡ kept c preferred ++ drop (length (kept c preferred)) slots
  slots_kept e = cond-true (fits c slots) (kept c preferred ++ drop (length (kept c preferred)) slots) slots e

  -- slots that do not suffice stay as they were
  pub slots_refused : fits c slots ≡ false → kept_slots c preferred slots ≡ slots
  slots_refused e = cond-false (fits c slots) (kept c preferred ++ drop (length (kept c preferred)) slots) slots e

  -- the other way, for callers: an answer tells whether the slots sufficed, and how many are kept
  pub answered-some : (k : ℕ) → Some k ≡ kept_count c preferred slots → (fits c slots ≡ true) × (k ≡ length (kept c preferred))
  answered-some k e = elim (cases_Bool (fits c slots)) [
    | inl t ↦ let q : Some k ≡ Some (length (kept c preferred)) = e ∙ sym (count_kept (length (kept c preferred)) t refl) in (t, cc)
    | inr f ↦ let q : Some k ≡ None = e ∙ sym (count_refused f) in let z : ◌≡◌ {A = ℕ} 0 1 = cc in absurd (omega arith)
  ]

  -- and no answer, that they did not suffice
  pub answered_none : None ≡ kept_count c preferred slots → fits c slots ≡ false
  answered_none e = elim (cases_Bool (fits c slots)) [
    | inl t ↦ let q : None ≡ Some (length (kept c preferred)) = e ∙ sym (count_kept (length (kept c preferred)) t refl) in let z : ◌≡◌ {A = ℕ} 0 1 = cc in absurd (omega arith)
    | inr f ↦ f
  ]

  -- the first slots, as many as the answer says, hold what is kept
  pub slots_front : (k : ℕ) → Some k ≡ kept_count c preferred slots → take k (kept_slots c preferred slots) ≡ kept c preferred
  slots_front k e = let (t, long) = answered-some k e in ap (take k) (slots_kept t) ∙ take_at (kept c preferred) (drop (length (kept c preferred)) slots) k (sym long)

  -- those behind them are as they were
  pub slots_rest : (k : ℕ) → Some k ≡ kept_count c preferred slots → drop k (kept_slots c preferred slots) ≡ drop k slots
  slots_rest k e =
      let (t, long) = answered-some k e in
      ap (drop k) (slots_kept t) ∙ drop_at (kept c preferred) (drop (length (kept c preferred)) slots) k (sym long) ∙ ap (λ n. drop n slots) (sym long)
