-- A part that is all of its bytes, both ways: for a roll, and for whatever else is packed.
use Rattle.std.proofs.Common.{◌≡◌, ℕ, ◌≤◌, ltb, List, length, Ok, Err, Result, sym, ap, ◌∙◌, subst, arith, MatchResult}
use Rattle.std.proofs.lemmas.Bool.{cond_both, le-ltb, ltb-false, cond-false}
use Rattle.address.specs.Text.{Text}
use Rattle.roll.specs.declared.fault.RollFault.TheVariants.{LeftOver}
use Rattle.roll.specs.declared.limits.Limits.{Limits}
use Rattle.roll.specs.Packing.{pack_roll}
use Rattle.roll.specs.Ends.{after, roll_end, filled, whole}
use Rattle.roll.specs.Reading.{texts}
use Rattle.roll.specs.Laws.{Bytes, Stands, Packed}
use Rattle.roll.proofs.Standing.{stands_whole, whole_stands}
use Rattle.roll.proofs.Parts.{went, reads_roll, packs_roll}

module _ {E : Type 0} (left_over : ℕ → E) (bs : List ℕ) where
  -- nothing was left over
  pub filled_read : (e : ℕ) → filled left_over bs e ≡ Ok tt → length bs ≤ e
  filled_read e =
      let P : Result (Unit {0}) E → Type 0 = λ o. o ≡ Ok tt → length bs ≤ e in
      cond_both (ltb e (length bs)) (Err (left_over e)) (Ok tt) P
      (λ t k. let z : ◌≡◌ {A = ℕ} 0 1 = cc in absurd (omega arith))
      (λ t k. ltb-false e (length bs) t)

  pub filled_whole : filled left_over bs (length bs) ≡ Ok tt
  filled_whole = cond-false _ _ _ (le-ltb (length bs) (length bs) (omega arith))

-- The answer of a check says which bytes are packed, where the check accepts them exactly when they are. `Packs p` says
-- that p packs to the bytes, and `read` is what is read from them.
pub either_way : {E P : Type 0} (Packs : P → Type 0) (read : P) (check : Result (Unit {0}) E) → (check ≡ Ok tt → Packs read) → ((p : P) → Packs p → check ≡ Ok tt) → (r : Result (Unit {0}) E) → r ≡ check → MatchResult r (λ _. Packs read) (λ _. (p : P) → Packs p → ⊥)
either_way Packs read check reads packs (Ok u) e = reads (sym e)
either_way Packs read check reads packs (Err f) e = λ p k. let w = packs p k in let z : ◌≡◌ {A = ℕ} 0 1 = cc in omega arith

module _ (l : Limits) (bs : List ℕ) where
  pub whole-packed : Bytes bs → whole l bs ≡ Ok tt → Packed l bs (texts bs)
  whole-packed b h =
      let p = went (roll_end l bs 0) (filled LeftOver bs) tt h in
      let r = reads_roll l bs 0 p.0 b p.1 in
      let e : p.0 ≡ length bs = omega (arith, filled_read LeftOver bs p.0 p.2, r.0.within) in
      record { within = r.1; packed = stands_whole bs (pack_roll (texts bs)) (subst (λ (x : ℕ). Stands bs 0 (pack_roll (texts bs)) x) e r.0) }

  pub packed-whole : (ts : List Text) → Packed l bs ts → (whole l bs ≡ Ok tt) × (texts bs ≡ ts)
  packed-whole ts p =
      let s : Stands bs 0 (pack_roll ts) (length bs) = rw p.packed (whole_stands bs) in
      let r = packs_roll l bs 0 (length bs) ts p.within s in
      (ap (λ e. after e (filled LeftOver bs)) r.0 ∙ filled_whole LeftOver bs, r.1)
