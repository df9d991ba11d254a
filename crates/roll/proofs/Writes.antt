-- Laws of writing over a list.
use Rattle.std.proofs.Common.{◌≡◌, ℕ, suc, ◌+◌, ◌≤◌, Bool, true, false, cond, ◌&&◌, List, [], ◌∷◌, ◌++◌, length, take, drop, set, Some, None, Option, sym, refl, ap, ◌∙◌, arith}
use borrow.Rule.Slice.PartMut.{put_mid}
use Rattle.std.proofs.lemmas.List.{length-take-le, drop_at, length-append, append_assoc, length-set, take-append-drop, drop-drop, drop-set-lt, take_more_set}
use Rattle.std.proofs.lemmas.Bool.{cond_both, cond-true, and_parts, leb-true}
use Rattle.roll.specs.Ends.{there}
use Rattle.roll.specs.Laws.{Stands, WritesRows}
use Rattle.roll.specs.Written.{written, put, put_end}

pub written_one : (d : List ℕ) (i x : ℕ) → set d i x ≡ written d i (x ∷ [])
unfolding written
written_one d i x = refl

pub written_none : (d : List ℕ) (i : ℕ) → d ≡ written d i []
unfolding written
written_none d i = refl

pub length-written : (xs d : List ℕ) (i : ℕ) → length (written d i xs) ≡ length d
unfolding written
length-written [] d i = refl
length-written (x ∷ xs) d i = length-written xs (set d i x) (i + 1) ∙ length-set d i x

-- one row, then the next: no bound is asked
pub written-append : (xs ys d : List ℕ) (i j : ℕ) → j ≡ i + length xs → written (written d i xs) j ys ≡ written d i (xs ++ ys)
unfolding written
written-append [] ys d i j e = let z : j ≡ i = omega arith in rw z
written-append (x ∷ xs) ys d i j e = written-append xs ys (set d i x) (i + 1) j (omega arith)

-- every place of what is left, where the row fits
pub written_is : (xs d : List ℕ) (i : ℕ) → i + length xs ≤ length d → written d i xs ≡ take i d ++ (xs ++ drop (i + length xs) d)
unfolding written
written_is [] d i h = let z : i + 0 ≡ i = omega arith in rw z (sym (take-append-drop i d))
written_is (x ∷ xs) d i h =
    let l = length-set d i x in
    let a : i + 1 + length xs ≡ i + suc (length xs) = omega arith in
    written_is xs (set d i x) (i + 1) (omega arith)
    ∙ rw (take_more_set d i x (omega arith), drop-set-lt (i + 1 + length xs) d i x (omega arith), append_assoc, a)

pub put_mid_written : (xs d : List ℕ) (i k : ℕ) → k ≡ length xs → i + length xs ≤ length d → put_mid i k d xs ≡ written d i xs
put_mid_written xs d i k e h = rw (written_is xs d i h, e, drop-drop)

-- a copy into the part from j on, after the row before it
pub copied : (d w t e u : List ℕ) (i j k : ℕ) → e ≡ written d i w → u ≡ t → j ≡ i + length w → k ≡ length t → i + length w + length t ≤ length d → put_mid j k e u ≡ written d i (w ++ t)
copied d w t e u i j k was is at n room =
    let l = length-written w d i in
    rw (was, is) (put_mid_written t (written d i w) j k n (omega arith) ∙ written-append w t d i j at)

-- what has been written stands
pub written_stands : (d row : List ℕ) (i : ℕ) → i + length row ≤ length d → Stands (written d i row) i row (i + length row)
written_stands d row i h =
    let e = written_is row d i h in
    let n : length (take i d) ≡ i = length-take-le i d (omega arith) in
    let f : drop i (written d i row) ≡ row ++ drop (i + length row) d = ap (drop i) e ∙ drop_at (take i d) (row ++ drop (i + length row) d) i n in
    let g : drop (i + length row) (written d i row) ≡ drop (i + length row) d = sym (drop-drop (length row) i (written d i row)) ∙ ap (drop (length row)) f ∙ drop_at row (drop (i + length row) d) (length row) refl in
    record {
      here = f ∙ ap (λ (x : List ℕ). row ++ x) (sym g);
      long = refl;
      within = omega (arith, length-written row d i);
    }

pub writes_rows : WritesRows
writes_rows d row i h = (written_stands d row i h, written_is row d i h)

-- a loop that writes: it stands at `end`, and what it was lent holds the row p from `at` on
pub record Wrote (p start tray : List ℕ) (at end : ℕ) : Type 0 where
  pub ends : end ≡ at + length p
  pub holds : tray ≡ written start at p

pub wrote_none : (p start : List ℕ) (at : ℕ) → p ≡ [] → Wrote p start start at at
wrote_none p start at e = rw e record { ends = omega arith; holds = written_none start at }

pub wrote_more : {p start tray : List ℕ} {at end : ℕ} → Wrote p start tray at end → (p' q tray' : List ℕ) (end' : ℕ) → p' ≡ p ++ q → tray' ≡ written tray end q → end' ≡ end + length q → Wrote p' start tray' at end'
wrote_more {p} {start} {tray} {at} {end} w p' q tray' end' e t n =
    let l = length-append p q in
    let s = w.ends in
    rw e
    record {
      ends = omega arith;
      holds = rw (t, w.holds) (written-append p q start at end w.ends);
    }

-- what a call that writes a row, or leaves the tray as it was, says by its answer
module _ (may : Bool) (d : List ℕ) (i : ℕ) (row : List ℕ) where
  pub record Put (e : ℕ) : Type 0 where
    pub might : may ≡ true
    pub ends : e ≡ i + length row
    pub within : e ≤ length d
    pub holds : put may d i row ≡ written d i row

  pub put_some : (e : ℕ) → Some e ≡ put_end may d i row → Put e
  put_some e =
      let P : Option ℕ → Type 0 = λ (o : Option ℕ). Some e ≡ o → Put e in
      cond_both (may && there d i (length row)) (Some (i + length row)) None P
      (λ t k.
      let q = and_parts may (there d i (length row)) t in
      let j : e ≡ i + length row = cc in
      record { might = q.0; ends = j; within = omega (arith, leb-true (i + length row) (length d) q.1); holds = cond-true _ _ _ t })
      (λ t k. let z : ◌≡◌ {A = ℕ} 0 1 = cc in absurd (omega arith))

  pub put_none : None ≡ put_end may d i row → put may d i row ≡ d
  put_none e =
      let P : Bool → Type 0 = λ (b : Bool). None ≡ cond b (Some (i + length row)) None → cond b (written d i row) d ≡ d in
      (elim (may && there d i (length row)) as P [
        | true ↦ λ k. let z : ◌≡◌ {A = ℕ} 0 1 = cc in absurd (omega arith)
        | false ↦ λ k. refl
      ])
      e
