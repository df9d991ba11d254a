-- Each part of a record, both ways: read, it is what stands there; standing there, it is read.
use Rattle.std.proofs.Common.{◌≡◌, ℕ, ◌+◌, ◌%◌, ◌<◌, ◌≤◌, Bool, true, false, not, ◌||◌, eqb, ltb, leb, List, [], ◌∷◌, length, get_or, is_some, Some, None, Ok, Err, Option, Result, sym, refl, ap, ◌∙◌, subst, ⊎_elim, arith}
use Rattle.std.proofs.lemmas.List.{length-append}
use Rattle.std.proofs.lemmas.Bool.{le-leb, lt-ltb, leb-true, ltb-true, eqb-true, eq-eqb, and_parts, and_from, or_cases, or_left, or_right, both_ways, not-true, not_from_false, cases_Bool, cond-true}
use Rattle.std.specs.List.{AllByRecursion}
use Rattle.address.specs.Text.{Text}
use Rattle.roll.specs.Packing.{word, pack_text, pack_texts, pack_roll}
use Rattle.roll.specs.Ends.{roll_end}
use Rattle.roll.specs.Reading.{texts_at}
use Rattle.roll.specs.Laws.{Bytes, Stands}
use Rattle.roll.specs.declared.fault.RollFault.{RollFault}
use Rattle.roll.proofs.Standing.{nothing, one}
use Rattle.roll.proofs.Parts.{passed, ok_same, packs_byte, reads_roll, packs_roll}
use Rattle.email_policy.specs.Ends.{in_record, byte_end, in_roll, part_end, map_end, if_bit}
use Rattle.email_policy.specs.Packing.{pack_field, some_text, pack_part}
use Rattle.email_policy.specs.Reading.{field_at, part_at, past}
use Rattle.email_policy.proofs.Numbers.{Numbered}

-- a field byte

module _ {X : Type 0} (number : X → ℕ) (value : ℕ → X) (max : ℕ) (n : Numbered number value max) (bs : List ℕ) (a e : ℕ) where
  pub reads_field : (on : Bool) → a ≤ length bs → if_bit on (byte_end max) bs a ≡ Ok e → Stands bs a (pack_field number (field_at value on bs a)) e × (e ≡ past on a)
  reads_field true l h =
      let p = passed _ _ _ e h in
      let q = and_parts _ _ p.0 in
      let s : a + 1 ≡ e = ok_same p.1 in
      let k = n.number_back (get_or bs a 0) (leb-true _ _ q.1) in
      (rw k (subst (λ (x : ℕ). Stands bs a (get_or bs a 0 ∷ []) x) s (one bs a (ltb-true _ _ q.0))), sym s)
  reads_field false l h = let s : a ≡ e = ok_same h in (subst (λ (x : ℕ). Stands bs a [] x) s (nothing bs a l), sym s)

  pub packs_field : (o : Option X) → Stands bs a (pack_field number o) e → (if_bit (is_some o) (byte_end max) bs a ≡ Ok e) × (field_at value (is_some o) bs a ≡ o) × (e ≡ past (is_some o) a)
  packs_field None s = let l = s.long in let z : a ≡ e = omega arith in (ap Ok z, refl, sym z)
  packs_field (Some x) s =
      let p = packs_byte bs a e (number x) s in
      let w = p.1 in
      let i : ltb a (length bs) ≡ true = lt-ltb _ _ (omega arith) in
      let j : leb (get_or bs a 0) max ≡ true = le-leb _ _ (omega (arith, p.0, n.small x)) in
      (cond-true _ _ _ (and_from _ _ i j) ∙ ap Ok (sym p.2), ap (λ b. Some (value b)) p.0 ∙ ap Some (n.back x), p.2)

-- a roll

roll_went : (r : Result ℕ RollFault) (e : ℕ) → in_roll r ≡ Ok e → r ≡ Ok e
roll_went (Ok x) e h = ap Ok (ok_same h)
roll_went (Err f) e h = let z : ◌≡◌ {A = ℕ} 0 1 = cc in absurd (omega arith)

some-there : (ts : List Text) → 1 ≤ length ts → (pack_part ts ≡ pack_roll ts) × (some_text ts ≡ true)
some-there [] h = absurd (omega arith)
some-there (t ∷ ts) h = (refl, refl)

-- each text is shorter than their roll
pub texts_short : (n : ℕ) (ts : List Text) → length (pack_texts ts) ≤ n → AllByRecursion (λ t. length t ≤ n) ts
unfolding pack_texts
texts_short n [] h = tt
texts_short n (t ∷ ts) h =
    let l = length-append (pack_text t) (pack_texts ts) in
    let k = length-append (word (length t)) t in
    (omega arith, texts_short n ts (omega arith))

part_long : (ts : List Text) → length (pack_texts ts) ≤ length (pack_part ts)
unfolding pack_texts
part_long [] = omega arith
part_long (t ∷ ts) = omega (arith, length-append (word (length (t ∷ ts))) (pack_texts (t ∷ ts)))

module _ (bs : List ℕ) (a e : ℕ) where
  pub record ReadPart (on : Bool) : Type 0 where
    pub stands : Stands bs a (pack_part (part_at on bs a)) e
    pub few : length (part_at on bs a) ≤ 32
    pub some : some_text (part_at on bs a) ≡ on

  pub reads_part : (on : Bool) → Bytes bs → a ≤ length bs → if_bit on part_end bs a ≡ Ok e → ReadPart on
  reads_part true b l h =
      let r = reads_roll in_record bs a e b (roll_went (roll_end in_record bs a) e h) in
      let t = some-there (texts_at bs a) r.1.least in
      record { stands = rw t.0 r.0; few = r.1.most; some = t.1 }
  reads_part false b l h = let s : a ≡ e = ok_same h in record { stands = subst (λ (x : ℕ). Stands bs a [] x) s (nothing bs a l); few = omega arith; some = refl }

  pub packs_part : (ts : List Text) → length ts ≤ 32 → length (pack_part ts) ≤ 65535 → Stands bs a (pack_part ts) e → (if_bit (some_text ts) part_end bs a ≡ Ok e) × (part_at (some_text ts) bs a ≡ ts)
  packs_part [] m h s = let l = s.long in let z : a ≡ e = omega arith in (ap Ok z, refl)
  packs_part (t ∷ ts) m h s =
      let l = part_long (t ∷ ts) in
      let r = packs_roll in_record bs a e (t ∷ ts) (record { least = omega arith; most = m; longest = texts_short 65535 (t ∷ ts) (omega arith) }) s in
      (ap in_roll r.0, r.1)

-- the bit map

module _ (full : Bool) (bs : List ℕ) (a : ℕ) where
  pub record ReadMap (e : ℕ) : Type 0 where
    pub there : a < length bs
    pub known : get_or bs a 0 < 32
    pub filled : full ≡ true → get_or bs a 0 % 8 ≡ 7
    pub ends : e ≡ a + 1

  pub reads_map : (e : ℕ) → map_end full bs a ≡ Ok e → ReadMap e
  reads_map e h =
      let p = passed _ _ _ e h in
      let q = and_parts _ _ p.0 in
      let r = and_parts _ _ q.1 in
      record {
        there = ltb-true _ _ q.0;
        known = ltb-true _ _ r.0;
        filled = λ t. ⊎_elim (λ n. absurd (both_ways full (not-true full n) t)) (λ k. eqb-true _ _ k) (or_cases (not full) _ r.1);
        ends = sym (ok_same p.1);
      }

  pub packs_map : (m : ℕ) → Stands bs a (m ∷ []) (a + 1) → m < 32 → (full ≡ true → m % 8 ≡ 7) → (get_or bs a 0 ≡ m) × (map_end full bs a ≡ Ok (a + 1))
  packs_map m s k f =
      let p = packs_byte bs a (a + 1) m s in
      let w = p.1 in
      let i : ltb a (length bs) ≡ true = lt-ltb _ _ (omega arith) in
      let j : ltb m 32 ≡ true = lt-ltb _ _ k in
      let r : (not full || eqb (m % 8) 7) ≡ true =
      ⊎_elim (λ (t : full ≡ true). or_right (not full) _ (eq-eqb _ _ (f t))) (λ (t : full ≡ false). or_left (not full) _ (not_from_false full t)) (cases_Bool full) in
      (p.0, rw p.0 (cond-true _ _ _ (and_from _ _ i (and_from _ _ j r))))
