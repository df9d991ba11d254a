-- The table of where the texts begin, filled one text after another.
use Rattle.std.proofs.Common.{◌≡◌, ℕ, zero, suc, ◌+◌, ◌-◌, ◌*◌, ◌<◌, ◌≤◌, min, List, [], ◌∷◌, ◌++◌, length, get_or, take, drop, Some, None, Option, unwrap_or, sym, refl, ap, ◌∙◌, arith, below_more}
use native.Mathlib.Nat.{sub-zero}
use Rattle.std.specs.List.{slice_get}
use Rattle.std.specs.Option.{option_map}
use Rattle.std.proofs.lemmas.List.{length-append, length-drop, get_or_append_left, get_or_push, get_or-drop, drop-drop, take_all}
use Rattle.address.specs.Text.{Text}
use Rattle.roll.specs.declared.fault.RollFault.TheVariants.{LeftOver}
use Rattle.roll.specs.Ends.{word_at, read_word, roll_end, filled, incoming}
use Rattle.roll.specs.Reading.{read_text, follow, texts_from, texts}
use Rattle.roll.specs.Laws.{Bytes}
use Rattle.roll.specs.Views.{viewed, text_at, Indexes, Views}
use Rattle.roll.proofs.Parts.{went, roll_ended, texts-there}
use Rattle.roll.proofs.Readings.{text_read, texts-few, texts_counted, texts_uncounted, left_some, left_none, left_all}

-- what is left of a list after its first i
left_first : {X : Type 0} (xs : List X) (i : ℕ) (x : X) (ys : List X) → drop i xs ≡ x ∷ ys → (slice_get xs i ≡ Some x) × (drop (i + 1) xs ≡ ys) × (i + 1 ≤ length xs)
left_first [] zero x ys e = let z : ◌≡◌ {A = ℕ} 0 1 = cc in absurd (omega arith)
left_first [] (suc i) x ys e = let z : ◌≡◌ {A = ℕ} 0 1 = cc in absurd (omega arith)
left_first (y ∷ xs) zero x ys e = (cc, cc, omega arith)
left_first (y ∷ xs) (suc i) x ys e =
    let p = left_first xs i x ys e in
    let k : suc i + 1 ≡ suc (i + 1) = omega arith in
    (p.0, rw k p.1, omega (arith, p.2))

take-texts : (k n : ℕ) (bs : List ℕ) → take k (texts_from n bs) ≡ texts_from (min n k) bs
unfolding texts_from
take-texts zero n bs = let e : min n 0 ≡ 0 = omega arith in rw e
take-texts (suc k) zero bs = let e : min 0 (suc k) ≡ 0 = omega arith in rw e
take-texts (suc k) (suc n) bs =
    let e : min (suc n) (suc k) ≡ suc (min n k) = omega arith in
    rw e
    (elim (read_text bs) as (λ (o : Option (Text × List ℕ)). take (suc k) (follow o (texts_from n)) ≡ follow o (texts_from (min n k)))
    [ None ↦ refl | Some p ↦ ap (λ (ts : List Text). p.0 ∷ ts) (take-texts k n p.1) ])

pub viewed_from : (bs : List ℕ) (o : Option ℕ) → o ≡ read_word bs 0 → viewed bs ≡ texts_from (min (unwrap_or o 0) 512) (drop 2 bs)
unfolding viewed texts_from
viewed_from bs None e = ap (take 512) (texts_uncounted bs 0 e)
viewed_from bs (Some n) e = ap (take 512) (texts_counted bs 0 n e) ∙ take-texts 512 n (drop 2 bs)

pub views : (bs : List ℕ) → Views bs
unfolding viewed
views bs h =
    let p = went (roll_end incoming bs 0) (filled LeftOver bs) tt h in
    let d = roll_ended incoming bs 0 p.0 p.1 in
    let m = d.most in
    let f = texts-few (word_at bs 0) (drop 2 bs) in
    let t = ap length (texts-there bs 0 d.two) in
    take_all 512 (texts bs) (omega arith)

-- i of n texts are in the table, and the next begins at `here`
pub record Filled (bs : List ℕ) (n i here : ℕ) (rest starts : List ℕ) : Type 0 where
  pub size : length starts ≡ i
  pub near : here ≤ 2 + i * 65537
  pub at : rest ≡ drop here bs
  pub left : drop i (viewed bs) ≡ texts_from (n - i) rest
  pub behind : i ≤ length (viewed bs)
  pub table : (k : ℕ) → k < i → text_at bs (get_or starts k 0) ≡ slice_get (viewed bs) k

pub filled_none : (bs : List ℕ) (o : Option ℕ) (n : ℕ) (rest starts : List ℕ) → o ≡ read_word bs 0 → n ≡ min (unwrap_or o 0) 512 → rest ≡ drop 2 bs → starts ≡ [] → Filled bs n 0 2 rest starts
filled_none bs o n rest starts e k r l =
    record {
      size = ap length l;
      near = omega arith;
      at = r;
      left = rw (sub-zero, k, r) (viewed_from bs o e);
      behind = omega arith;
      table = λ k h. absurd (omega arith);
    }

module _ {bs : List ℕ} {n i here : ℕ} {rest starts : List ℕ} (f : Filled bs n i here rest starts) where
  short : (t more : List ℕ) → Bytes bs → Some (t, more) ≡ read_text rest → length t < 65536
  short t more b e =
      let c = (text_read rest t more e).counted in
      let k = f.at in
      let x : get_or rest 0 0 < 256 = rw (f.at, get_or-drop here bs 0 0) (b (here + 0)) in
      let y : get_or rest 1 0 < 256 = rw (f.at, get_or-drop here bs 1 0) (b (here + 1)) in
      omega arith

  pub filled_more : (t more starts' : List ℕ) → Bytes bs → i < n → Some (t, more) ≡ read_text rest → starts' ≡ starts ++ here ∷ [] → Filled bs n (i + 1) (here + (2 + length t)) more starts'
  filled_more t more starts' b h e p =
      let r = text_read rest t more e in
      let l = left_first (viewed bs) i t (texts_from (n - (i + 1)) more) (f.left ∙ left_some n i rest t more h e) in
      let z = f.size in
      let near = f.near in
      let s = short t more b e in
      let here_is : text_at bs here ≡ slice_get (viewed bs) i = ap (λ (x : List ℕ). option_map (λ (p : Text × List ℕ). p.0) (read_text x)) (sym f.at) ∙ ap (option_map (λ (p : Text × List ℕ). p.0)) (sym e) ∙ sym l.0 in
      record {
        size = ap length p ∙ omega (arith, length-append starts (here ∷ []));
        near = omega arith;
        at = r.past ∙ ap (drop (2 + length t)) f.at ∙ drop-drop (2 + length t) here bs;
        left = l.1;
        behind = l.2;
        table =
            below_more (λ k. text_at bs (get_or starts' k 0) ≡ slice_get (viewed bs) k) i
            (λ k h. let lt : k < length starts = omega arith in rw (p, get_or_append_left starts (here ∷ []) 0 k lt) (f.table k h))
            (rw (p, get_or_push starts here 0 i f.size) here_is);
      }

  -- nothing is left
  none_left : texts_from (n - i) rest ≡ [] → i ≡ length (viewed bs)
  none_left e =
      let l = ap length (f.left ∙ e) in
      let d = length-drop i (viewed bs) in
      let b = f.behind in
      omega arith

  filled_indexes : i ≡ length (viewed bs) → i ≤ 512 → Indexes bs starts
  filled_indexes all few = let z = f.size in record { counted = z ∙ all; few = omega arith; places = λ k h. f.table k (omega arith) }

  -- the bytes end before a text
  pub filled_stop : i < n → n ≤ 512 → None ≡ read_text rest → Indexes bs starts
  filled_stop h few e = filled_indexes (none_left (left_none n i rest h e)) (omega arith)

  pub filled_all : i ≡ n → n ≤ 512 → Indexes bs starts
  filled_all h few = filled_indexes (none_left (left_all n i rest (omega arith))) (omega arith)
