-- Texts read one after another.
use Rattle.std.proofs.Common.{◌≡◌, ℕ, zero, suc, ◌+◌, ◌-◌, ◌<◌, ◌≤◌, Bool, true, false, cond, List, [], ◌∷◌, length, take, drop, Some, None, Ok, Err, Option, Result, sym, refl, ap, ◌∙◌, arith}
use Rattle.std.specs.List.{slice_get}
use Rattle.std.specs.Option.{option_map}
use Rattle.std.proofs.lemmas.List.{length-take-le, length-drop, drop-drop}
use Rattle.std.proofs.lemmas.Option.{slice_get_past}
use Rattle.std.proofs.lemmas.Bool.{cond_both, leb-true}
use Rattle.address.specs.Text.{Text, text_fault}
use Rattle.address.specs.declared.text.TextFault.{TextFault}
use Rattle.roll.specs.declared.fault.RollFault.{RollFault}
use Rattle.roll.specs.declared.fault.RollFault.TheVariants.{InText}
use Rattle.roll.specs.Ends.{word_at, there, read_word}
use Rattle.roll.specs.Reading.{read_text, follow, texts_from, texts_at, carried, texts_fault}

-- the count

pub texts_counted : (bs : List ℕ) (a n : ℕ) → Some n ≡ read_word bs a → texts_at bs a ≡ texts_from n (drop (a + 2) bs)
texts_counted bs a n =
    let P : Bool → Type 0 = λ b. Some n ≡ cond b (Some (word_at bs a)) None → cond b (texts_from (word_at bs a) (drop (a + 2) bs)) [] ≡ texts_from n (drop (a + 2) bs) in
    elim (there bs a 2) as P [
      | true ↦ λ e. let k : word_at bs a ≡ n = cc in ap (λ (x : ℕ). texts_from x (drop (a + 2) bs)) k
      | false ↦ λ e. let z : ◌≡◌ {A = ℕ} 0 1 = cc in absurd (omega arith)
    ]

pub texts_uncounted : (bs : List ℕ) (a : ℕ) → None ≡ read_word bs a → texts_at bs a ≡ []
texts_uncounted bs a =
    let P : Bool → Type 0 = λ b. None ≡ cond b (Some (word_at bs a)) None → cond b (texts_from (word_at bs a) (drop (a + 2) bs)) [] ≡ [] in
    elim (there bs a 2) as P [
      | true ↦ λ e. let z : ◌≡◌ {A = ℕ} 0 1 = cc in absurd (omega arith)
      | false ↦ λ e. refl
    ]

-- one text

pub record TextRead (bs t more : List ℕ) : Type 0 where
  pub text : t ≡ take (length t) (drop 2 bs)
  pub past : more ≡ drop (2 + length t) bs
  pub within : 2 + length t ≤ length bs
  pub counted : length t ≡ word_at bs 0

text_is : (bs t more : List ℕ) → 2 + word_at bs 0 ≤ length bs → ◌≡◌ {A = Option (Text × List ℕ)} (Some (take (word_at bs 0) (drop 2 bs), drop (2 + word_at bs 0) bs)) (Some (t, more)) → TextRead bs t more
text_is bs t more h e =
    let d = length-drop 2 bs in
    let k : ◌≡◌ {A = Text × List ℕ} (take (word_at bs 0) (drop 2 bs), drop (2 + word_at bs 0) bs) (t, more) = cc in
    let p : take (word_at bs 0) (drop 2 bs) ≡ t = ap (λ (x : Text × List ℕ). x.0) k in
    let q : drop (2 + word_at bs 0) bs ≡ more = ap (λ (x : Text × List ℕ). x.1) k in
    let n : word_at bs 0 ≡ length t = sym (length-take-le (word_at bs 0) (drop 2 bs) (omega arith)) ∙ ap length p in
    record {
      text = sym p ∙ ap (λ (x : ℕ). take x (drop 2 bs)) n;
      past = sym q ∙ ap (λ (x : ℕ). drop (2 + x) bs) n;
      within = omega arith;
      counted = sym n;
    }

pub text_read : (bs t more : List ℕ) → Some (t, more) ≡ read_text bs → TextRead bs t more
text_read bs t more e =
    let P : Option (Text × List ℕ) → Type 0 = λ o. o ≡ Some (t, more) → TextRead bs t more in
    cond_both (there bs 0 2) (cond (there bs 0 (2 + word_at bs 0)) (Some (take (word_at bs 0) (drop 2 bs), drop (2 + word_at bs 0) bs)) None) None P
    (λ two.
    cond_both (there bs 0 (2 + word_at bs 0)) (Some (take (word_at bs 0) (drop 2 bs), drop (2 + word_at bs 0) bs)) None P
    (λ all k. text_is bs t more (omega (arith, leb-true (0 + (2 + word_at bs 0)) (length bs) all)) k)
    (λ all k. let z : ◌≡◌ {A = ℕ} 0 1 = cc in absurd (omega arith)))
    (λ two k. let z : ◌≡◌ {A = ℕ} 0 1 = cc in absurd (omega arith))
    (sym e)

-- texts that are left, i of n being behind

pub texts-few : (n : ℕ) (bs : List ℕ) → length (texts_from n bs) ≤ n
unfolding texts_from
texts-few zero bs = omega arith
texts-few (suc n) bs =
    elim (read_text bs) as (λ o. length (follow o (texts_from n)) ≤ suc n)
    [ None ↦ omega arith | Some p ↦ omega (arith, texts-few n p.1) ]

module _ (n i : ℕ) (bs : List ℕ) where
  left_more : i < n → texts_from (n - i) bs ≡ follow (read_text bs) (texts_from (n - (i + 1)))
  unfolding texts_from
  left_more h = let e : n - i ≡ suc (n - (i + 1)) = omega arith in ap (λ (k : ℕ). texts_from k bs) e

  pub left_some : (t more : List ℕ) → i < n → Some (t, more) ≡ read_text bs → texts_from (n - i) bs ≡ t ∷ texts_from (n - (i + 1)) more
  left_some t more h e = left_more h ∙ ap (λ (o : Option (Text × List ℕ)). follow o (texts_from (n - (i + 1)))) (sym e)

  pub left_none : i < n → None ≡ read_text bs → texts_from (n - i) bs ≡ []
  left_none h e = left_more h ∙ ap (λ (o : Option (Text × List ℕ)). follow o (texts_from (n - (i + 1)))) (sym e)

  pub left_all : n ≤ i → texts_from (n - i) bs ≡ []
  unfolding texts_from
  left_all h = let e : n - i ≡ 0 = omega arith in ap (λ (k : ℕ). texts_from k bs) e

follow_first : (o : Option (Text × List ℕ)) (next : List ℕ → List Text) → option_map (λ p. p.0) o ≡ slice_get (follow o next) 0
follow_first None next = refl
follow_first (Some p) next = refl

-- text m

pub nth_beyond : (bs : List ℕ) (a n m : ℕ) → Some n ≡ read_word bs a → n ≤ m → slice_get (texts_at bs a) m ≡ None
nth_beyond bs a n m e h =
    ap (λ (ts : List Text). slice_get ts m) (texts_counted bs a n e) ∙ slice_get_past (texts_from n (drop (a + 2) bs)) m (omega (arith, texts-few n (drop (a + 2) bs)))

module _ (n m i : ℕ) (bs : List ℕ) (below : m < n) {all : Option Text} (inv : slice_get (texts_from (n - i) bs) (m - i) ≡ all) where
  pub nth_go : (t more : List ℕ) → i < m → Some (t, more) ≡ read_text bs → slice_get (texts_from (n - (i + 1)) more) (m - (i + 1)) ≡ all
  nth_go t more h e =
      let q : m - i ≡ suc (m - (i + 1)) = omega arith in
      rw (q, left_some n i bs t more (omega arith) e) at inv

  pub nth_stop : i ≤ m → None ≡ read_text bs → None ≡ all
  nth_stop h e = rw (left_none n i bs (omega arith) e) at inv

  pub nth_here : i ≡ m → option_map (λ p. p.0) (read_text bs) ≡ all
  nth_here e =
      let q : m - i ≡ 0 = omega arith in
      follow_first (read_text bs) (texts_from (n - (i + 1))) ∙ rw (q, left_more n i bs (omega arith)) at inv

-- the check of text bytes

pub texts_fault_none : (at : ℕ) (ts : List Text) → ts ≡ [] → Ok tt ≡ texts_fault at ts
unfolding texts_fault
texts_fault_none at ts e = rw e

-- the walk stands at `here`, and the texts that are left begin there
pub record Walked (n i : ℕ) (bs : List ℕ) (here : ℕ) (rest : List ℕ) (all : Result (Unit {0}) RollFault) : Type 0 where
  pub at : rest ≡ drop here bs
  pub within : here ≤ length bs
  pub left : texts_fault here (texts_from (n - i) rest) ≡ all

module _ {n i : ℕ} {bs : List ℕ} {here : ℕ} {rest : List ℕ} {all : Result (Unit {0}) RollFault} (w : Walked n i bs here rest all) where
  module _ (t more : List ℕ) (h : i < n) (e : Some (t, more) ≡ read_text rest) where
    read : TextRead rest t more
    read = text_read rest t more e

    pub walk_room : here + (2 + length t) ≤ length bs
    walk_room = let l = ap length w.at ∙ length-drop here bs in let k = w.within in omega (arith, read.within)

    -- the text, as the check of its bytes sees it
    walk_text : take (here + 2 + length t - (here + 2)) (drop (here + 2) bs) ≡ t
    walk_text =
        let k : here + 2 + length t - (here + 2) ≡ length t = omega arith in
        rw (k, sym (drop-drop 2 here bs), sym w.at) (sym read.text)

    walk_turn : carried (text_fault (here + 2) t) (texts_fault (here + (2 + length t)) (texts_from (n - (i + 1)) more)) ≡ all
    unfolding texts_fault
    walk_turn = sym (ap (texts_fault here) (left_some n i rest t more h e)) ∙ w.left

    pub walk_goes : Ok tt ≡ text_fault (here + 2) (take (here + 2 + length t - (here + 2)) (drop (here + 2) bs)) → Walked n (i + 1) bs (here + 2 + length t) more all
    walk_goes ok =
        let f : text_fault (here + 2) t ≡ Ok tt = sym (ok ∙ ap (text_fault (here + 2)) walk_text) in
        let k : here + (2 + length t) ≡ here + 2 + length t = omega arith in
        let m : more ≡ drop (here + (2 + length t)) bs = read.past ∙ ap (drop (2 + length t)) w.at ∙ drop-drop (2 + length t) here bs in
        let l : texts_fault (here + (2 + length t)) (texts_from (n - (i + 1)) more) ≡ all = rw f at walk_turn in
        record {
          at = rw k at m;
          within = omega (arith, walk_room);
          left = rw k at l;
        }

    pub walk_hits : (f : TextFault) → Err f ≡ text_fault (here + 2) (take (here + 2 + length t - (here + 2)) (drop (here + 2) bs)) → Err (InText f) ≡ all
    walk_hits f bad =
        let g : text_fault (here + 2) t ≡ Err f = sym (bad ∙ ap (text_fault (here + 2)) walk_text) in
        rw g at walk_turn

  pub walk_stops : i < n → None ≡ read_text rest → Ok tt ≡ all
  walk_stops h e = texts_fault_none here (texts_from (n - i) rest) (left_none n i rest h e) ∙ w.left

  pub walk_ends : n ≤ i → Ok tt ≡ all
  walk_ends h = texts_fault_none here (texts_from (n - i) rest) (left_all n i rest h) ∙ w.left
