-- Each part of a roll, both ways: read, it is what stands there; standing there, it is read.
use Rattle.std.proofs.Common.{◌≡◌, ℕ, zero, suc, ◌+◌, ◌/◌, ◌%◌, ◌<◌, ◌≤◌, Bool, true, false, cond, List, [], ◌∷◌, ◌++◌, length, get_or, take, drop, Some, Ok, Err, Result, sym, refl, ap, ◌∙◌, subst, arith}
use Rattle.std.proofs.lemmas.List.{length-drop, get_or-drop, drop-drop}
use Rattle.std.proofs.lemmas.Bool.{le-leb, leb-true, and_parts, and_from, cond-true}
use Rattle.std.specs.List.{AllByRecursion}
use Rattle.address.specs.Text.{Text}
use Rattle.roll.specs.declared.limits.Limits.{Limits}
use Rattle.roll.specs.Packing.{word, pack_text, pack_texts}
use Rattle.roll.specs.Ends.{after, word_at, there, text_end, texts_end, roll_end}
use Rattle.roll.specs.Reading.{read_text, texts_from, texts_at}
use Rattle.roll.specs.Laws.{Bytes, Stands, ReadsRolls, PacksRolls}
use Rattle.roll.proofs.Standing.{join, front, back, get, nothing, one, part, taken}

-- a test that answers a fault did not fail
pub passed : {X E : Type 0} (b : Bool) (r : Result X E) (f : E) (x : X) → cond b r (Err f) ≡ Ok x → (b ≡ true) × (r ≡ Ok x)
passed true r f x h = (refl, h)
passed false r f x h = let z : ◌≡◌ {A = ℕ} 0 1 = cc in absurd (omega arith)

-- a part that ended, and what followed it
pub went : {X E : Type 0} (r : Result ℕ E) (next : ℕ → Result X E) (x : X) → after r next ≡ Ok x → (m : ℕ) × (r ≡ Ok m) × (next m ≡ Ok x)
went (Ok m) next x h = (m, refl, h)
went (Err f) next x h = let z : ◌≡◌ {A = ℕ} 0 1 = cc in absurd (omega arith)

pub ok_same : {X E : Type 0} {a b : X} → ◌≡◌ {A = Result X E} (Ok a) (Ok b) → a ≡ b
ok_same h = cc

-- the text that stands at a place
abbrev pub text_of : List ℕ → ℕ → Text
text_of bs a = take (word_at bs a) (drop (a + 2) bs)

-- a byte

pub packs_byte : (bs : List ℕ) (a e b : ℕ) → Stands bs a (b ∷ []) e → (get_or bs a 0 ≡ b) × (a + 1 ≤ length bs) × (e ≡ a + 1)
packs_byte bs a e b s =
    let g : get_or bs (a + 0) 0 ≡ b = get bs a e 0 (b ∷ []) s (omega arith) in
    let z : a + 0 ≡ a = omega arith in
    let l = s.long in
    let w = s.within in
    (ap (λ (x : ℕ). get_or bs x 0) (sym z) ∙ g, omega arith, omega arith)

-- a word

pub reads_word : (bs : List ℕ) (a : ℕ) → Bytes bs → a + 2 ≤ length bs → Stands bs a (word (word_at bs a)) (a + 2)
reads_word bs a b h =
    let x : get_or bs a 0 < 256 = b a in
    let y : get_or bs (a + 1) 0 < 256 = b (a + 1) in
    let p : word_at bs a / 256 ≡ get_or bs a 0 = omega arith in
    let q : word_at bs a % 256 ≡ get_or bs (a + 1) 0 = omega arith in
    let z : a + 1 + 1 ≡ a + 2 = omega arith in
    rw (p, q) (subst (λ (x : ℕ). Stands bs a (get_or bs a 0 ∷ get_or bs (a + 1) 0 ∷ []) x) z (join bs a (a + 1) (a + 1 + 1) (get_or bs a 0 ∷ []) (get_or bs (a + 1) 0 ∷ []) (one bs a (omega arith)) (one bs (a + 1) (omega arith))))

pub packs_word : (bs : List ℕ) (a e n : ℕ) → Stands bs a (word n) e → (word_at bs a ≡ n) × (a + 2 ≤ length bs) × (e ≡ a + 2)
packs_word bs a e n s =
    let g : get_or bs (a + 0) 0 ≡ n / 256 = get bs a e 0 (word n) s (omega arith) in
    let k : get_or bs (a + 1) 0 ≡ n % 256 = get bs a e 1 (word n) s (omega arith) in
    let z : a + 0 ≡ a = omega arith in
    let j : get_or bs a 0 ≡ n / 256 = ap (λ (x : ℕ). get_or bs x 0) (sym z) ∙ g in
    let l = s.long in
    let w = s.within in
    (omega arith, omega arith, omega arith)

-- a text

-- what a text that ended says of the bytes
pub record Ended (l : Limits) (bs : List ℕ) (a e : ℕ) : Type 0 where
  pub ends : e ≡ a + (2 + word_at bs a)
  pub short : word_at bs a ≤ l.longest
  pub within : e ≤ length bs

pub text_ended : (l : Limits) (bs : List ℕ) (a e : ℕ) → text_end l bs a ≡ Ok e → Ended l bs a e
text_ended l bs a e h =
    let p = passed _ _ _ e h in
    let q = and_parts _ _ p.0 in
    let r = and_parts _ _ q.1 in
    let k : a + (2 + word_at bs a) ≡ e = ok_same p.1 in
    record { ends = sym k; short = leb-true _ _ r.0; within = subst (λ (x : ℕ). x ≤ length bs) k (leb-true _ _ r.1) }

pub text_ends : (l : Limits) (bs : List ℕ) (a e : ℕ) → Ended l bs a e → text_end l bs a ≡ Ok e
text_ends l bs a e d =
    let k = d.ends in
    let w = d.within in
    let i : there bs a 2 ≡ true = le-leb _ _ (omega arith) in
    let j : there bs a (2 + word_at bs a) ≡ true = le-leb _ _ (omega arith) in
    cond-true _ _ _ (and_from _ _ i (and_from _ _ (le-leb _ _ d.short) j)) ∙ ap Ok (sym k)

-- a text that is all there is read
pub read_there : (bs : List ℕ) (a e : ℕ) → e ≡ a + (2 + word_at bs a) → e ≤ length bs → read_text (drop a bs) ≡ Some (text_of bs a, drop e bs)
read_there bs a e k h =
    let l = length-drop a bs in
    let z : a + 0 ≡ a = omega arith in
    let w : word_at (drop a bs) 0 ≡ word_at bs a = rw (get_or-drop a bs 0 0, get_or-drop a bs 1 0, z) in
    let i : there (drop a bs) 0 2 ≡ true = le-leb _ _ (omega arith) in
    let j : there (drop a bs) 0 (2 + word_at bs a) ≡ true = le-leb _ _ (omega arith) in
    rw (w, i, j, drop-drop 2 a bs, drop-drop (2 + word_at bs a) a bs, k)

pub record ReadText (l : Limits) (bs : List ℕ) (a e : ℕ) : Type 0 where
  pub stands : Stands bs a (pack_text (text_of bs a)) e
  pub short : length (text_of bs a) ≤ l.longest
  pub read : read_text (drop a bs) ≡ Some (text_of bs a, drop e bs)

pub reads_text : (l : Limits) (bs : List ℕ) (a e : ℕ) → Bytes bs → text_end l bs a ≡ Ok e → ReadText l bs a e
reads_text l bs a e b h =
    let d = text_ended l bs a e h in
    let k = d.ends in
    let w = d.within in
    let s = d.short in
    let t = part bs (a + 2) (word_at bs a) (omega arith) in
    let n : length (text_of bs a) ≡ word_at bs a = omega (arith, t.long) in
    let z : a + 2 + word_at bs a ≡ e = omega arith in
    record {
      stands = rw n (subst (λ (x : ℕ). Stands bs a (word (word_at bs a) ++ text_of bs a) x) z (join bs a (a + 2) (a + 2 + word_at bs a) (word (word_at bs a)) (text_of bs a) (reads_word bs a b (omega arith)) t));
      short = omega arith;
      read = read_there bs a e k w;
    }

pub packs_text : (l : Limits) (bs : List ℕ) (a e : ℕ) (t : Text) → length t ≤ l.longest → Stands bs a (pack_text t) e → (text_end l bs a ≡ Ok e) × (read_text (drop a bs) ≡ Some (t, drop e bs))
packs_text l bs a e t h s =
    let w = packs_word bs a (a + 2) (length t) (front bs a e (word (length t)) t s) in
    let k = back bs a e (word (length t)) t s in
    let kl = k.long in
    let kw = k.within in
    let n = w.0 in
    let x : e ≡ a + (2 + word_at bs a) = omega arith in
    let y : text_of bs a ≡ t = rw n (taken bs (a + 2) e t k) in
    (text_ends l bs a e (record { ends = x; short = omega arith; within = kw }), read_there bs a e x kw ∙ ap (λ (u : Text). Some (u, drop e bs)) y)

-- texts, one after another

pub record ReadTexts (l : Limits) (n : ℕ) (bs : List ℕ) (a e : ℕ) : Type 0 where
  pub stands : Stands bs a (pack_texts (texts_from n (drop a bs))) e
  pub count : length (texts_from n (drop a bs)) ≡ n
  pub short : AllByRecursion (λ (t : Text). length t ≤ l.longest) (texts_from n (drop a bs))

pub reads_texts : (l : Limits) (n : ℕ) (bs : List ℕ) (a e : ℕ) → Bytes bs → a ≤ length bs → texts_end l n bs a ≡ Ok e → ReadTexts l n bs a e
unfolding texts_end texts_from pack_texts
reads_texts l zero bs a e b w h =
    let s : a ≡ e = ok_same h in
    record { stands = subst (λ (x : ℕ). Stands bs a [] x) s (nothing bs a w); count = refl; short = tt }
reads_texts l (suc n) bs a e b w h =
    let g = went _ _ e h in
    let t = reads_text l bs a g.0 b g.1 in
    let ih = reads_texts l n bs g.0 e b t.stands.within g.2 in
    let r = t.read in
    record {
      stands = rw r (join bs a g.0 e (pack_text (text_of bs a)) (pack_texts (texts_from n (drop g.0 bs))) t.stands ih.stands);
      count = rw r (ap suc ih.count);
      short = rw r (t.short, ih.short);
    }

pub packs_texts : (l : Limits) (ts : List Text) (bs : List ℕ) (a e : ℕ) → AllByRecursion (λ (t : Text). length t ≤ l.longest) ts → Stands bs a (pack_texts ts) e → (texts_end l (length ts) bs a ≡ Ok e) × (texts_from (length ts) (drop a bs) ≡ ts)
unfolding texts_end texts_from pack_texts
packs_texts l [] bs a e h s = let n = s.long in let z : a ≡ e = omega arith in (ap Ok z, refl)
packs_texts l (t ∷ ts) bs a e h s =
    let f = packs_text l bs a (a + length (pack_text t)) t h.0 (front bs a e (pack_text t) (pack_texts ts) s) in
    let ih = packs_texts l ts bs (a + length (pack_text t)) e h.1 (back bs a e (pack_text t) (pack_texts ts) s) in
    (rw f.0 ih.0, rw f.1 (ap (λ (x : List Text). t ∷ x) ih.1))

-- a roll

-- what a roll that ended says of its count and its texts
pub record Rolled (l : Limits) (bs : List ℕ) (a e : ℕ) : Type 0 where
  pub two : a + 2 ≤ length bs
  pub least : l.least ≤ word_at bs a
  pub most : word_at bs a ≤ l.most
  pub texts : texts_end l (word_at bs a) bs (a + 2) ≡ Ok e

pub roll_ended : (l : Limits) (bs : List ℕ) (a e : ℕ) → roll_end l bs a ≡ Ok e → Rolled l bs a e
roll_ended l bs a e h =
    let p = passed _ _ _ e h in
    let q = and_parts _ _ p.0 in
    let r = and_parts _ _ q.1 in
    record { two = leb-true _ _ q.0; least = leb-true _ _ r.0; most = leb-true _ _ r.1; texts = p.1 }

pub roll_ends : (l : Limits) (bs : List ℕ) (a e : ℕ) → Rolled l bs a e → roll_end l bs a ≡ Ok e
roll_ends l bs a e d =
    cond-true _ _ _ (and_from _ _ (le-leb _ _ d.two) (and_from _ _ (le-leb _ _ d.least) (le-leb _ _ d.most))) ∙ d.texts

pub texts-there : (bs : List ℕ) (a : ℕ) → a + 2 ≤ length bs → texts_at bs a ≡ texts_from (word_at bs a) (drop (a + 2) bs)
texts-there bs a h = cond-true _ _ _ (le-leb _ _ h)

pub reads_roll : ReadsRolls
reads_roll l bs a e b h =
    let d = roll_ended l bs a e h in
    let t = reads_texts l (word_at bs a) bs (a + 2) e b d.two d.texts in
    let n = t.count in
    let low = d.least in
    let high = d.most in
    rw (texts-there bs a d.two) (
      rw n (join bs a (a + 2) e (word (word_at bs a)) (pack_texts (texts_from (word_at bs a) (drop (a + 2) bs))) (reads_word bs a b d.two) t.stands),
      record { least = omega arith; most = omega arith; longest = t.short },
    )

pub packs_roll : PacksRolls
packs_roll l bs a e ts h s =
    let w = packs_word bs a (a + 2) (length ts) (front bs a e (word (length ts)) (pack_texts ts) s) in
    let r = packs_texts l ts bs (a + 2) e h.longest (back bs a e (word (length ts)) (pack_texts ts) s) in
    let n = w.0 in
    let low = h.least in
    let high = h.most in (
      roll_ends l bs a e (record { two = w.1; least = omega arith; most = omega arith; texts = rw n r.0 }),
      texts-there bs a w.1 ∙ rw n r.1,
    )
