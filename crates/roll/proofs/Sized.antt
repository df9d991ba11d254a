-- Packed texts and their length, one text after another.
use Rattle.std.proofs.Common.{◌≡◌, ℕ, zero, suc, ◌+◌, ◌*◌, ◌<◌, ◌≤◌, Bool, true, false, cond, ltb, List, [], ◌∷◌, ◌++◌, length, get_or, take, drop, Some, None, Ok, Err, Option, Result, sym, refl, ap, ◌∙◌, arith}
use Rattle.std.specs.Option.{option_map}
use Rattle.std.proofs.lemmas.List.{append-nil, append_assoc, length-append, take-append-drop, take_more, take_all, at_drop_more, at_drop_all}
use Rattle.std.proofs.lemmas.Bool.{cond_both, leb-false, ltb-true, cond-true, cond-false, lt-ltb, le-ltb, lt-leb, le-leb}
use Rattle.address.specs.Text.{Text, first_place}
use Rattle.address.proofs.Places.{from, from_zero, first_place_passed, first_place_here}
use Rattle.roll.specs.declared.write.WriteFault.{WriteFault}
use Rattle.roll.specs.declared.write.WriteFault.TheVariants.{Count, Length, Tray}
use Rattle.roll.specs.Packing.{word, pack_text, pack_texts, pack_roll}
use Rattle.roll.specs.Ends.{after}
use Rattle.roll.specs.Sizes.{too_long, unless_long, roll_size, write_size}
use Rattle.roll.specs.Written.{written}
use Rattle.roll.proofs.Writes.{written-append, Wrote, wrote_more}

-- packed texts

pub pack_texts-append : (ts us : List Text) → pack_texts (ts ++ us) ≡ pack_texts ts ++ pack_texts us
unfolding pack_texts
pack_texts-append [] us = refl
pack_texts-append (t ∷ ts) us = ap (λ (r : List ℕ). pack_text t ++ r) (pack_texts-append ts us) ∙ sym (append_assoc (pack_text t) (pack_texts ts) (pack_texts us))

pub pack_texts_one : (t : Text) → pack_texts (t ∷ []) ≡ pack_text t
unfolding pack_texts
pack_texts_one t = append-nil (pack_text t)

pub pack_texts_none : pack_texts [] ≡ []
unfolding pack_texts
pack_texts_none = refl

pub pack_texts_push : (ts : List Text) (t : Text) → pack_texts (ts ++ t ∷ []) ≡ pack_texts ts ++ pack_text t
pack_texts_push ts t = pack_texts-append ts (t ∷ []) ∙ ap (λ (r : List ℕ). pack_texts ts ++ r) (pack_texts_one t)

pub pack_texts_more : (ts : List Text) (i : ℕ) (d : Text) → i < length ts → pack_texts (take (i + 1) ts) ≡ pack_texts (take i ts) ++ pack_text (get_or ts i d)
pack_texts_more ts i d h = ap pack_texts (take_more ts i d h) ∙ pack_texts_push (take i ts) (get_or ts i d)

pub length_pack_more : (ts : List Text) (i : ℕ) (d : Text) → i < length ts → length (pack_texts (take (i + 1) ts)) ≡ length (pack_texts (take i ts)) + (2 + length (get_or ts i d))
length_pack_more ts i d h =
    let e = ap length (pack_texts_more ts i d h) in
    omega (arith, length-append (pack_texts (take i ts)) (pack_text (get_or ts i d)))

pub length_pack_front : (ts : List Text) (i : ℕ) → length (pack_texts (take i ts)) ≤ length (pack_texts ts)
length_pack_front ts i =
    let e = ap (λ (l : List Text). length (pack_texts l)) (take-append-drop i ts) in
    let f = ap length (pack_texts-append (take i ts) (drop i ts)) in
    omega (arith, length-append (pack_texts (take i ts)) (pack_texts (drop i ts)))

unmapped : (o : Option ℕ) → option_map suc o ≡ None → o ≡ None
unmapped None e = refl
unmapped (Some n) e = let z : ◌≡◌ {A = ℕ} 0 1 = cc in absurd (omega arith)

-- no element passes
none_first : {X : Type 0} (p : X → Bool) (x : X) (xs : List X) → first_place p (x ∷ xs) ≡ None → (p x ≡ false) × (first_place p xs ≡ None)
none_first p x xs =
    let P : Option ℕ → Type 0 = λ (o : Option ℕ). o ≡ None → (p x ≡ false) × (first_place p xs ≡ None) in
    cond_both (p x) (Some 0) (option_map suc (first_place p xs)) P
    (λ t e. let z : ◌≡◌ {A = ℕ} 0 1 = cc in absurd (omega arith))
    (λ t e. (t, unmapped (first_place p xs) e))

none_passes : {X : Type 0} (p : X → Bool) (xs : List X) (i : ℕ) (d : X) → i < length xs → first_place p xs ≡ None → p (get_or xs i d) ≡ false
none_passes p [] i d h e = absurd (omega arith)
none_passes p (x ∷ xs) zero d h e = (none_first p x xs e).0
none_passes p (x ∷ xs) (suc i) d h e = none_passes p xs i d (omega arith) (none_first p x xs e).1

-- i texts have been measured
pub record Sized (ts : List Text) (i len : ℕ) : Type 0 where
  pub passed : from i (first_place too_long (drop i ts)) ≡ first_place too_long ts
  pub long : len ≡ 2 + length (pack_texts (take i ts))
  pub small : len ≤ 2 + i * 65537

pub sized_none : (ts : List Text) → Sized ts 0 2
sized_none ts = record { passed = sym (from_zero (first_place too_long ts)); long = sym (ap (λ (r : List ℕ). 2 + length r) pack_texts_none); small = omega arith }

module _ {ts : List Text} {i len : ℕ} (s : Sized ts i len) where
  module _ (t : Text) (h : i < length ts) (is : t ≡ get_or ts i []) where
    pub sized_more : length t < 65536 → Sized ts (i + 1) (len + (2 + length t))
    sized_more short =
        let l = s.long in
        let m = s.small in
        let k = ap length is in
        let f : too_long (get_or ts i []) ≡ false = lt-leb 65536 (length (get_or ts i [])) (omega arith) in
        record {
          passed =
              sym (first_place_passed too_long i (get_or ts i []) (drop (i + 1) ts) f)
              ∙ sym (at_drop_more (λ (us : List Text). from i (first_place too_long us)) ts i [] h)
              ∙ s.passed;
          long = omega (arith, length_pack_more ts i [] h);
          small = omega arith;
        }

    pub sized_stop : 65536 ≤ length t → first_place too_long ts ≡ Some i
    sized_stop long =
        let k = ap length is in
        let f : too_long (get_or ts i []) ≡ true = le-leb 65536 (length (get_or ts i [])) (omega arith) in
        sym s.passed
        ∙ at_drop_more (λ (us : List Text). from i (first_place too_long us)) ts i [] h
        ∙ first_place_here too_long i (get_or ts i []) (drop (i + 1) ts) f

  pub sized_all : length ts ≤ i → (first_place too_long ts ≡ None) × (len ≡ length (pack_roll ts))
  sized_all h =
      let e = ap (λ (us : List Text). length (pack_texts us)) (take_all i ts h) in
      let l = s.long in
      (sym s.passed ∙ at_drop_all (λ (us : List Text). from i (first_place too_long us)) ts i h, omega arith)

module _ (ts : List Text) where
  pub size_long : (i : ℕ) → length ts < 65536 → first_place too_long ts ≡ Some i → Err (Length i) ≡ roll_size ts
  size_long i h e = sym (cond-true _ _ _ (lt-ltb (length ts) 65536 h) ∙ ap (λ (o : Option ℕ). unless_long o (length (pack_roll ts))) e)

  pub size_ok : (n : ℕ) → length ts < 65536 → first_place too_long ts ≡ None → n ≡ length (pack_roll ts) → Ok n ≡ roll_size ts
  size_ok n h e k = sym (cond-true _ _ _ (lt-ltb (length ts) 65536 h) ∙ ap (λ (o : Option ℕ). unless_long o (length (pack_roll ts))) e ∙ ap Ok (sym k))

-- what a size says of the texts
pub record Measured (ts : List Text) (n : ℕ) : Type 0 where
  pub few : length ts < 65536
  pub long : n ≡ length (pack_roll ts)
  pub short : (i : ℕ) → i < length ts → length (get_or ts i []) < 65536

pub measured : (ts : List Text) (n : ℕ) → Ok n ≡ roll_size ts → Measured ts n
measured ts n =
    let P : Result ℕ WriteFault → Type 0 = λ (r : Result ℕ WriteFault). Ok n ≡ r → Measured ts n in
    cond_both (ltb (length ts) 65536) (unless_long (first_place too_long ts) (length (pack_roll ts))) (Err (Count (length ts))) P
    (λ t. lengths (first_place too_long ts) refl (ltb-true (length ts) 65536 t))
    (λ t e. let z : ◌≡◌ {A = ℕ} 0 1 = cc in absurd (omega arith))
  where
    lengths : (o : Option ℕ) → first_place too_long ts ≡ o → length ts < 65536 → Ok n ≡ unless_long o (length (pack_roll ts)) → Measured ts n
    lengths None f h e = record { few = h; long = cc; short = λ i l. leb-false 65536 (length (get_or ts i [])) (none_passes too_long ts i [] l f) }
    lengths (Some i) f h e = let z : ◌≡◌ {A = ℕ} 0 1 = cc in absurd (omega arith)

pub text_short : {ts : List Text} {n : ℕ} → Measured ts n → (i : ℕ) {t : Text} → i < length ts → t ≡ get_or ts i [] → length t < 65536
text_short m i h is = let l = ap length is in omega (arith, m.short i h)

-- room for one text more, where there is room for all
pub text_room : (ts : List Text) (i end n : ℕ) (t : Text) → i < length ts → t ≡ get_or ts i [] → end ≡ 2 + length (pack_texts (take i ts)) → length (pack_roll ts) ≤ n → end + (2 + length t) ≤ n
text_room ts i end n t h is e room =
    let a = length_pack_more ts i [] h in
    let f = length_pack_front ts (i + 1) in
    let l = ap length is in
    omega arith

-- one text more is written
pub wrote_text : (ts : List Text) (i : ℕ) {start tray : List ℕ} {at end : ℕ} → Wrote (pack_texts (take i ts)) start tray at end → (t : Text) {tray' : List ℕ} {end' : ℕ} → end' ≡ end + (2 + length t) → tray' ≡ written tray end (pack_text t) → t ≡ get_or ts i [] → i < length ts → Wrote (pack_texts (take (i + 1) ts)) start tray' at end'
wrote_text ts i w t {tray'} {end'} e d is h =
    wrote_more w _ (pack_text t) tray' end' (pack_texts_more ts i [] h ∙ ap (λ (u : Text). pack_texts (take i ts) ++ pack_text u) (sym is)) d (omega arith)

pub roll_is : (ts : List Text) (d e f : List ℕ) (p : List ℕ) → e ≡ written d 0 (word (length ts)) → f ≡ written e 2 p → p ≡ pack_texts ts → f ≡ written d 0 (pack_roll ts)
roll_is ts d e f p a b c =
    b ∙ ap (λ (x : List ℕ). written x 2 p) a ∙ ap (written (written d 0 (word (length ts))) 2) c ∙ written-append (word (length ts)) (pack_texts ts) d 0 2 refl

pub size_fits : (ts : List Text) (d : List ℕ) (n : ℕ) → Ok n ≡ roll_size ts → n ≤ length d → Ok n ≡ write_size ts d
size_fits ts d n e h =
    sym (ap (λ (r : Result ℕ WriteFault). after r (λ (m : ℕ). cond (ltb (length d) m) (Err (Tray m)) (Ok m))) (sym e) ∙ cond-false _ _ _ (le-ltb (length d) n h))
