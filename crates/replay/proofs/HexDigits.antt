-- Hex, step by step, and read back.
use Rattle.std.proofs.Common.{◌≡◌, ℕ, ◌+◌, ◌-◌, ◌*◌, ◌/◌, ◌%◌, ◌<◌, ◌≤◌, max, true, false, cond, ◌&&◌, eqb, List, [], ◌∷◌, ◌++◌, length, get_or, take, drop, Some, None, Option, sym, refl, ap, ◌∙◌, arith}
use Rattle.std.specs.List.{flat_map, AllByRecursion}
use Rattle.std.specs.Str.{bytes_eq}
use Rattle.std.proofs.lemmas.List.{append_assoc, flat_map_more, take_more, take_rest}
use Rattle.std.proofs.lemmas.Bool.{false≢true}
use Rattle.std.proofs.lemmas.Bool.Decides.{nat_tests}
use Rattle.replay.specs.Hex.{digit, digit_value, digits, hex, byte_of, before, bytes_of, HexReadsBack}

-- bytes that were read, and then those to come
abbrev pub after : List ℕ → Option (List ℕ) → Option (List ℕ)
after bs None = None
after bs (Some cs) = Some (bs ++ cs)

-- one byte more
pub after_more : (bs : List ℕ) (b : ℕ) (o : Option (List ℕ)) → after bs (before (Some b) o) ≡ after (bs ++ b ∷ []) o
after_more bs b None = refl
after_more bs b (Some cs) = ap Some (sym (append_assoc bs (b ∷ []) cs))

-- one byte written: its two digits are pushed one after the other
pub digits_more : (s o₀ o₁ o₂ bytes : List ℕ) (i x y : ℕ) → i < length bytes → o₀ ≡ s ++ flat_map digits (take i bytes) → o₁ ≡ o₀ ++ x ∷ [] → o₂ ≡ o₁ ++ y ∷ [] → x ≡ digit (get_or bytes i 0 / 16) → y ≡ digit (get_or bytes i 0 % 16) → o₂ ≡ s ++ flat_map digits (take (i + 1) bytes)
digits_more s o₀ o₁ o₂ bytes i x y h e₀ e₁ e₂ p q =
    e₂ ∙ ap (λ o. o ++ y ∷ []) e₁ ∙ append_assoc o₀ (x ∷ []) (y ∷ [])
    ∙ (λ k. e₀ k ++ (p k ∷ q k ∷ []))
    ∙ flat_map_more digits s (take i bytes) (get_or bytes i 0)
    ∙ ap (λ l. s ++ flat_map digits l) (sym (take_more bytes i 0 h))

length-digits : (bs : List ℕ) → length (flat_map digits bs) ≡ 2 * length bs
length-digits [] = refl
length-digits (b ∷ bs) = omega (arith, length-digits bs)

pub length-hex : (bs : List ℕ) → length (hex bs) ≡ max (2 * length bs) 1
length-hex [] = refl
length-hex (b ∷ bs) = omega (arith, length-digits (b ∷ bs))

pub hex_some : (bs : List ℕ) → eqb (length bs) 0 ≡ false → hex bs ≡ flat_map digits bs
hex_some [] e = absurd (false≢true (sym e))
hex_some (b ∷ bs) e = refl

digit_back : (n : ℕ) → n < 16 → digit_value (digit n) ≡ Some n
digit_back n h = grind (arith, nat_tests)

byte_back : (b : ℕ) → b < 256 → byte_of (digit_value (digit (b / 16))) (digit_value (digit (b % 16))) ≡ Some b
byte_back b h =
    let high = digit_back (b / 16) (omega arith) in
    let low = digit_back (b % 16) (omega arith) in
    (λ i. byte_of (high i) (low i)) ∙ ap Some (omega arith)

bytes_back : (bs : List ℕ) → AllByRecursion (λ b. b < 256) bs → bytes_of (flat_map digits bs) ≡ Some bs
bytes_back [] a = refl
bytes_back (b ∷ bs) a = (λ i. before (byte_back b a.0 i) (bytes_back bs a.1 i))

-- two digits and more are not `-`
not_dash : (c d : ℕ) (t : List ℕ) → bytes_eq (c ∷ d ∷ t) (45 ∷ []) ≡ false
not_dash c d t = elim (eqb c 45) as (λ e. (e && false) ≡ false) [ true ↦ refl | false ↦ refl ]

pub reads_back : HexReadsBack
reads_back [] a = refl
reads_back (b ∷ bs) a =
    ap (λ e. cond e (Some []) (bytes_of (flat_map digits (b ∷ bs)))) (not_dash (digit (b / 16)) (digit (b % 16)) (flat_map digits bs)) ∙ bytes_back (b ∷ bs) a

-- one byte read: its two digits are the first of what is left
pub pairs_more : (text rest bs bs' : List ℕ) (b : ℕ) → 2 ≤ length rest → bytes_of text ≡ after bs (bytes_of rest) → Some b ≡ byte_of (digit_value (get_or rest 0 0)) (digit_value (get_or rest 1 0)) → bs' ≡ bs ++ b ∷ [] → bytes_of text ≡ after bs' (bytes_of (take (length rest - 2) (drop 2 rest)))
pairs_more text [] bs bs' b h i e p = absurd (omega arith)
pairs_more text (c ∷ []) bs bs' b h i e p = absurd (omega arith)
pairs_more text (c ∷ d ∷ t) bs bs' b h i e p =
    i ∙ ap (λ o. after bs (before o (bytes_of t))) (sym e) ∙ after_more bs b (bytes_of t) ∙ (λ k. after (sym p k) (bytes_of (sym (take_rest (c ∷ d ∷ t) 2) k)))
