-- Numbers in decimal, digit by digit, and words, byte by byte.
use Rattle.std.proofs.Common.{arith, ◌≡◌, ℕ, ◌+◌, ◌*◌, ◌<◌, ◌≤◌, false, eqb, List, [], ◌∷◌, length, get_or, drop, Some, None, sym, refl, ap, ◌∙◌}
use Rattle.std.proofs.Common.{codes, true}
use Rattle.std.specs.Str.{bytes_eq}
use Rattle.std.proofs.lemmas.List.{drop_more, drop_all, at_drop_more, at_drop_all}
use Rattle.std.proofs.lemmas.Bool.{cond-true, cond-false, lt-ltb, le-ltb, false≢true}
use Rattle.replay.specs.Lines.{more_digits, decimal_digit, number_from, number_of}

pub number_some : (text : List ℕ) → false ≡ eqb (length text) 0 → number_of text ≡ number_from 0 text
number_some [] e = absurd (false≢true e)
number_some (c ∷ t) e = refl

-- one digit at place i, where n has been read
module _ (text : List ℕ) (i n : ℕ) (h : i < length text) where
  digit : number_from n (drop i text) ≡ more_digits n (decimal_digit (get_or text i 0)) (λ m. number_from m (drop (i + 1) text))
  digit = at_drop_more (number_from n) text i 0 h

  pub number_more : (d : ℕ) → Some d ≡ decimal_digit (get_or text i 0) → n < 100000000 → number_from n (drop i text) ≡ number_from (n * 10 + d) (drop (i + 1) text)
  number_more d e l = digit ∙ ap (λ o. more_digits n o (λ m. number_from m (drop (i + 1) text))) (sym e) ∙ cond-true _ _ _ (lt-ltb _ _ l)

  pub number_large : (d : ℕ) → Some d ≡ decimal_digit (get_or text i 0) → 100000000 ≤ n → number_from n (drop i text) ≡ None
  number_large d e l = digit ∙ ap (λ o. more_digits n o (λ m. number_from m (drop (i + 1) text))) (sym e) ∙ cond-false _ _ _ (le-ltb _ _ l)

  pub number_bad : None ≡ decimal_digit (get_or text i 0) → number_from n (drop i text) ≡ None
  number_bad e = digit ∙ ap (λ o. more_digits n o (λ m. number_from m (drop (i + 1) text))) (sym e)

pub number_all : (text : List ℕ) (i n : ℕ) → length text ≤ i → number_from n (drop i text) ≡ Some n
number_all text i n h = at_drop_all (number_from n) text i h

-- the bytes of w from place i on are those of u
abbrev pub Spells : List ℕ → ℕ → List ℕ → Type 0
Spells w i [] = Unit {0}
Spells w i (b ∷ u) = (get_or w i 0 ≡ b) × Spells w (i + 1) u

pub spelled : (w : List ℕ) (i : ℕ) (u : List ℕ) → length w ≡ i + length u → Spells w i u → drop i w ≡ u
spelled w i [] e h = drop_all i w (omega arith)
spelled w i (b ∷ u) e h = drop_more w i 0 (omega arith) ∙ (λ k. h.0 k ∷ spelled w (i + 1) u (omega arith) h.1 k)

-- seven bytes that are those of a word
pub word_address : (w : List ℕ) → length w ≡ 7 → get_or w 0 0 ≡ 97 → get_or w 1 0 ≡ 100 → get_or w 2 0 ≡ 100 → get_or w 3 0 ≡ 114 → get_or w 4 0 ≡ 101 → get_or w 5 0 ≡ 115 → get_or w 6 0 ≡ 115 → bytes_eq w (codes "address") ≡ true
word_address w n a b c d e f g = ap (λ u. bytes_eq u (codes "address")) (spelled w 0 (codes "address") n (a, (b, (c, (d, (e, (f, (g, tt))))))))
