-- What the two passes over a text keep: one finds the quote that never closes, one what stands outside the quoted parts.
use Rattle.std.proofs.Common.{◌≡◌, ℕ, zero, suc, ◌+◌, ◌-◌, ◌<◌, ◌≤◌, Bool, true, false, cond, not, ◌&&◌, eqb, [], ◌∷◌, length, get_or, drop, Some, Option, sym, refl, ap, ◌∙◌, arith}
use Rattle.std.specs.Option.{option_map}
use Rattle.std.proofs.lemmas.List.{at_drop_more}
use Rattle.std.proofs.lemmas.Bool.{ne_eqb, eqb-true, true≢false}
use Rattle.address.specs.declared.scanner.Scanner.{Scanner}
use Rattle.address.specs.declared.scanner.Scanner.TheVariants.{Outside, Quoted, Escaped}
use Rattle.address.specs.Text.{Text, first_place}
use Rattle.address.specs.Quoted.{next, closes, unquoted_from, unquoted, first_outside, before_unclosed}
use Rattle.address.proofs.Places.{from, from_zero, first_place_passed}

-- ---- the first pass

-- the place of the quote that never closes, as told at place i from the state there and the last place outside
abbrev pub told : Text → Scanner → ℕ → ℕ → ℕ
told t s i opened = cond (closes s t) (i + before_unclosed s t) opened

told_step : (b : ℕ) (t : Text) (s : Scanner) (i opened : ℕ) → told (b ∷ t) s i opened ≡ told t (next s b) (i + 1) (elim s [ Outside ↦ i | Quoted ↦ opened | Escaped ↦ opened ])
told_step b t Outside i opened =
    elim (eqb b 34) as (λ e. i + cond (e && not (closes Quoted t)) 0 (suc (before_unclosed (cond e Quoted Outside) t)) ≡ told t (cond e Quoted Outside) (i + 1) i) [
      | true ↦ elim (closes Quoted t) as (λ q. i + cond (not q) 0 (suc (before_unclosed Quoted t)) ≡ cond q (i + 1 + before_unclosed Quoted t) i) [ true ↦ omega arith | false ↦ omega arith ]
      | false ↦ omega arith
    ]
told_step b t Quoted i opened = ap (λ n. cond (closes (next Quoted b) t) n opened) (omega arith)
told_step b t Escaped i opened = ap (λ n. cond (closes Quoted t) n opened) (omega arith)

module _ (t : Text) (s : Scanner) (i opened : ℕ) where
  pub told_outside : i < length t → s ≡ Outside → told (drop i t) s i opened ≡ told (drop (i + 1) t) (next s (get_or t i 0)) (i + 1) i
  told_outside h e = at_drop_more (λ l. told l s i opened) t i 0 h ∙ rw e (told_step (get_or t i 0) (drop (i + 1) t) Outside i opened)

  pub told_inside : i < length t → (s ≡ Outside → ⊥) → told (drop i t) s i opened ≡ told (drop (i + 1) t) (next s (get_or t i 0)) (i + 1) opened
  told_inside h ne =
      at_drop_more (λ l. told l s i opened) t i 0 h
      ∙ (elim s as (λ v. (v ≡ Outside → ⊥) → told (get_or t i 0 ∷ drop (i + 1) t) v i opened ≡ told (drop (i + 1) t) (next v (get_or t i 0)) (i + 1) opened) [
        | Outside ↦ λ no. absurd (no refl)
        | Quoted ↦ λ no. told_step (get_or t i 0) (drop (i + 1) t) Quoted i opened
        | Escaped ↦ λ no. told_step (get_or t i 0) (drop (i + 1) t) Escaped i opened
      ]) ne

-- ---- from a quote that never closes on, nothing is hidden

pub unclosed_plain : (t : Text) (s : Scanner) → closes s t ≡ false → unquoted t ≡ t
unclosed_plain [] s h = refl
unclosed_plain (b ∷ t) Outside h = absurd (true≢false h)
unclosed_plain (b ∷ t) Quoted h =
    let more = ap (λ l. b ∷ l) (unclosed_plain t (next Quoted b) h) in
    (elim (eqb b 34) as (λ e. closes (cond e Outside (cond (eqb b 92) Escaped Quoted)) t ≡ false → cond (e && closes Quoted t) (0 ∷ unquoted_from Quoted t) (b ∷ unquoted t) ≡ b ∷ t) [ true ↦ λ u. absurd (true≢false u) | false ↦ λ u. more ]) h
unclosed_plain (b ∷ t) Escaped h =
    let more = ap (λ l. b ∷ l) (unclosed_plain t Quoted h) in
    simp h (elim (eqb b 34) as (λ e. cond (e && false) (0 ∷ unquoted_from Quoted t) (b ∷ unquoted t) ≡ b ∷ t) [ true ↦ more | false ↦ more ])

-- ---- the second pass

-- what the loop looks at: the byte outside, and 0 inside
abbrev pub seen : Scanner → ℕ → ℕ
seen Outside b = b
seen Quoted b = 0
seen Escaped b = 0

-- n places are left before the quote that never closes, and from there on the state stays
abbrev pub seen_from : Text → Scanner → ℕ → Text
seen_from [] s n = []
seen_from (b ∷ t) s zero = seen s b ∷ seen_from t s zero
seen_from (b ∷ t) s (suc n) = seen s b ∷ seen_from t (next s b) n

seen_rest : (t : Text) → seen_from t Outside 0 ≡ t
seen_rest [] = refl
seen_rest (b ∷ t) = ap (λ l. b ∷ l) (seen_rest t)

module _ (c : ℕ) where
  abbrev pub place : Text → Option ℕ
  place t = first_place (λ b. eqb b c) t

  -- a byte that is not c is passed
  skip : (x : ℕ) (t : Text) → (x ≡ c → ⊥) → place (x ∷ t) ≡ option_map suc (place t)
  skip x t ne = rw (ne_eqb x c ne)

  same_rest : (x : ℕ) (t u : Text) → place t ≡ place u → place (x ∷ t) ≡ place (x ∷ u)
  same_rest x t u e = ap (λ o. cond (eqb x c) (Some 0) (option_map suc o)) e

  module _ (some : 0 < c) (ordinary : c ≡ 34 → ⊥) where
    at_quote : (b : ℕ) (t : Text) (e k : Bool) → eqb b 34 ≡ e → closes Quoted t ≡ k → place (unquoted t) ≡ place (seen_from t Outside (before_unclosed Outside t)) → (closes Quoted t ≡ true → place (unquoted_from Quoted t) ≡ place (seen_from t Quoted (before_unclosed Quoted t))) → place (unquoted (b ∷ t)) ≡ place (seen_from (b ∷ t) Outside (before_unclosed Outside (b ∷ t)))
    at_quote b t true true p q a f =
        simp (p, q) (skip 0 (unquoted_from Quoted t) (λ z. omega arith) ∙ ap (option_map suc) (f q) ∙ sym (skip b (seen_from t Quoted (before_unclosed Quoted t)) (λ z. ordinary (sym z ∙ eqb-true b 34 p))))
    at_quote b t true false p q a f = simp (p, q) (ap (λ l. place (b ∷ l)) (unclosed_plain t Quoted q ∙ sym (seen_rest t)))
    at_quote b t false k p q a f = simp p (same_rest b (unquoted t) (seen_from t Outside (before_unclosed Outside t)) a)

    looked : (t : Text) (s : Scanner) → closes s t ≡ true → place (unquoted_from s t) ≡ place (seen_from t s (before_unclosed s t))
    looked [] s h = refl
    looked (b ∷ t) Outside h = at_quote b t (eqb b 34) (closes Quoted t) refl refl (looked t Outside refl) (λ k. looked t Quoted k)
    looked (b ∷ t) Quoted h = same_rest 0 (unquoted_from (next Quoted b) t) (seen_from t (next Quoted b) (before_unclosed (next Quoted b) t)) (looked t (next Quoted b) h)
    looked (b ∷ t) Escaped h = same_rest 0 (unquoted_from Quoted t) (seen_from t Quoted (before_unclosed Quoted t)) (looked t Quoted h)

    -- the loop begins
    pub seen_at_start : (t : Text) (n : ℕ) → n ≡ before_unclosed Outside t → first_outside c t ≡ from 0 (place (seen_from t Outside n))
    seen_at_start t n e = looked t Outside refl ∙ ap (λ m. place (seen_from t Outside m)) (sym e) ∙ from_zero _

  -- one turn at place i, where the quote that never closes stands at p
  module _ (t : Text) (s : Scanner) (i p : ℕ) where
    pub seen_before : i < length t → (seen s (get_or t i 0) ≡ c → ⊥) → i < p → from i (place (seen_from (drop i t) s (p - i))) ≡ from (i + 1) (place (seen_from (drop (i + 1) t) (next s (get_or t i 0)) (p - (i + 1))))
    seen_before h ne l =
        let e : p - i ≡ suc (p - (i + 1)) = omega arith in
        at_drop_more (λ l. from i (place (seen_from l s (p - i)))) t i 0 h
        ∙ ap (λ n. from i (place (seen_from (get_or t i 0 ∷ drop (i + 1) t) s n))) e
        ∙ first_place_passed (λ b. eqb b c) i _ _ (ne_eqb _ c ne)

    pub seen_past : i < length t → (seen s (get_or t i 0) ≡ c → ⊥) → p ≤ i → from i (place (seen_from (drop i t) s (p - i))) ≡ from (i + 1) (place (seen_from (drop (i + 1) t) s (p - (i + 1))))
    seen_past h ne l =
        let e : p - i ≡ 0 = omega arith in
        let f : 0 ≡ p - (i + 1) = omega arith in
        at_drop_more (λ l. from i (place (seen_from l s (p - i)))) t i 0 h
        ∙ ap (λ n. from i (place (seen_from (get_or t i 0 ∷ drop (i + 1) t) s n))) e
        ∙ first_place_passed (λ b. eqb b c) i _ _ (ne_eqb _ c ne)
        ∙ ap (λ n. from (i + 1) (place (seen_from (drop (i + 1) t) s n))) f

-- a byte inside is not c, and one outside only if it is
pub unseen : (c b : ℕ) (s : Scanner) → 0 < c → (s ≡ Outside → b ≡ c → ⊥) → seen s b ≡ c → ⊥
unseen c b Outside h f e = f refl e
unseen c b Quoted h f e = omega arith
unseen c b Escaped h f e = omega arith
