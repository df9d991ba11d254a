-- Quoted parts, without the scanner.
use Rattle.std.proofs.Common.{◌≡◌, ℕ, suc, true, false, cond, eqb, [], ◌∷◌, ◌++◌, length, replicate, refl, ap, ◌∙◌, ⊎_elim}
use Rattle.std.proofs.lemmas.Bool.{ne_eqb, eqb-true, eqb-false, false≢true, cases_Bool}
use Rattle.address.specs.declared.scanner.Scanner.{Scanner}
use Rattle.address.specs.declared.scanner.Scanner.TheVariants.{Outside, Quoted, Escaped}
use Rattle.address.specs.Text.{Text}
use Rattle.address.specs.Quoted.{next, closes, unquoted_from, unquoted}
use Rattle.address.specs.Laws.{Content, nothing, byte, pair, QuotedParts}
use Rattle.address.proofs.Quotes.{unclosed_plain}

stays : (b : ℕ) → (b ≡ 34 → ⊥) → (b ≡ 92 → ⊥) → next Quoted b ≡ Quoted
stays b p q = simp (ne_eqb b 34 p, ne_eqb b 92 q)

ends : {inner : Text} (rest : Text) → Content inner → closes Quoted (inner ++ (34 ∷ rest)) ≡ true
ends rest nothing = refl
ends rest (byte {b} {t} p q r) = ap (λ s. closes s (t ++ (34 ∷ rest))) (stays b p q) ∙ ends rest r
ends rest (pair r) = ends rest r

hides : {inner : Text} (rest : Text) → Content inner → unquoted_from Quoted (inner ++ (34 ∷ rest)) ≡ replicate (suc (length inner)) 0 ++ unquoted rest
hides rest nothing = refl
hides rest (byte {b} p q r) = simp (ne_eqb b 34 p, ne_eqb b 92 q) (ap (λ l. 0 ∷ l) (hides rest r))
hides rest (pair r) = ap (λ l. 0 ∷ 0 ∷ l) (hides rest r)

-- where a quoted part ends, the bytes split at its end
abbrev Split : Scanner → Text → Type 0
Split Outside t = Unit {0}
Split Quoted t = (inner : Text) × (rest : Text) × Content inner × (t ≡ inner ++ (34 ∷ rest))
Split Escaped t = (b : ℕ) × (inner : Text) × (rest : Text) × Content inner × (t ≡ b ∷ (inner ++ (34 ∷ rest)))

split : (t : Text) (s : Scanner) → closes s t ≡ true → Split s t
split t Outside h = tt
split [] Quoted h = absurd (false≢true h)
split [] Escaped h = absurd (false≢true h)
split (b ∷ t) Quoted h =
    (elim (eqb b 34) as (λ e. eqb b 34 ≡ e → closes (cond e Outside (cond (eqb b 92) Escaped Quoted)) t ≡ true → Split Quoted (b ∷ t)) [
      | true ↦ λ e u. ([], t, nothing, ap (λ x. x ∷ t) (eqb-true b 34 e))
      | false ↦ λ e u.
          (elim (eqb b 92) as (λ f. eqb b 92 ≡ f → closes (cond f Escaped Quoted) t ≡ true → Split Quoted (b ∷ t)) [
            | true ↦ λ f v. let w = split t Escaped v in (92 ∷ w.0 ∷ w.1, w.2, pair w.3, λ i. eqb-true b 92 f i ∷ w.4 i)
            | false ↦ λ f v. let w = split t Quoted v in (b ∷ w.0, w.1, byte (eqb-false b 34 e) (eqb-false b 92 f) w.2, ap (λ l. b ∷ l) w.3)
          ]) refl u
    ]) refl h
split (b ∷ t) Escaped h = let w = split t Quoted h in (b, w.0, w.1, w.2, ap (λ l. b ∷ l) w.3)

pub quoted_parts : QuotedParts
quoted_parts = record {
  empty = refl;
  plain = λ b t ne. simp (ne_eqb b 34 ne);
  hidden = λ inner rest r. simp (ends rest r) (ap (λ l. 0 ∷ l) (hides rest r));
  unclosed = λ t f.
      ⊎_elim
      (λ h. let w = split t Quoted h in absurd (f w.0 w.1 w.2 w.3))
      (λ (h : closes Quoted t ≡ false). simp h (ap (λ l. 34 ∷ l) (unclosed_plain t Quoted h)))
      (cases_Bool (closes Quoted t));
}
