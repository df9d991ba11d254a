-- Whether texts hold only text bytes does not depend on where they stand.
use Rattle.std.proofs.Common.{◌≡◌, ℕ, ◌+◌, List, [], ◌∷◌, length, Ok, Err, Result, refl, ◌∙◌, arith}
use Rattle.std.proofs.lemmas.Bool.{cond_both, cond-true}
use Rattle.address.specs.Text.{Text, text_byte, text_fault}
use Rattle.address.specs.declared.text.TextFault.{TextFault}
use Rattle.roll.specs.declared.fault.RollFault.{RollFault}
use Rattle.roll.specs.Reading.{carried, texts_fault}

pub text_anywhere : (a b : ℕ) (t : Text) → text_fault a t ≡ Ok tt → text_fault b t ≡ Ok tt
text_anywhere a b [] = λ e. refl
text_anywhere a b (c ∷ t) =
    let P : Result (Unit {0}) TextFault → Type 0 = λ r. r ≡ Ok tt → text_fault b (c ∷ t) ≡ Ok tt in
    cond_both (text_byte c) (text_fault (a + 1) t) (Err (record { place = a })) P
    (λ h e. cond-true _ _ _ h ∙ text_anywhere (a + 1) (b + 1) t e)
    (λ h e. let z : ◌≡◌ {A = ℕ} 0 1 = cc in absurd (omega arith))

-- the text has no fault, and neither has what follows
carried_ok : (r : Result (Unit {0}) TextFault) (next : Result (Unit {0}) RollFault) → carried r next ≡ Ok tt → (r ≡ Ok tt) × (next ≡ Ok tt)
carried_ok (Ok u) next e = (refl, e)
carried_ok (Err f) next e = let z : ◌≡◌ {A = ℕ} 0 1 = cc in absurd (omega arith)

pub texts_anywhere : (a b : ℕ) (ts : List Text) → texts_fault a ts ≡ Ok tt → texts_fault b ts ≡ Ok tt
unfolding texts_fault
texts_anywhere a b [] e = refl
texts_anywhere a b (t ∷ ts) e =
    let p = carried_ok (text_fault (a + 2) t) (texts_fault (a + (2 + length t)) ts) e in
    let q = text_anywhere (a + 2) (b + 2) t p.0 in
    rw q (texts_anywhere (a + (2 + length t)) (b + (2 + length t)) ts p.1)
