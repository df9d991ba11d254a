-- The front of a front.
use Rattle.std.proofs.Common.{◌≡◌, ℕ, min, take, ap, ◌∙◌, ⊎_elim, arith}
use Rattle.std.proofs.lemmas.List.{take_all, take-take, length-take}
use Rattle.std.proofs.lemmas.Bool.{cases_lt}
use Rattle.address.specs.Text.{Text}

pub take-take-min : (n m k : ℕ) (l : Text) → k ≡ min m n → take m (take n l) ≡ take k l
take-take-min n m k l e =
    let z = length-take n l in
    ⊎_elim
    (λ h. let q : m ≡ k = omega arith in take-take m n l (omega arith) ∙ ap (λ (x : ℕ). take x l) q)
    (λ h. let q : n ≡ k = omega arith in take_all m (take n l) (omega arith) ∙ ap (λ (x : ℕ). take x l) q)
    (cases_lt m n)
