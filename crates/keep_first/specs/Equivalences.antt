-- Sameness that is an equivalence, for a roll to cite.
use Rattle.std.proofs.Common.{sym, ◌∙◌}
use Rattle.std.specs.Prelude.{ℕ, Bool, nat_eq, refl}
use Rattle.std.proofs.lemmas.Bool.{eqb-true, eq-eqb}
use Rattle.keep_first.specs.Model.{Equivalence}

-- elements with equal numbers are the same
pub same_by_number : {X : Type 0} (key : X → ℕ) → Equivalence (λ x y. nat_eq (key x) (key y))
same_by_number key = record {
  reflexive = λ x. eq-eqb (key x) (key x) refl;
  symmetric = λ x y e. eq-eqb (key y) (key x) (sym (eqb-true (key x) (key y) e));
  transitive = λ x y z e f. eq-eqb (key x) (key z) (eqb-true (key x) (key y) e ∙ eqb-true (key y) (key z) f);
}

-- what is the same after a function is an equivalence too
pub same_after : {X Y : Type 0} (f : X → Y) (same : Y → Y → Bool) → Equivalence same → Equivalence (λ x y. same (f x) (f y))
same_after f same law = record {
  reflexive = λ x. law.reflexive (f x);
  symmetric = λ x y. law.symmetric (f x) (f y);
  transitive = λ x y z. law.transitive (f x) (f y) (f z);
}
