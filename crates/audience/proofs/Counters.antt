-- The false neighbours, each by its example.
use Rattle.std.proofs.Common.{◌≡◌, List, [], ◌∷◌, take, codes, refl, ap, subst, inl, inr}
use Rattle.std.specs.Str.{bytes_eq}
use Rattle.std.proofs.lemmas.Bool.{true≢false}
use Rattle.address.specs.Text.{Text}
use Rattle.keep_first.specs.Keep.{some, first_or, firsts, stand_in}
use Rattle.keep_first.proofs.Members.{In, in_has}
use Rattle.email_policy.specs.Policy.{Policy}
use Rattle.email_policy.specs.declared.policy.PositiveReviewPolicy.TheVariants.{None as to_none, Author as to_author}
use Rattle.audience.specs.Mail.{Mail}
use Rattle.audience.specs.Rules.{grant, list_address}
use Rattle.audience.specs.Promises.{DueBy}
use Rattle.audience.specs.Counterexamples.{no_domain, to_individuals, one_mail, crowded_mail, people, NoneOfTheseHolds}
use Rattle.audience.proofs.Granted.{mailed, due_mailed}

-- who is due is mailed, and who is mailed is computed
due_in : (p : Policy) (m : Mail) (b : Text) (ts : List Text) → mailed (list_address no_domain p) m (grant p m) ≡ ts → DueBy no_domain p m b → In b ts
due_in p m b ts e d = subst (In b) e (due_mailed (list_address no_domain p) m (grant p m) b d)

author_not_due : DueBy no_domain (to_individuals to_author) one_mail (codes "a@z.test") → ⊥
unfolding some first_or firsts stand_in
author_not_due d = elim (due_in (to_individuals to_author) one_mail (codes "a@z.test") (codes "p@y.test" ∷ []) refl d) [
  | inl e ↦ true≢false (ap (bytes_eq (codes "p@y.test")) e)
  | inr i ↦ i
]

none_due : (b : Text) → DueBy no_domain (to_individuals to_none) crowded_mail b → ⊥
unfolding some first_or firsts stand_in
none_due b d = due_in (to_individuals to_none) crowded_mail b [] refl d

pub none_holds : NoneOfTheseHolds
unfolding some first_or firsts stand_in
none_holds = record {
  any_positive = λ h. author_not_due (h no_domain (to_individuals to_author) one_mail (codes "a@z.test") (in_has (codes "a@z.test" ∷ []) (codes "a@z.test") (inl refl)));
  cutting = λ h. none_due (codes "ia@y.test") (h no_domain (to_individuals to_none) crowded_mail (codes "ia@y.test") refl (in_has (codes "ia@y.test" ∷ take 127 (people 128)) (codes "ia@y.test") (inl refl)) refl);
}
