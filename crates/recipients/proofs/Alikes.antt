-- To ask whether a text is like some is to ask whether some is like it.
use Rattle.std.proofs.Common.{◌≡◌, ◌||◌, List, sym, ap, ◌∙◌, inl, inr}
use Rattle.std.proofs.lemmas.Bool.{cases_Bool, both_ways}
use Rattle.address.specs.Text.{Text}
use Rattle.address.specs.Address.{bare, same_bare, domain}
use Rattle.keep_first.specs.Keep.{some}
use Rattle.keep_first.proofs.Alike.{some-map}
use Rattle.email_policy.specs.Policy.{Policy}
use Rattle.audience.specs.Rules.{at_known, list_address}
use Rattle.audience.specs.Known.{known_domain}
use Rattle.audience.proofs.Bares.{by_bares}
use Rattle.grants.specs.Rules.{keys_of}
use Rattle.recipients.specs.Choices.{listed_by}

pub same_flip : (t u : Text) → same_bare t u ≡ same_bare u t
same_flip t u = elim (cases_Bool (same_bare t u)) [
  | inl a ↦ a ∙ sym (by_bares.symmetric t u a)
  | inr a ↦ elim (cases_Bool (same_bare u t)) [ inl b ↦ absurd (both_ways (same_bare t u) a (by_bares.symmetric u t b)) | inr b ↦ a ∙ sym b ]
]

some_flip : (t : Text) (ts : List Text) → some (same_bare t) ts ≡ some (λ u. same_bare u t) ts
some_flip t ts = (λ i. some (λ u. same_flip t u i) ts)

pub listed_flip : (keys : List Text) (t : Text) → (some (same_bare t) keys || at_known known_domain (domain (bare t))) ≡ listed_by keys t
listed_flip keys t = ap (λ b. b || at_known known_domain (domain (bare t))) (some_flip t keys)

-- the keys of a policy tell the list addresses
pub listed_is : (p : Policy) → listed_by (keys_of p) ≡ list_address known_domain p
listed_is p = (λ i t. sym (some-map (λ e. e.key) (λ k. same_bare k t) p.lists) i || at_known known_domain (domain (bare t)))
