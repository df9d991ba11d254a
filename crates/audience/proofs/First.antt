-- The first answer reaches exactly the bares due.
use Rattle.std.proofs.Common.{◌≡◌, Bool, true, false, ◌||◌, ◌⊎◌, List, [], ◌∷◌, map, Some, None, Option, sym, refl, ap, ◌∙◌, subst, inl, inr}
use Rattle.std.proofs.lemmas.Bool.{cases_Bool, or_left, or_right, or_from, cond-true, cond-false}
use Rattle.address.specs.Text.{Text}
use Rattle.address.specs.Address.{bare}
use Rattle.keep_first.proofs.Members.{In, has_in, in_has}
use Rattle.email_policy.specs.Policy.{Policy}
use Rattle.email_policy.specs.declared.policy.PositiveReviewPolicy.{PositiveReviewPolicy}
use Rattle.audience.specs.Mail.{Mail}
use Rattle.audience.specs.Rules.{Grant, grant, shut_out, muted, merged_rank, list_address}
use Rattle.audience.specs.Answers.{Recipients, everyone, somebody, granted, sent, Answer, mute, send_or_mute, first_answer, bares, audience}
use Rattle.audience.specs.Promises.{Distinct, DueBy, ReachesTheDue, EveryAnswerReachesTheDue}
use Rattle.audience.proofs.Granted.{mailed, due_mailed, mailed_due, mailed_once}

bares-somebody : (ts : List Text) (r : Recipients) → ts ≡ everyone r → bares (somebody ts r) ≡ map bare ts
bares-somebody [] r e = refl
bares-somebody (t ∷ ts) r e = ap (map bare) (sym e)

-- whether there is somebody or not, the bares of what is sent are those of everyone
pub bares-sent : (listed : Text → Bool) (m : Mail) (g : Grant) → bares (sent listed m g) ≡ mailed listed m g
bares-sent listed m g = bares-somebody (everyone (granted listed m g)) (granted listed m g) refl

nobody-sent : (ts : List Text) (r : Recipients) → ((b : Text) → In b (map bare ts) → ⊥) → somebody ts r ≡ None
nobody-sent [] r n = refl
nobody-sent (t ∷ ts) r n = absurd (n (bare t) (inl refl))

audience-sent : (o : Option Recipients) (rank : PositiveReviewPolicy) → audience (send_or_mute o rank) ≡ bares o
audience-sent None rank = refl
audience-sent (Some r) rank = refl

module _ (known : Text → Bool) (p : Policy) (m : Mail) where
  abbrev listed : Text → Bool
  listed = list_address known p

  abbrev barred : Bool
  barred = shut_out p m || muted p m

  abbrev unbarred : Answer
  unbarred = send_or_mute (sent listed m (grant p m)) (merged_rank p m)

  first_barred : barred ≡ true → first_answer known p m ≡ mute
  first_barred e = cond-true barred mute unbarred e

  pub first-audience : barred ≡ false → audience (first_answer known p m) ≡ mailed listed m (grant p m)
  first-audience e = ap audience (cond-false barred mute unbarred e) ∙ audience-sent (sent listed m (grant p m)) (merged_rank p m) ∙ bares-sent listed m (grant p m)

  mute_why : first_answer known p m ≡ mute → (shut_out p m ≡ true) ⊎ ((muted p m ≡ true) ⊎ ((b : Text) → DueBy known p m b → ⊥))
  mute_why e = elim (cases_Bool (shut_out p m)) [
    | inl t ↦ inl t
    | inr f ↦ elim (cases_Bool (muted p m)) [
      | inl t ↦ inr (inl t)
      | inr n ↦ inr (inr (λ b d. subst (In b) (sym (first-audience (or_from _ _ f n)) ∙ ap audience e) (due_mailed listed m (grant p m) b d)))
    ]
  ]

  mute_when : (shut_out p m ≡ true) ⊎ ((muted p m ≡ true) ⊎ ((b : Text) → DueBy known p m b → ⊥)) → first_answer known p m ≡ mute
  mute_when (inl t) = first_barred (or_left _ _ t)
  mute_when (inr (inl t)) = first_barred (or_right (shut_out p m) _ t)
  mute_when (inr (inr n)) = elim (cases_Bool barred) [
    | inl t ↦ first_barred t
    | inr f ↦ cond-false barred mute unbarred f
        ∙ ap (λ o. send_or_mute o (merged_rank p m)) (nobody-sent (everyone (granted listed m (grant p m))) (granted listed m (grant p m)) (λ b h. n b (mailed_due listed m (grant p m) b h)))
  ]

  -- an audience is of those due, whatever the answer
  pub first_due : (b : Text) → In b (audience (first_answer known p m)) → DueBy known p m b
  first_due b i = elim (cases_Bool barred) [
    | inl t ↦ absurd (subst (In b) (ap audience (first_barred t)) i)
    | inr f ↦ mailed_due listed m (grant p m) b (subst (In b) (first-audience f) i)
  ]

  due_first : (first_answer known p m ≡ mute → ⊥) → (b : Text) → DueBy known p m b → In b (audience (first_answer known p m))
  due_first n b d = elim (cases_Bool barred) [
    | inl t ↦ absurd (n (first_barred t))
    | inr f ↦ subst (In b) (sym (first-audience f)) (due_mailed listed m (grant p m) b d)
  ]

  first_once : Distinct (audience (first_answer known p m))
  first_once = elim (cases_Bool barred) [
    | inl t ↦ subst Distinct (sym (ap audience (first_barred t))) tt
    | inr f ↦ subst Distinct (sym (first-audience f)) (mailed_once listed m (grant p m))
  ]

  reaches : ReachesTheDue known p m
  reaches = record {
    mutes = (mute_why, mute_when);
    exactly = λ n b. (λ h. first_due b (has_in _ b h), λ d. in_has _ b (due_first n b d));
    once = first_once;
  }

pub every_answer_reaches_the_due : EveryAnswerReachesTheDue
every_answer_reaches_the_due = reaches
