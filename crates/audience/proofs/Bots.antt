-- A bare stands in its text, so that no text that is free of the bot has the bot's bare.
use Rattle.std.proofs.Common.{◌≡◌, Bool, true, false, cond, ◌⊎◌, List, [], ◌∷◌, Some, None, Option, sym, ap, ◌∙◌, subst, inl, inr}
use Rattle.std.proofs.lemmas.Bool.{both_ways, and_parts, or_cases, not-true, cond_both}
use Rattle.address.specs.Text.{Text, trimmed, small, empty, holds}
use Rattle.address.specs.Address.{bare}
use Rattle.address.proofs.Inside.{bare_inside, bare-trimmed}
use Rattle.keep_first.proofs.Members.{In, has_in}
use Rattle.email_policy.specs.Policy.{Policy}
use Rattle.email_policy.specs.declared.policy.PositiveReviewPolicy.{PositiveReviewPolicy}
use Rattle.email_policy.specs.declared.policy.PositiveReviewPolicy.TheVariants.{None as to_none, Author as to_author, All as to_all}
use Rattle.audience.specs.Mail.{Mail, nobody, free, mailable}
use Rattle.audience.specs.Rules.{Named, named, unless_named, Grant, grant, merged_rank, list_address}
use Rattle.audience.specs.Due.{Due}
use Rattle.audience.specs.Answers.{Recipients, granted, positive_grant, positive_by_rank, bares}
use Rattle.audience.specs.Promises.{BotUnmailed}
use Rattle.audience.proofs.Granted.{mailed_due}
use Rattle.audience.proofs.First.{first_due}
use Rattle.audience.proofs.Positives.{positive_by, sent_due}

unless_named_in : (b : Text) (ns : List Named) (x y : Option Recipients) → In b (bares (unless_named ns x y)) → In b (bares x) ⊎ In b (bares y)
unless_named_in b [] x y i = inl i
unless_named_in b (n ∷ ns) x y i = inr i

module _ (known : Text → Bool) (p : Policy) (m : Mail) where
  -- no text with the bot's bare is free of the bot, unless it is nobody's
  not_free : (t : Text) → nobody t ≡ false → bare t ≡ bare m.bot → free m t ≡ true → ⊥
  not_free t is_somebody e f = elim (or_cases (nobody m.bot) _ f) [
    | inl n ↦ both_ways _ is_somebody (ap empty e ∙ n)
    | inr h ↦ both_ways _ (not-true _ h) (subst (λ b. holds (small t) b ≡ true) e (bare_inside t))
  ]

  not_due : (g : Grant) → Due (list_address known p) m g (bare m.bot) → ⊥
  not_due g d = let (c, _, e, f) = d.candidate in not_free c (ap empty e ∙ d.somebody) e f

  not_the_author : In (bare m.bot) (bares (cond (mailable m m.author) (Some (record { to = trimmed m.author ∷ []; cc = [] })) None)) → ⊥
  not_the_author = cond_both (mailable m m.author) (Some (record { to = trimmed m.author ∷ []; cc = [] })) None (λ o. In (bare m.bot) (bares o) → ⊥)
      (λ e. elim [
        | inl q ↦ not_free m.author (not-true _ (and_parts (free m m.author) _ e).1) (sym (bare-trimmed m.author) ∙ q) (and_parts (free m m.author) _ e).0
        | inr i ↦ i
      ])
      (λ _ i. i)

  not_by_rank : (rank : PositiveReviewPolicy) → In (bare m.bot) (bares (positive_by_rank known p m (granted (list_address known p) m (grant p m)) rank)) → ⊥
  not_by_rank to_none i = i
  not_by_rank to_author i = not_the_author i
  not_by_rank to_all i = elim (unless_named_in (bare m.bot) (named p m) _ _ i) [
    | inl j ↦ not_due (grant p m) (mailed_due (list_address known p) m (grant p m) _ j)
    | inr j ↦ not_due (positive_grant p m) (sent_due known p m (positive_grant p m) _ j)
  ]

pub bot_unmailed : BotUnmailed
bot_unmailed known p m =
    (λ h. not_due known p m (grant p m) (first_due known p m _ (has_in _ _ h)), λ h. not_by_rank known p m (merged_rank p m) (positive_by known p m _ (has_in _ _ h)))
