-- The rank of a first answer, and what the two answers are by it.
use Rattle.std.proofs.Common.{◌≡◌, Bool, true, false, cond, ◌||◌, List, [], ◌∷◌, map, Some, None, Option, sym, refl, ap, ◌∙◌}
use Rattle.std.proofs.lemmas.Bool.{or_right, or_from, cond-true, cond-false}
use Rattle.address.specs.Text.{Text}
use Rattle.email_policy.specs.Policy.{Policy}
use Rattle.email_policy.specs.declared.policy.PositiveReviewPolicy.{PositiveReviewPolicy}
use Rattle.email_policy.specs.declared.policy.PositiveReviewPolicy.TheVariants.{None as to_none, Author as to_author, All as to_all}
use Rattle.audience.specs.Mail.{Mail}
use Rattle.audience.specs.Rules.{Grant, Named, names, named, unless_named, by_defaults, by_lists, grant, shut_out, muted, merged_rank, list_address}
use Rattle.audience.specs.Answers.{Recipients, sent, Answer, mute, send, send_or_mute, first_answer, positive_grant, positive_of, positive_answer}
use Rattle.audience.specs.Known.{known_domain}
use Rattle.grants.specs.declared.pass.Pass.TheVariants.{First, Positive}
use Rattle.grants.specs.declared.pass.Terms.{Terms}
use Rattle.grants.specs.Rules.{grant_by, terms_by, keys_of}
use Rattle.grants.proofs.ByMarks.{first-grant, positive-granted, first-muted, first_rank}
use Rattle.recipients.specs.Choices.{listed_by}
use Rattle.recipients.proofs.Alikes.{listed_is}
use Rattle.email_router.specs.declared.action.Size.{Size}
use Rattle.email_router.specs.declared.action.Action.TheVariants.{Mute, Send}
use Rattle.email_router.specs.Actions.{action_of}
use Rattle.email_router.specs.Envelope.{pack_sent, pack_answer, pack_positive, nothing}
use Rattle.email_router.specs.Chosen.{sent_rank, answer_action, author_alone}

-- by the terms of the named lists
module _ (p : Policy) (m : Mail) (marks : List Bool) (are_named : marks ≡ map (names m) p.lists) (heard : shut_out p m ≡ false) (t : Terms) (terms : t ≡ terms_by First marks p) where
  pub rank_muted : t.mute_all ≡ true → None ≡ sent_rank p m
  rank_muted e =
      let mutes : muted p m ≡ true = sym (ap (λ t. t.mute_all) terms ∙ first-muted p m marks are_named) ∙ e in
      sym (cond-true _ _ _ (or_right (shut_out p m) (muted p m) mutes))

  pub rank_sent : t.mute_all ≡ false → Some t.positive_review ≡ sent_rank p m
  rank_sent e =
      let speaks : muted p m ≡ false = sym (ap (λ t. t.mute_all) terms ∙ first-muted p m marks are_named) ∙ e in
      let rank : t.positive_review ≡ merged_rank p m = ap (λ t. t.positive_review) terms ∙ first_rank p m marks are_named in
      ap Some rank ∙ sym (cond-false _ _ _ (or_from (shut_out p m) (muted p m) heard speaks))

-- a first answer by its rank
module _ (o : Option Recipients) (r : PositiveReviewPolicy) where
  mute_by : (barred : Bool) → None ≡ cond barred None (Some r) → cond barred mute (send_or_mute o r) ≡ mute
  mute_by true e = refl
  mute_by false e = absurd cc

  send_by : (barred : Bool) (k : PositiveReviewPolicy) → Some k ≡ cond barred None (Some r) → cond barred mute (send_or_mute o r) ≡ send_or_mute o k
  send_by true k e = absurd cc
  send_by false k e = let same : r ≡ k = cc in ap (send_or_mute o) same

pub packed-sent : (o : Option Recipients) (k : PositiveReviewPolicy) → pack_sent o k ≡ pack_answer (send_or_mute o k)
packed-sent None k = refl
packed-sent (Some r) k = refl

action-sent : (o : Option Recipients) (k : PositiveReviewPolicy) → action_of o k ≡ answer_action (send_or_mute o k)
unfolding action_of
action-sent None k = refl
action-sent (Some r) k = refl

module _ (p : Policy) (m : Mail) where
  abbrev listed : Text → Bool
  listed = list_address known_domain p

  abbrev first : Answer
  first = first_answer known_domain p m

  first_mute : None ≡ sent_rank p m → first ≡ mute
  first_mute = mute_by (sent listed m (grant p m)) (merged_rank p m) (shut_out p m || muted p m)

  pub mute_action : None ≡ sent_rank p m → Mute ≡ answer_action first
  unfolding action_of
  mute_action e = sym (ap answer_action (first_mute e))

  module _ (marks : List Bool) (are_named : marks ≡ map (names m) p.lists) (k : PositiveReviewPolicy) (rank : Some k ≡ sent_rank p m) where
    first_sent : first ≡ send_or_mute (sent (listed_by (keys_of p)) m (grant_by First marks p)) k
    first_sent =
        send_by (sent listed m (grant p m)) (merged_rank p m) (shut_out p m || muted p m) k rank
        ∙ (λ i. send_or_mute (sent (sym (listed_is p) i) m (sym (first-grant p m marks are_named) i)) k)

    pub first_packed : pack_sent (sent (listed_by (keys_of p)) m (grant_by First marks p)) k ≡ pack_answer first
    first_packed = packed-sent (sent (listed_by (keys_of p)) m (grant_by First marks p)) k ∙ sym (ap pack_answer first_sent)

    pub first_action : action_of (sent (listed_by (keys_of p)) m (grant_by First marks p)) k ≡ answer_action first
    first_action = action-sent (sent (listed_by (keys_of p)) m (grant_by First marks p)) k ∙ sym (ap answer_action first_sent)

-- what an action says of the answer
mute_answer : (a : Answer) → Mute ≡ answer_action a → a ≡ mute
unfolding action_of
mute_answer mute e = refl
mute_answer (send r k) e = absurd cc

send_answer : (w : Answer) (a b : Size) (k : PositiveReviewPolicy) → Send a b k ≡ answer_action w → (r : Recipients) × (w ≡ send r k)
unfolding action_of
send_answer mute a b k e = absurd cc
send_answer (send r q) a b k e = let same : q ≡ k = cc in (r, ap (send r) same)

-- who was sent a first answer
sent_first : (barred : Bool) (o : Option Recipients) (rank k : PositiveReviewPolicy) (r : Recipients) → cond barred mute (send_or_mute o rank) ≡ send r k → o ≡ Some r
sent_first true o rank k r e = absurd cc
sent_first false None rank k r e = absurd cc
sent_first false (Some s) rank k r e = let same : s ≡ r = cc in ap Some same

-- with no list named, a review without findings goes where the first answer went
again_sent : (listed : Text → Bool) (m : Mail) (ns : List Named) (d l q : Grant) (r : Recipients) → sent listed m (unless_named ns d l) ≡ Some r → sent listed m (unless_named ns d q) ≡ unless_named ns (Some r) (sent listed m q)
again_sent listed m [] d l q r e = e
again_sent listed m (n ∷ ns) d l q r e = refl

module _ (p : Policy) (m : Mail) where
  pub mute_positive : Mute ≡ answer_action (first p m) → nothing ≡ pack_positive (positive_answer known_domain p m)
  mute_positive e = sym (ap (λ a. pack_positive (positive_of known_domain p m a)) (mute_answer (first p m) e))

  module _ (a b : Size) (k : PositiveReviewPolicy) (is : Send a b k ≡ answer_action (first p m)) where
    positive_is : (r : Recipients) × (positive_answer known_domain p m ≡ positive_of known_domain p m (send r k))
    positive_is = let (r, e) = send_answer (first p m) a b k is in (r, ap (positive_of known_domain p m) e)

    pub none_positive : k ≡ to_none → nothing ≡ pack_positive (positive_answer known_domain p m)
    none_positive e = let (r, q) = positive_is in sym (ap pack_positive (q ∙ ap (λ k. positive_of known_domain p m (send r k)) e))

    pub author_positive : k ≡ to_author → author_alone m ≡ positive_answer known_domain p m
    author_positive e = let (r, q) = positive_is in sym (q ∙ ap (λ k. positive_of known_domain p m (send r k)) e)

    pub all_positive : (marks : List Bool) → marks ≡ map (names m) p.lists → k ≡ to_all → sent (listed_by (keys_of p)) m (grant_by Positive marks p) ≡ positive_answer known_domain p m
    all_positive marks are_named e =
        let (r, s) = send_answer (first p m) a b k is in
        let went : sent (listed p m) m (grant p m) ≡ Some r = sent_first (shut_out p m || muted p m) (sent (listed p m) m (grant p m)) (merged_rank p m) k r s in
        (λ i. sent (listed_is p i) m (positive-granted p m marks are_named i))
        ∙ again_sent (listed p m) m (named p m) (by_defaults p.defaults) (by_lists p.defaults (named p m)) (positive_grant p m) r went
        ∙ sym (ap (positive_of known_domain p m) s ∙ ap (λ k. positive_of known_domain p m (send r k)) e)
