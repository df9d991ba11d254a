-- The two answers to a mail: to whom the review goes, and to whom it goes if it has no findings.
use Rattle.std.specs.Prelude.{Bool, false, cond, ◌||◌, List, [], ◌∷◌, ◌++◌, map, Some, None, Option}
use Rattle.address.specs.Text.{Text, trimmed}
use Rattle.address.specs.Address.{bare}
use Rattle.email_policy.specs.Policy.{Policy}
use Rattle.email_policy.specs.declared.policy.PositiveReviewPolicy.{PositiveReviewPolicy}
use Rattle.email_policy.specs.declared.policy.PositiveReviewPolicy.TheVariants.{None as to_none, Author as to_author, All as to_all}
use Rattle.audience.specs.Mail.{Mail, mailable}
use Rattle.audience.specs.Rules.{Rule, Named, Grant, named, unless_named, by_lists, grant, shut_out, muted, merged_rank, list_address}
use Rattle.audience.specs.Due.{to_texts, cc_texts}

-- the texts of To and of Cc
pub record Recipients : Type 0 where
  pub to : List Text
  pub cc : List Text

abbrev pub everyone : Recipients → List Text
everyone r = r.to ++ r.cc

-- the recipients, where there is one
abbrev pub somebody : List Text → Recipients → Option Recipients
somebody [] r = None
somebody (t ∷ ts) r = Some r

-- who is mailed under a grant
abbrev pub granted : (Text → Bool) → Mail → Grant → Recipients
granted listed m g = record { to = to_texts listed m g; cc = cc_texts listed m g }

abbrev pub sent : (Text → Bool) → Mail → Grant → Option Recipients
sent listed m g = somebody (everyone (granted listed m g)) (granted listed m g)

pub data Answer : Type 0 where
  mute : Answer
  send : (r : Recipients) (rank : PositiveReviewPolicy) → Answer

abbrev pub send_or_mute : Option Recipients → PositiveReviewPolicy → Answer
send_or_mute None rank = mute
send_or_mute (Some r) rank = send r rank

-- what a rule gives to a review without findings, by its rank: all of it, the author part alone, or nothing
abbrev pub positive_rule : PositiveReviewPolicy → Rule → Rule
positive_rule to_none r = record { reply_to = record { author = false; list = false; recipients = false }; positive_review = r.positive_review; mute_all = r.mute_all; cc = [] }
positive_rule to_author r = record { reply_to = record { author = r.reply_to.author; list = false; recipients = false }; positive_review = r.positive_review; mute_all = r.mute_all; cc = [] }
positive_rule to_all r = r

abbrev pub positive_named : Named → Named
positive_named n = record { key = n.key; rule = positive_rule n.rule.positive_review n.rule }

abbrev pub positive_grant : Policy → Mail → Grant
positive_grant p m = by_lists p.defaults (map positive_named (named p m))

module _ (known : Text → Bool) (p : Policy) (m : Mail) where
  abbrev pub first_answer : Answer
  first_answer = cond (shut_out p m || muted p m) mute (send_or_mute (sent (list_address known p) m (grant p m)) (merged_rank p m))

  -- what becomes of a first answer's recipients under the merged rank
  abbrev pub positive_by_rank : Recipients → PositiveReviewPolicy → Option Recipients
  positive_by_rank first to_none = None
  positive_by_rank first to_author = cond (mailable m m.author) (Some (record { to = trimmed m.author ∷ []; cc = [] })) None
  positive_by_rank first to_all = unless_named (named p m) (Some first) (sent (list_address known p) m (positive_grant p m))

  abbrev pub positive_of : Answer → Option Recipients
  positive_of mute = None
  positive_of (send r rank) = positive_by_rank r rank

  abbrev pub positive_answer : Option Recipients
  positive_answer = positive_of first_answer

-- the audience: the bares of those who are mailed
abbrev pub bares : Option Recipients → List Text
bares None = []
bares (Some r) = map bare (everyone r)

abbrev pub recipients : Answer → Option Recipients
recipients mute = None
recipients (send r rank) = Some r

abbrev pub audience : Answer → List Text
audience a = bares (recipients a)
