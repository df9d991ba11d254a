-- What is found on the way to an answer.
use Rattle.std.specs.Prelude.{◌≡◌, ℕ, ◌+◌, Bool, cond, ◌&&◌, ◌||◌, List, [], ◌∷◌, map, Some, None, Option}
use Rattle.address.specs.Text.{Text, trimmed}
use Rattle.email_policy.specs.Policy.{Policy}
use Rattle.email_policy.specs.declared.policy.PositiveReviewPolicy.{PositiveReviewPolicy}
use Rattle.email_policy.specs.declared.policy.PositiveReviewPolicy.TheVariants.{None as to_none}
use Rattle.audience.specs.Mail.{Mail, mailable}
use Rattle.audience.specs.Rules.{Grant, names, shut_out, muted, merged_rank}
use Rattle.audience.specs.Due.{few}
use Rattle.audience.specs.Known.{known_domain}
use Rattle.audience.specs.Answers.{Recipients, Answer, mute, send, first_answer, positive_answer}
use Rattle.mail.specs.Marks.{marked}
use Rattle.mail.specs.Letters.{letter, texts}
use Rattle.mail.specs.declared.letter.Mail.{Mail as LetterMail}
use Rattle.grants.specs.Rules.{keys_of}
use Rattle.grants.specs.declared.pass.Pass.{Pass}
use Rattle.grants.specs.declared.pass.Pass.TheVariants.{First, Positive}
use Rattle.recipients.specs.Choices.{listed_by, to_marks, cc_marks}
use Rattle.email_router.specs.declared.action.Action.{Action}
use Rattle.email_router.specs.declared.chosen.Recipients.{Recipients as CodeRecipients}
use Rattle.email_router.specs.Actions.{action_of}
use Rattle.email_router.specs.Envelope.{pack_answer, pack_positive}

-- the keys of the lists, and which of them the mail names
pub record Named (p : Policy) (m : Mail) (ks : List Text) (bs : List Bool) : Type 0 where
  pub keys : ks ≡ keys_of p
  pub marks : bs ≡ map (names m) p.lists

-- the rank of a first answer: none where the author is shut out or a governing policy mutes
abbrev pub sent_rank : Policy → Mail → Option PositiveReviewPolicy
sent_rank p m = cond (shut_out p m || muted p m) None (Some (merged_rank p m))

-- individuals are mailed where they are granted a reply and few
abbrev pub individuals : List Text → Mail → Grant → Bool
individuals keys m g = g.recipients && few (listed_by keys) m g

-- recipients that are what a grant gives a mail, where these are the keys of the lists
pub record Chosen (m : LetterMail) (keys : List Text) (g : Grant) (r : CodeRecipients) : Type 0 where
  pub to_start : r.to.start ≡ 0
  pub to_takes : r.to.takes.now ≡ to_marks keys (letter m) g (individuals keys (letter m) g)
  pub cc_start : r.cc.start ≡ 1 + m.to
  pub cc_takes : r.cc.takes.now ≡ cc_marks keys (letter m) g (individuals keys (letter m) g) (marked (to_marks keys (letter m) g (individuals keys (letter m) g)) ((letter m).author ∷ (letter m).to))
  pub added : texts r.added ≡ g.cc

abbrev pub answer_action : Answer → Action
answer_action mute = action_of None to_none
answer_action (send r rank) = action_of (Some r) rank

-- the author, where there is an address that is free of the bot
abbrev pub author_alone : Mail → Option Recipients
author_alone m = cond (mailable m m.author) (Some (record { to = trimmed m.author ∷ []; cc = [] })) None

abbrev pub packed : Pass → Policy → Mail → List ℕ
packed First p m = pack_answer (first_answer known_domain p m)
packed Positive p m = pack_positive (positive_answer known_domain p m)
