-- Who is mailed, in lines for people.
use Rattle.std.specs.Prelude.{ℕ, ◌-◌, ◌^◌, ◌≤◌, min, List, ◌++◌, length, codes, Option, Some, None}
use Rattle.std.specs.List.{flat_map}
use Rattle.address.specs.Text.{Text}
use Rattle.email_policy.specs.Policy.{Policy}
use Rattle.email_policy.specs.declared.policy.PositiveReviewPolicy.{PositiveReviewPolicy}
use Rattle.email_policy.specs.declared.policy.PositiveReviewPolicy.TheVariants.{None as to_none, Author as to_author, All as to_all}
use Rattle.audience.specs.Mail.{Mail}
use Rattle.audience.specs.Known.{known_domain}
use Rattle.audience.specs.Answers.{Recipients, Answer, mute, send, recipients, first_answer, positive_answer}
use Rattle.email_router.specs.Envelope.{pack_answer}
use Rattle.email_router.specs.Opened.{opened_to, opened_cc}
use Rattle.grants.specs.declared.pass.Pass.{Pass}
use Rattle.grants.specs.declared.pass.Pass.TheVariants.{First, Positive}

-- a text as it is, after a word
abbrev pub text_line : List ℕ → Text → List ℕ
text_line word t = word ++ (t ++ codes "\n")

abbrev pub roll_lines : List ℕ → List Text → List ℕ
roll_lines word ts = flat_map (text_line word) ts

abbrev pub recipient_lines : Recipients → List ℕ
recipient_lines r = roll_lines (codes "  to ") r.to ++ roll_lines (codes "  cc ") r.cc

abbrev pub rank_line : PositiveReviewPolicy → List ℕ
rank_line to_none = codes "  rank none\n"
rank_line to_author = codes "  rank author\n"
rank_line to_all = codes "  rank all\n"

abbrev pub first_lines : Answer → List ℕ
first_lines mute = codes "  mute\n"
first_lines (send r rank) = recipient_lines r ++ rank_line rank

-- a positive answer has no rank
abbrev pub positive_lines : Option Recipients → List ℕ
positive_lines None = codes "  nothing\n"
positive_lines (Some r) = recipient_lines r

-- the recipients that are read from an envelope
abbrev pub opened_recipients : List ℕ → Recipients
opened_recipients bs = record { to = opened_to bs; cc = opened_cc bs }

-- the answer that is read from it
abbrev pub answer_lines : Pass → Answer → List ℕ
answer_lines First a = first_lines a
answer_lines Positive a = positive_lines (recipients a)

-- the lines of an answer of so many bytes fit so much room, as far as a room can be counted
abbrev pub HasRoom : ℕ → ℕ → Type 0
HasRoom size room = (pass : Pass) (a : Answer) → length (pack_answer a) ≤ size → min (length (answer_lines pass a)) (2 ^ 64 - 1) ≤ room

-- who is mailed a review of this mail
abbrev pub people : Pass → Policy → Mail → List ℕ
people First p m = first_lines (first_answer known_domain p m)
people Positive p m = positive_lines (positive_answer known_domain p m)
