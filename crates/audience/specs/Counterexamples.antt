-- What does not hold: statements close to the promises, each with an example that shows it false.
use Rattle.std.specs.Prelude.{◌≡◌, ℕ, zero, suc, ◌+◌, ◌/◌, ◌%◌, Bool, true, false, List, [], ◌∷◌, take, codes}
use Rattle.std.specs.List.{ContainsAt as Has}
use Rattle.address.specs.Text.{Text}
use Rattle.address.specs.Address.{bare}
use Rattle.email_policy.specs.Policy.{Policy}
use Rattle.email_policy.specs.declared.policy.PositiveReviewPolicy.{PositiveReviewPolicy}
use Rattle.audience.specs.Mail.{Mail, free}
use Rattle.audience.specs.Rules.{grant, list_address}
use Rattle.audience.specs.Due.{max_relayed_recipients, individuals}
use Rattle.audience.specs.Answers.{positive_answer, bares}
use Rattle.audience.specs.Promises.{DueBy}

-- no domain is a list's
abbrev pub no_domain : Text → Bool
no_domain d = false

-- a policy without lists, that replies to individuals
abbrev pub to_individuals : PositiveReviewPolicy → Policy
to_individuals rank = record {
  defaults = record {
    reply_to = record { author = false; list = false; recipients = true };
    positive_review = rank;
    mute_all = false;
    cc = [];
    ignored_emails = [];
  };
  lists = [];
}

abbrev pub mail_to : List Text → Mail
mail_to ts = record { to = ts; cc = []; author = codes "a@z.test"; bot = codes "bot@x.test" }

-- a positive answer mails only the due, whatever the merged rank.
-- Under rank author the author is mailed, also where no policy grants the author a reply
abbrev pub AnyPositiveWithinDue : Type 0
AnyPositiveWithinDue = (known : Text → Bool) (p : Policy) (m : Mail) (b : Text) → Has (bares (positive_answer known p m)) b → DueBy known p m b

abbrev pub one_mail : Mail
one_mail = mail_to (codes "p@y.test" ∷ [])

-- where individuals are granted and there are too many, it would do to mail the first of them, as many as may be mailed:
-- each that is free of the bot is due. Where there are too many, none is
abbrev pub CutIsDue : Type 0
CutIsDue =
    (known : Text → Bool) (p : Policy) (m : Mail) (t : Text)
    → (grant p m).recipients ≡ true
    → Has (take max_relayed_recipients (individuals (list_address known p) m (grant p m))) t
    → free m t ≡ true
    → DueBy known p m (bare t)

-- n texts, no two with the same bare
abbrev pub people : ℕ → List Text
people zero = []
people (suc n) = ((97 + (n / 16)) ∷ (97 + (n % 16)) ∷ codes "@y.test") ∷ people n

-- one more than may be mailed
abbrev pub crowded_mail : Mail
crowded_mail = mail_to (people 129)

pub record NoneOfTheseHolds : Type 0 where
  pub any_positive : AnyPositiveWithinDue → ⊥
  pub cutting : CutIsDue → ⊥
