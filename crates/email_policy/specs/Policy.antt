-- What a policy says: defaults, and a policy for each list under its key.
use Rattle.std.specs.Prelude.{Bool, List, Option}
use Rattle.address.specs.Text.{Text}
use Rattle.email_policy.specs.declared.policy.ReplyTo.{ReplyTo}
use Rattle.email_policy.specs.declared.policy.PositiveReviewPolicy.{PositiveReviewPolicy}

-- a list may leave out whom it replies to, its rank and whether it mutes
pub record ListPolicy : Type 0 where
  pub reply_to : Option ReplyTo
  pub positive_review : Option PositiveReviewPolicy
  pub mute_all : Option Bool
  pub cc : List Text
  pub ignored_emails : List Text

-- the defaults leave none of the three out
pub record DefaultPolicy : Type 0 where
  pub reply_to : ReplyTo
  pub positive_review : PositiveReviewPolicy
  pub mute_all : Bool
  pub cc : List Text
  pub ignored_emails : List Text

pub record Entry : Type 0 where
  pub key : Text
  pub policy : ListPolicy

pub record Policy : Type 0 where
  pub defaults : DefaultPolicy
  pub lists : List Entry
