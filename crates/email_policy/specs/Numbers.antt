-- The number that stands for each case in a packed record.
use Rattle.std.specs.Prelude.{◌≡◌, ℕ, ◌+◌, ◌/◌, ◌%◌, ◌≤◌, Bool, true, false, cond, ◌==◌}
use Rattle.email_policy.specs.declared.policy.ReplyTarget.{ReplyTarget}
use Rattle.email_policy.specs.declared.policy.ReplyTarget.TheVariants.{Author, List, Recipients}
use Rattle.email_policy.specs.declared.policy.ReplyTo.{ReplyTo}
use Rattle.email_policy.specs.declared.policy.PositiveReviewPolicy.{PositiveReviewPolicy}
use Rattle.email_policy.specs.declared.policy.PositiveReviewPolicy.TheVariants.{None as to_none, Author as to_author, All as to_all}

abbrev pub target_number : ReplyTarget → ℕ
target_number Author = 1
target_number List = 2
target_number Recipients = 4

-- whether a policy replies to a target
abbrev pub contains : ReplyTo → ReplyTarget → Bool
contains r Author = r.author
contains r List = r.list
contains r Recipients = r.recipients

abbrev pub weighed : Bool → ℕ → ℕ
weighed true n = n
weighed false n = 0

-- a reply byte is the sum of its targets' numbers
abbrev pub reply_number : ReplyTo → ℕ
reply_number r = weighed r.author (target_number Author) + (weighed r.list (target_number List) + weighed r.recipients (target_number Recipients))

abbrev pub rank_number : PositiveReviewPolicy → ℕ
rank_number to_none = 0
rank_number to_author = 1
rank_number to_all = 2

abbrev pub mute_number : Bool → ℕ
mute_number m = weighed m 1

-- the bit of this weight stands
abbrev pub has_bit : ℕ → ℕ → Bool
has_bit n weight = n / weight % 2 == 1

-- back again, from any byte
abbrev pub reply_of : ℕ → ReplyTo
reply_of b = record { author = has_bit b 1; list = has_bit b 2; recipients = has_bit b 4 }

abbrev pub rank_of : ℕ → PositiveReviewPolicy
rank_of b = cond (b == 0) to_none (cond (b == 1) to_author to_all)

abbrev pub mute_of : ℕ → Bool
mute_of b = b == 1

-- a number is read back as its case, and each byte that a record may have is the number of what is read from it
pub record Numbers : Type 0 where
  pub replies : (r : ReplyTo) → reply_of (reply_number r) ≡ r
  pub ranks : (p : PositiveReviewPolicy) → rank_of (rank_number p) ≡ p
  pub mutes : (m : Bool) → mute_of (mute_number m) ≡ m
  pub reply_bytes : (b : ℕ) → b ≤ 7 → reply_number (reply_of b) ≡ b
  pub rank_bytes : (b : ℕ) → b ≤ 2 → rank_number (rank_of b) ≡ b
  pub mute_bytes : (b : ℕ) → b ≤ 1 → mute_number (mute_of b) ≡ b
  -- a policy replies to a target exactly where the target's bit stands
  pub targets : (r : ReplyTo) (t : ReplyTarget) → has_bit (reply_number r) (target_number t) ≡ contains r t
