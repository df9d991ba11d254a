-- Which lists a mail names, which policies govern it, and what they grant.
use Rattle.std.specs.Prelude.{Bool, false, not, ◌&&◌, ◌||◌, List, [], ◌∷◌, ◌++◌, map, Some, None, filter, Option}
use Rattle.std.specs.Option.{unwrap_or}
use Rattle.std.specs.List.{flat_map}
use Rattle.address.specs.Text.{Text, small, holds}
use Rattle.address.specs.Address.{bare, same_bare, domain}
use Rattle.keep_first.specs.Keep.{some}
use Rattle.email_policy.specs.Policy.{ListPolicy, DefaultPolicy, Entry, Policy}
use Rattle.email_policy.specs.declared.policy.ReplyTo.{ReplyTo}
use Rattle.email_policy.specs.declared.policy.PositiveReviewPolicy.{PositiveReviewPolicy}
use Rattle.email_policy.specs.declared.policy.PositiveReviewPolicy.TheVariants.{None as to_none, Author as to_author, All as to_all}
use Rattle.audience.specs.Mail.{Mail, incoming, nobody}

-- what a list's policy says once the defaults stand in for what it leaves out
pub record Rule : Type 0 where
  pub reply_to : ReplyTo
  pub positive_review : PositiveReviewPolicy
  pub mute_all : Bool
  pub cc : List Text

abbrev pub rule_of : DefaultPolicy → ListPolicy → Rule
rule_of d p = record {
  reply_to = unwrap_or p.reply_to d.reply_to;
  positive_review = unwrap_or p.positive_review d.positive_review;
  mute_all = unwrap_or p.mute_all d.mute_all;
  cc = p.cc;
}

-- a mail names a list when a To or Cc address has the bare of the list's key
abbrev pub names : Mail → Entry → Bool
names m e = some (same_bare e.key) (incoming m)

-- a list that the mail names, with its rule
pub record Named : Type 0 where
  pub key : Text
  pub rule : Rule

abbrev pub named : Policy → Mail → List Named
named p m = map (λ e. record { key = e.key; rule = rule_of p.defaults e.policy }) (filter (names m) p.lists)

-- the governing policies are those of the named lists, or the defaults alone where none is named:
-- x unless some list is named, and then y
abbrev pub unless_named : {X : Type 0} → List Named → X → X → X
unless_named [] x y = x
unless_named (n ∷ ns) x y = y

-- what the governing policies grant, taken together: a reply to the author, to individuals,
-- to which list addresses, and the cc texts
pub record Grant : Type 0 where
  pub author : Bool
  pub recipients : Bool
  pub list : Text → Bool
  pub cc : List Text

abbrev pub by_defaults : DefaultPolicy → Grant
by_defaults d = record {
  author = d.reply_to.author;
  recipients = d.reply_to.recipients;
  list = λ t. d.reply_to.list;
  cc = d.cc;
}

-- a list address is replied to where a named list with its bare replies to list
abbrev pub by_lists : DefaultPolicy → List Named → Grant
by_lists d ns = record {
  author = some (λ n. n.rule.reply_to.author) ns;
  recipients = some (λ n. n.rule.reply_to.recipients) ns;
  list = λ t. some (λ n. n.rule.reply_to.list && same_bare n.key t) ns;
  cc = flat_map (λ n. n.rule.cc) ns ++ d.cc;
}

abbrev pub at_known : (Text → Bool) → Option Text → Bool
at_known known None = false
at_known known (Some d) = known d

-- a list address has the bare of a key, or its domain is in the register of known list domains
abbrev pub list_address : (Text → Bool) → Policy → Text → Bool
list_address known p t = some (λ e. same_bare e.key t) p.lists || at_known known (domain (bare t))

abbrev pub higher : PositiveReviewPolicy → PositiveReviewPolicy → PositiveReviewPolicy
higher to_none q = q
higher to_author to_none = to_author
higher to_author to_author = to_author
higher to_author to_all = to_all
higher to_all q = to_all

abbrev pub highest : List PositiveReviewPolicy → PositiveReviewPolicy
highest [] = to_none
highest (q ∷ qs) = higher q (highest qs)

-- the texts that the defaults and all lists ignore, named or not
abbrev pub ignored_texts : Policy → List Text
ignored_texts p = p.defaults.ignored_emails ++ flat_map (λ e. e.policy.ignored_emails) p.lists

module _ (p : Policy) (m : Mail) where
  -- the author is shut out by an ignored text, or by the bot's bare, where the text holds it
  abbrev pub shut_out : Bool
  shut_out =
      some (λ t. holds (small m.author) (small t)) (ignored_texts p)
      || (not (nobody m.bot) && (not (nobody m.author) && holds (small m.author) (bare m.bot)))

  abbrev pub grant : Grant
  grant = unless_named (named p m) (by_defaults p.defaults) (by_lists p.defaults (named p m))

  -- a governing policy mutes
  abbrev pub muted : Bool
  muted = unless_named (named p m) p.defaults.mute_all (some (λ n. n.rule.mute_all) (named p m))

  -- the highest rank of the governing policies
  abbrev pub merged_rank : PositiveReviewPolicy
  merged_rank = unless_named (named p m) p.defaults.positive_review (highest (map (λ n. n.rule.positive_review) (named p m)))
