-- The lists that are marked, with their rules, and what they grant.
use Rattle.std.specs.Prelude.{ℕ, Bool, true, false, ◌&&◌, ◌||◌, List, [], ◌∷◌, map, None}
use Rattle.std.specs.List.{slice_get}
use Rattle.std.specs.Option.{unwrap_or}
use Rattle.address.specs.Text.{Text}
use Rattle.address.specs.Address.{same_bare}
use Rattle.keep_first.specs.Keep.{some}
use Rattle.email_policy.specs.Policy.{ListPolicy, DefaultPolicy, Entry, Policy}
use Rattle.audience.specs.Rules as audience
use Rattle.audience.specs.Rules.{Rule, Named, rule_of, unless_named, by_defaults, by_lists, highest}
use Rattle.audience.specs.Answers.{positive_rule}
use Rattle.mail.specs.Marks.{marked}
use Rattle.mail.specs.Letters.{texts}
use Rattle.grants.specs.declared.pass.Pass.{Pass}
use Rattle.grants.specs.declared.pass.Pass.TheVariants.{First, Positive}
use Rattle.grants.specs.declared.pass.Terms.{Terms}
use Rattle.grants.specs.declared.grant.Grant.{Grant}

-- a list that says nothing, as past the last one
abbrev pub no_entry : Entry
no_entry = record { key = []; policy = record { reply_to = None; positive_review = None; mute_all = None; cc = []; ignored_emails = [] } }

abbrev pub entry_at : Policy → ℕ → Entry
entry_at p n = unwrap_or (slice_get p.lists n) no_entry

-- a list's rule for a review with findings, or for one without
abbrev pub rule_in : Pass → DefaultPolicy → ListPolicy → Rule
rule_in First d p = rule_of d p
rule_in Positive d p = positive_rule (rule_of d p).positive_review (rule_of d p)

abbrev pub named_in : Pass → DefaultPolicy → Entry → Named
named_in q d e = record { key = e.key; rule = rule_in q d e.policy }

-- the lists that are marked, with their rules
abbrev pub named_by : Pass → List Bool → Policy → List Named
named_by q marks p = map (named_in q p.defaults) (marked marks p.lists)

module _ (q : Pass) (marks : List Bool) (p : Policy) where
  -- what they grant, or else the defaults
  abbrev pub grant_by : audience.Grant
  grant_by = unless_named (named_by q marks p) (by_defaults p.defaults) (by_lists p.defaults (named_by q marks p))

  unfoldable pub terms_by : Terms
  terms_by = record {
    named = unless_named (named_by q marks p) false true;
    author = grant_by.author;
    recipients = grant_by.recipients;
    every_list = unless_named (named_by q marks p) p.defaults.reply_to.list false;
    mute_all = unless_named (named_by q marks p) p.defaults.mute_all (some (λ n. n.rule.mute_all) (named_by q marks p));
    positive_review = unless_named (named_by q marks p) p.defaults.positive_review (highest (map (λ n. n.rule.positive_review) (named_by q marks p)));
  }

-- of the lists that are marked, those whose addresses are replied to
unfoldable pub replying : Pass → DefaultPolicy → List Bool → List Entry → List Bool
replying q d [] es = []
replying q d (b ∷ bs) [] = []
replying q d (b ∷ bs) (e ∷ es) = (b && (rule_in q d e.policy).reply_to.list) ∷ replying q d bs es

-- what a grant says, with the keys of the lists that it marks
abbrev pub meant : List Text → Grant → audience.Grant
meant keys g = record {
  author = g.author;
  recipients = g.recipients;
  list = λ t. g.every_list || some (λ k. same_bare k t) (marked g.lists.now keys);
  cc = texts g.cc;
}

abbrev pub keys_of : Policy → List Text
keys_of p = map (λ e. e.key) p.lists
