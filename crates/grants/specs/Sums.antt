-- The rules of the named lists, taken together one after another.
use Rattle.std.specs.Prelude.{Bool, true, false, cond, ◌||◌, List, [], ◌∷◌}
use Rattle.email_policy.specs.Policy.{ListPolicy, DefaultPolicy, Entry}
use Rattle.email_policy.specs.declared.policy.PositiveReviewPolicy.{PositiveReviewPolicy}
use Rattle.email_policy.specs.declared.policy.PositiveReviewPolicy.TheVariants.{None as to_none, Author as to_author, All as to_all}
use Rattle.audience.specs.Rules.{rule_of, higher}
use Rattle.grants.specs.declared.pass.Pass.{Pass}
use Rattle.grants.specs.declared.pass.Pass.TheVariants.{First, Positive}
use Rattle.grants.specs.declared.pass.Terms.{Terms}
use Rattle.grants.specs.declared.rule.Rule.{Rule as CodeRule}
use Rattle.grants.specs.Rules.{rule_in}

abbrev pub is_all : PositiveReviewPolicy → Bool
is_all to_none = false
is_all to_author = false
is_all to_all = true

-- whether a list's cc texts count
abbrev pub gives_cc : Pass → PositiveReviewPolicy → Bool
gives_cc First rank = true
gives_cc Positive rank = is_all rank

-- a rule as the code has it: with a flag in place of the cc texts
abbrev pub code_rule : Pass → DefaultPolicy → ListPolicy → CodeRule
code_rule q d p = record {
  reply_to = (rule_in q d p).reply_to;
  positive_review = (rule_in q d p).positive_review;
  mute_all = (rule_in q d p).mute_all;
  gives_cc = gives_cc q (rule_of d p).positive_review;
}

abbrev pub nothing_said : Terms
nothing_said = record { named = false; author = false; recipients = false; every_list = false; mute_all = false; positive_review = to_none }

abbrev pub with_rule : Terms → CodeRule → Terms
with_rule t r = record {
  named = true;
  author = t.author || r.reply_to.author;
  recipients = t.recipients || r.reply_to.recipients;
  every_list = t.every_list;
  mute_all = t.mute_all || r.mute_all;
  positive_review = higher t.positive_review r.positive_review;
}

-- the terms once the marked ones of these lists are added
unfoldable pub sum_from : Pass → DefaultPolicy → Terms → List Bool → List Entry → Terms
sum_from q d t [] es = t
sum_from q d t (b ∷ bs) [] = t
sum_from q d t (b ∷ bs) (e ∷ es) = sum_from q d (cond b (with_rule t (code_rule q d e.policy)) t) bs es
