-- The cc texts of the marked lists.
use Rattle.std.proofs.Common.{◌≡◌, Bool, true, false, cond, ◌&&◌, List, [], ◌∷◌, ◌++◌, map, refl, ap, ◌∙◌}
use Rattle.std.specs.List.{flat_map}
use Rattle.address.specs.Text.{Text}
use Rattle.email_policy.specs.Policy.{ListPolicy, DefaultPolicy, Entry, Policy}
use Rattle.email_policy.specs.declared.policy.PositiveReviewPolicy.TheVariants.{None as to_none, Author as to_author, All as to_all}
use Rattle.audience.specs.Rules.{Named, rule_of, unless_named, by_defaults, by_lists}
use Rattle.audience.specs.Answers.{positive_rule}
use Rattle.mail.specs.Marks.{marked}
use Rattle.grants.specs.declared.pass.Pass.{Pass}
use Rattle.grants.specs.declared.pass.Pass.TheVariants.{First, Positive}
use Rattle.grants.specs.Rules.{rule_in, named_in, named_by, grant_by}
use Rattle.grants.specs.Sums.{gives_cc, is_all}

module _ (q : Pass) (d : DefaultPolicy) where
  -- what one list adds
  abbrev pub cc_of : Bool → Entry → List Text
  cc_of b e = cond (b && gives_cc q (rule_of d e.policy).positive_review) e.policy.cc []

  unfoldable pub gathered : List Bool → List Entry → List Text
  gathered [] es = []
  gathered (b ∷ bs) [] = []
  gathered (b ∷ bs) (e ∷ es) = cc_of b e ++ gathered bs es

cc_in : (q : Pass) (d : DefaultPolicy) (p : ListPolicy) → cond (gives_cc q (rule_of d p).positive_review) p.cc [] ≡ (rule_in q d p).cc
cc_in First d p = refl
cc_in Positive d p = elim (rule_of d p).positive_review as (λ r. cond (is_all r) p.cc [] ≡ (positive_rule r (rule_of d p)).cc) [ to_none ↦ refl | to_author ↦ refl | to_all ↦ refl ]

module _ (q : Pass) (d : DefaultPolicy) where
  gathered_is : (bs : List Bool) (es : List Entry) → gathered q d bs es ≡ flat_map (λ n. n.rule.cc) (map (named_in q d) (marked bs es))
  unfolding gathered marked
  gathered_is [] es = refl
  gathered_is (b ∷ bs) [] = refl
  gathered_is (true ∷ bs) (e ∷ es) = (λ i. cc_in q d e.policy i ++ gathered_is bs es i)
  gathered_is (false ∷ bs) (e ∷ es) = gathered_is bs es

granted_cc : (d : DefaultPolicy) (ns : List Named) → flat_map (λ n. n.rule.cc) ns ++ d.cc ≡ (unless_named ns (by_defaults d) (by_lists d ns)).cc
granted_cc d [] = refl
granted_cc d (n ∷ ns) = refl

module _ (q : Pass) (bs : List Bool) (p : Policy) where
  -- the cc texts of the lists and then those of the defaults are what is granted
  pub gathered_grant : gathered q p.defaults bs p.lists ++ p.defaults.cc ≡ (grant_by q bs p).cc
  gathered_grant = ap (λ l. l ++ p.defaults.cc) (gathered_is q p.defaults bs p.lists) ∙ granted_cc p.defaults (named_by q bs p)
