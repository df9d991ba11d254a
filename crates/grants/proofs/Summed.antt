-- What the sum over the marked lists says: the terms of the named lists, and the governing ones.
use Rattle.std.proofs.Common.{◌≡◌, Bool, true, false, ◌||◌, List, [], ◌∷◌, map, sym, refl, ap, ◌∙◌}
use Rattle.std.proofs.Math.Bool.{or-false, or-true, or_assoc}
use Rattle.std.proofs.lemmas.Bool.{true≢false}
use Rattle.keep_first.specs.Keep.{some}
use Rattle.email_policy.specs.Policy.{DefaultPolicy, Entry, Policy}
use Rattle.email_policy.specs.declared.policy.PositiveReviewPolicy.{PositiveReviewPolicy}
use Rattle.email_policy.specs.declared.policy.PositiveReviewPolicy.TheVariants.{None as to_none, Author as to_author, All as to_all}
use Rattle.audience.specs.Rules.{Named, unless_named, by_defaults, by_lists, higher, highest}
use Rattle.mail.specs.Marks.{marked}
use Rattle.grants.specs.declared.pass.Pass.{Pass}
use Rattle.grants.specs.declared.pass.Terms.{Terms}
use Rattle.grants.specs.Rules.{named_in, named_by, terms_by}
use Rattle.grants.specs.Sums.{code_rule, nothing_said, with_rule, sum_from}

higher_none : (a : PositiveReviewPolicy) → a ≡ higher a to_none
higher_none to_none = refl
higher_none to_author = refl
higher_none to_all = refl

higher_join : (a b c : PositiveReviewPolicy) → higher (higher a b) c ≡ higher a (higher b c)
higher_join to_none b c = refl
higher_join to_author to_none c = refl
higher_join to_author to_author to_none = refl
higher_join to_author to_author to_author = refl
higher_join to_author to_author to_all = refl
higher_join to_author to_all c = refl
higher_join to_all b c = refl

-- terms with what named lists say
unfoldable with_named : Terms → List Named → Terms
with_named t ns = record {
  named = t.named || unless_named ns false true;
  author = t.author || some (λ n. n.rule.reply_to.author) ns;
  recipients = t.recipients || some (λ n. n.rule.reply_to.recipients) ns;
  every_list = t.every_list;
  mute_all = t.mute_all || some (λ n. n.rule.mute_all) ns;
  positive_review = higher t.positive_review (highest (map (λ n. n.rule.positive_review) ns));
}

module _ (q : Pass) (d : DefaultPolicy) where
  none_added : (t : Terms) → t ≡ with_named t []
  unfolding with_named some
  none_added t = (λ i. record {
    named = sym (or-false t.named) i;
    author = sym (or-false t.author) i;
    recipients = sym (or-false t.recipients) i;
    every_list = t.every_list;
    mute_all = sym (or-false t.mute_all) i;
    positive_review = higher_none t.positive_review i;
  })

  one_added : (t : Terms) (e : Entry) (ns : List Named) → with_named (with_rule t (code_rule q d e.policy)) ns ≡ with_named t (named_in q d e ∷ ns)
  unfolding with_named some
  one_added t e ns = let r = (named_in q d e).rule in (λ i. record {
    named = sym (or-true t.named) i;
    author = or_assoc t.author r.reply_to.author (some (λ n. n.rule.reply_to.author) ns) i;
    recipients = or_assoc t.recipients r.reply_to.recipients (some (λ n. n.rule.reply_to.recipients) ns) i;
    every_list = t.every_list;
    mute_all = or_assoc t.mute_all r.mute_all (some (λ n. n.rule.mute_all) ns) i;
    positive_review = higher_join t.positive_review r.positive_review (highest (map (λ n. n.rule.positive_review) ns)) i;
  })

  sum_is : (t : Terms) (bs : List Bool) (es : List Entry) → sum_from q d t bs es ≡ with_named t (map (named_in q d) (marked bs es))
  unfolding sum_from marked
  sum_is t [] es = none_added t
  sum_is t (b ∷ bs) [] = none_added t
  sum_is t (true ∷ bs) (e ∷ es) = sum_is (with_rule t (code_rule q d e.policy)) bs es ∙ one_added t e (map (named_in q d) (marked bs es))
  sum_is t (false ∷ bs) (e ∷ es) = sum_is t bs es

-- the terms of the governing policies
unfoldable governing : DefaultPolicy → List Named → Terms
governing d ns = record {
  named = unless_named ns false true;
  author = (unless_named ns (by_defaults d) (by_lists d ns)).author;
  recipients = (unless_named ns (by_defaults d) (by_lists d ns)).recipients;
  every_list = unless_named ns d.reply_to.list false;
  mute_all = unless_named ns d.mute_all (some (λ n. n.rule.mute_all) ns);
  positive_review = unless_named ns d.positive_review (highest (map (λ n. n.rule.positive_review) ns));
}

abbrev pub default_terms : DefaultPolicy → Terms
default_terms d = record {
  named = false;
  author = d.reply_to.author;
  recipients = d.reply_to.recipients;
  every_list = d.reply_to.list;
  mute_all = d.mute_all;
  positive_review = d.positive_review;
}

lists_govern : (d : DefaultPolicy) (ns : List Named) → (with_named nothing_said ns).named ≡ true → with_named nothing_said ns ≡ governing d ns
unfolding with_named governing
lists_govern d [] e = absurd (true≢false (sym e))
lists_govern d (n ∷ ns) e = refl

defaults_govern : (d : DefaultPolicy) (ns : List Named) → (with_named nothing_said ns).named ≡ false → default_terms d ≡ governing d ns
unfolding with_named governing
defaults_govern d [] e = refl
defaults_govern d (n ∷ ns) e = absurd (true≢false e)

module _ (q : Pass) (marks : List Bool) (p : Policy) (t : Terms) (summed : t ≡ sum_from q p.defaults nothing_said marks p.lists) where
  told : t ≡ with_named nothing_said (named_by q marks p)
  told = summed ∙ sum_is q p.defaults nothing_said marks p.lists

  pub terms_named : t.named ≡ true → t ≡ terms_by q marks p
  unfolding terms_by governing
  terms_named e = told ∙ lists_govern p.defaults (named_by q marks p) (ap (λ v. v.named) (sym told) ∙ e)

  pub terms_default : t.named ≡ false → default_terms p.defaults ≡ terms_by q marks p
  unfolding terms_by governing
  terms_default e = defaults_govern p.defaults (named_by q marks p) (ap (λ v. v.named) (sym told) ∙ e)
