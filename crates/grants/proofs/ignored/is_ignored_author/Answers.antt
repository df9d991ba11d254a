use Rattle.std.proofs.Common.{rules, tests, ℕ, Bool, length, ap, ◌∙◌, arith}
use Rattle.std.proofs.lemmas.Iterator.{YieldsList-from_range}
use Rattle.std.proofs.lemmas.Iterator.Search.{any_from_yields_List}
use Rattle.address.specs.Text.{Text, small, holds}
use Rattle.keep_first.specs.Keep.{some}
use Rattle.email_policy.specs.Policy.{Entry, Policy}
use Rattle.email_policy.specs.Texts.{record_of, texts_of}
use Rattle.email_policy.specs.declared.texts.Whose.TheVariants.{List as Listed}
use Rattle.email_policy.specs.declared.texts.TextField.TheVariants.{IgnoredEmails}
use Rattle.grants.proofs.Searches.{joined_first, joined_second}
use Rattle.grants.proofs.Turns.{texts_at, some_list}
use Rattle.grants.proofs.ignored.is_ignored_author.Goals as goal

pub returns-then-is_ignored_by : goal.returns-then-is_ignored_by
returns-then-is_ignored_by g c =
    let ignores : Text → Bool = λ t. holds (small c.args.author.now) (small t) in
    c.if-is_ignored_by.true ∙ joined_first ignores (λ (e : Entry). e.policy.ignored_emails) _ (g.S.PolicySource.meaning c.args.source.now).lists c.if-is_ignored_by.ensures

pub returns-else-is_ignored_by : goal.returns-else-is_ignored_by
returns-else-is_ignored_by g c =
    let p : Policy = g.S.PolicySource.meaning c.args.source.now in
    let ignores : Text → Bool = λ t. holds (small c.args.author.now) (small t) in
    let by : ℕ → Bool = λ n. some ignores (texts_of IgnoredEmails (record_of p (Listed n))) in
    joined_second ignores (λ (e : Entry). e.policy.ignored_emails) p.defaults.ignored_emails p.lists c.any.result c.if-is_ignored_by.ensures
    (any_from_yields_List by c.any.new.self _ c.any.result c.any.ensures.ran (YieldsList-from_range 0 (length p.lists) (length p.lists) (ap (λ k. record { start = 0; end = k }) c.len.ensures) (omega arith)) (λ x b q k. search (rules, tests))
    ∙ some_list p (λ e. some ignores e.policy.ignored_emails) by (λ n. ap (some ignores) (texts_at p n IgnoredEmails)))
