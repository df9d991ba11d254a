use Rattle.std.proofs.Common.{rules, tests, Bool, List, ◌∙◌, sym}
use Rattle.std.proofs.lemmas.Iterator.Consumers.{YieldsList-from_first}
use Rattle.std.proofs.lemmas.Iterator.Search.{any_from_yields_List}
use Rattle.address.specs.Text.{Text, small, holds}
use Rattle.email_policy.specs.TextsLeft.{texts_left}
use Rattle.email_policy.specs.Texts.{record_of, texts_of}
use Rattle.email_policy.specs.declared.texts.TextField.TheVariants.{IgnoredEmails}
use Rattle.keep_first.proofs.Members.{some_is_any}
use Rattle.grants.proofs.ignored.is_ignored_by.Goals as goal

pub returns : goal.returns
returns g c =
    let ignores : Text → Bool = λ t. holds (small c.args.author.now) (small t) in
    let texts : List Text = texts_of IgnoredEmails (record_of (g.S.PolicySource.meaning c.args.source.now) c.args.whose) in
    any_from_yields_List ignores c.any.new.self _ c.any.result c.any.ensures.ran (YieldsList-from_first (λ x. x.now) (texts_left g.S.PolicySource.meaning) texts c.source_texts.ensures.texts) (λ x b q k. search (rules, tests))
    ∙ sym (some_is_any ignores texts)
