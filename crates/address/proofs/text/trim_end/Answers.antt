use Rattle.std.proofs.Common.{◌-◌, take, length, reverse, ap, ◌∙◌, rules, tests}
use Rattle.std.proofs.lemmas.List.Folds.{length-prefix_len}
use Rattle.std.proofs.lemmas.Iterator.Adapters.{YieldsList-from_rev_slice}
use Rattle.std.proofs.lemmas.Iterator.Consumers.{YieldsList-at, count_from_yields_List}
use Rattle.std.proofs.lemmas.Iterator.Search.{YieldsList-from_take_while}
use Rattle.address.specs.Text.{blank}
use Rattle.address.proofs.text.trim_end.Goals as goal

pub returns : goal.returns
returns c =
    let t = c.args.text.now in
    ap (λ n. take (length t - n) t) (count_from_yields_List c.take_while.result _ c.count-blanks.ensures.ran (YieldsList-from_take_while _ blank (YieldsList-at c.take_while.ensures.source (YieldsList-from_rev_slice t cc)) c.take_while.ensures.closure c.take_while.ensures.done (λ x b q k. search (rules, tests))) ∙ length-prefix_len blank (reverse t))
