use Rattle.std.proofs.Common.{ℕ, Bool, refl, ◌∙◌, rules, tests, arith}
use Rattle.std.proofs.lemmas.Iterator.{YieldsList-from_range}
use Rattle.std.proofs.lemmas.Iterator.Consumers.{YieldsList-at, YieldsList-from_filter, count_from_yields_List}
use Rattle.keep_first.specs.Model.{Classes, is_first}
use Rattle.keep_first.proofs.Counts.{length-kept_firsts}
use Rattle.keep_first.proofs.count.Goals as goal

pub returns : goal.returns
returns g c =
    let m : Classes = g.R.Roll.classes c.args.roll.now c.args.texts.now c.args.source.now in
    let preferred : ℕ → Bool = g.R.Roll.preferred c.args.roll.now c.args.texts.now c.args.source.now in
    count_from_yields_List c.filter.result _ c.count.ensures.ran (YieldsList-from_filter _ (is_first m) (YieldsList-at c.filter.ensures.source (YieldsList-from_range 0 c.len.result m.count refl (omega arith))) c.filter.ensures.closure (λ x b q k. search (rules, tests)))
    ∙ length-kept_firsts m preferred
