use Rattle.std.proofs.Common.{◌&&◌, refl, ◌∙◌, rules, tests, arith}
use Rattle.std.specs.List.{range_with_len}
use Rattle.std.proofs.lemmas.Iterator.{YieldsList-from_range}
use Rattle.std.proofs.lemmas.Iterator.Search.{any_from_yields_List}
use Rattle.keep_first.specs.Model.{Classes}
use Rattle.keep_first.proofs.Members.{any_kept}
use Rattle.keep_first.proofs.has_earlier.Goals as goal

pub returns : goal.returns
returns g c =
    let m : Classes = g.R.Roll.classes c.args.roll.now c.args.texts.now c.args.source.now in
    any_from_yields_List (λ j. m.takes j && m.same j c.args.i) _ _ _ c.any.ensures.ran (YieldsList-from_range 0 c.args.i c.args.i refl (omega arith)) (λ x b q k. search (rules, tests))
    ∙ any_kept m.takes (λ j. m.same j c.args.i) (range_with_len 0 c.args.i)
