use Rattle.std.proofs.Common.{ℕ, ◌-◌, Bool, Option, ◌&&◌, sym, refl, ap, ◌∙◌, unwrap_or, rules, tests, arith}
use Rattle.std.specs.List.{range_with_len}
use Rattle.std.proofs.lemmas.Iterator.{YieldsList-from_range}
use Rattle.std.proofs.lemmas.Iterator.Adapters.{option_map_id}
use Rattle.std.proofs.lemmas.Iterator.Search.{find_from_yields_List}
use Rattle.keep_first.specs.Model.{Classes}
use Rattle.keep_first.proofs.StandsIn.{find_kept}
use Rattle.keep_first.proofs.stand_in.Goals as goal

pub returns : goal.returns
returns g c =
    let m : Classes = g.R.Roll.classes c.args.roll.now c.args.texts.now c.args.source.now in
    let preferred : ℕ → Bool = g.R.Roll.preferred c.args.roll.now c.args.texts.now c.args.source.now in
    let n : ℕ = m.count - c.args.i in
    c.unwrap_or.ensures
    ∙ ap (λ (o : Option ℕ). unwrap_or o c.args.i) (sym (option_map_id c.find.result)
    ∙ find_from_yields_List (λ j. m.takes j && (m.same c.args.i j && preferred j)) _ _ c.find.result c.find.ensures.ran (YieldsList-from_range c.args.i c.len.result n refl (omega arith)) (λ x b q k. search (rules, tests)))
    ∙ find_kept (λ j. m.same c.args.i j && preferred j) c.args.i m.takes (range_with_len c.args.i n)
