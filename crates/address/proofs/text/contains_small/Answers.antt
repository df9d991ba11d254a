use Rattle.std.proofs.Common.{◌<◌, length, ◌∙◌, rules, tests}
use Rattle.std.specs.Str.{bytes_eq}
use Rattle.std.proofs.lemmas.Slice.Eq.{bytes_eq-Decides}
use Rattle.std.proofs.lemmas.Iterator.Search.{any_from_yields_List}
use Rattle.address.specs.Text.{small}
use Rattle.address.proofs.Windows.{YieldsList-from_windows, window_held, nothing_held}
use Rattle.address.proofs.text.contains_small.Goals as goal

pub returns-then-is_empty : goal.returns-then-is_empty
returns-then-is_empty c = search (rules, nothing_held)

pub returns-else-is_empty : goal.returns-else-is_empty
returns-else-is_empty c =
    let some : 0 < length c.args.part.now = search rules in
    any_from_yields_List (λ w. bytes_eq (small w) (small c.args.part.now)) _ _ _ c.any.ensures.ran (YieldsList-from_windows _ _ c.args.text.now some (search rules) (search rules)) (λ x b q k. search (rules, tests, bytes_eq-Decides))
    ∙ window_held c.args.text.now c.args.part.now some
