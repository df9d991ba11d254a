use Rattle.std.proofs.Common.{◌+◌, ap, ◌∙◌}
use Rattle.std.proofs.lemmas.List.{take_rest}
use Rattle.address.proofs.Angles.{part_of, part_open, part_angled}
use Rattle.address.proofs.mailbox.address_part.Goals as goal

pub returns-in_default-find_outside : goal.returns-in_default-find_outside
returns-in_default-find_outside c =
    let same = take_rest c.trim-whole.result.now (c.in-Some.i + 1) in
    part_open c.trim-whole.result.now _ c.in-Some.i c.in-Some.ensures.value same c.in_default-find_outside.ensures.value ∙ ap part_of c.trim-whole.ensures

pub returns : goal.returns
returns c =
    let same = take_rest c.trim-whole.result.now (c.in-Some.i + 1) in
    c.trim.ensures
    ∙ part_angled c.trim-whole.result.now _ c.in-Some.i c.in-Some.ensures.value same c.in-Some-find_outside.n c.in-Some-find_outside.ensures.value
    ∙ ap part_of c.trim-whole.ensures
