use Rattle.std.proofs.Common.{rules, arith, ◌≡◌, ◌∙◌}
use Rattle.std.proofs.lemmas.List.{take_at}
use Rattle.replay.specs.Lines.{called}
use Rattle.replay.proofs.Told.{told}
use Rattle.replay.proofs.answer.resolved_lines.Goals as goal

pub returns : goal.returns
returns c =
    let scratch : c.as_slice-4.result.now ≡ c.resolve_by.new.scratch = c.as_slice-4.ensures.value ∙ take_at c.resolve_by.new.scratch _ _ (omega arith) in
    let tray : c.as_slice-5.result.now ≡ c.resolve_by.new.tray = c.as_slice-5.ensures.value ∙ take_at c.resolve_by.new.tray _ _ (omega arith) in
    told c.args.book.now (called c.args.call.now) c.in_ok-answer.answer c.resolve_by.new.scratch c.resolve_by.new.tray _ c.in_ok-answer.ensures.0 (search rules) (cc (c.in_ok-answered_lines.ensures, c.as_slice-3.ensures.value))
