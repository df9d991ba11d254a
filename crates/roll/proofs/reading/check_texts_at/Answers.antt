use Rattle.std.proofs.Common.{arith}
use Rattle.std.proofs.lemmas.Result.{err_from_is_err_and}
use Rattle.roll.proofs.Readings.{texts_uncounted, texts_fault_none, walk_goes, walk_hits, walk_stops, walk_ends}
use Rattle.roll.proofs.reading.check_texts_at.Goals as goal

pub returns-in_default : goal.returns-in_default
returns-in_default c = texts_fault_none _ _ (texts_uncounted c.args.bytes.now c.args.at c.in_default.ensures)

pub returns-in_default-read_text : goal.returns-in_default-read_text
returns-in_default-read_text c = walk_stops c.loop.invariant (omega arith) c.in_default-read_text.ensures

pub returns-in_err-check_text_within : goal.returns-in_err-check_text_within
returns-in_err-check_text_within c =
    let p = err_from_is_err_and c.from_residual.result c.from_residual.ensures.1 in
    rw (p.1, p.2)
    (walk_hits c.loop.invariant c.in-Some-read_text.text.now c.in-Some-read_text.more.now (omega arith) c.in-Some-read_text.ensures _ c.in_err-check_text_within.ensures)

pub loop-preserved : goal.loop-preserved
loop-preserved c =
    walk_goes c.loop.invariant c.in-Some-read_text.text.now c.in-Some-read_text.more.now (omega arith) c.in-Some-read_text.ensures c.in_ok-check_text_within.ensures

pub returns : goal.returns
returns c = walk_ends c.loop.invariant (omega arith)
