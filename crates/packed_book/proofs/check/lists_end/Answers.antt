use Rattle.std.proofs.Common.{arith}
use Rattle.std.proofs.lemmas.Result.{err_from_is_err_and}
use Rattle.packed_book.proofs.Walks.{lists_go, lists_stop, lists_all}
use Rattle.packed_book.proofs.check.lists_end.Goals as goal

pub loop-preserved : goal.loop-preserved
loop-preserved c =
    lists_go c.args.count c.loop.counter c.loop.last.now c.args.bytes.now c.loop.here c.key_at-last.result.now c.in_ok-end.end (omega arith) c.loop.invariant c.in_ok-end.ensures c.key_at-last.ensures

pub returns-in_err-end : goal.returns-in_err-end
returns-in_err-end c =
    let p = err_from_is_err_and c.from_residual.result c.from_residual.ensures.1 in
    rw (p.1, p.2) (lists_stop c.args.count c.loop.counter c.loop.last.now c.args.bytes.now c.loop.here c.in_err-end.field-0.0 (omega arith) c.loop.invariant c.in_err-end.ensures)

pub returns : goal.returns
returns c = lists_all c.args.count c.loop.counter c.loop.last.now c.args.bytes.now c.loop.here (omega arith) c.loop.invariant
