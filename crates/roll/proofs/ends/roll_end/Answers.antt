use Rattle.std.proofs.Common.{arith}
use Rattle.std.proofs.lemmas.Result.{err_from_is_err_and}
use Rattle.roll.proofs.Steps.{texts_go, texts_stop, texts_all}
use Rattle.roll.proofs.ends.roll_end.Goals as goal

pub loop-preserved : goal.loop-preserved
loop-preserved c =
    let b = c.in_ok-end.ensures.bound in (
      omega arith,
      omega arith,
      texts_go c.args.limits c.in_ok-count.count c.loop.counter c.args.bytes.now c.loop.end c.in_ok-end.end (omega arith) c.loop.invariant.2 c.in_ok-end.ensures.value,
    )

pub returns-in_err-end : goal.returns-in_err-end
returns-in_err-end c =
    let p = err_from_is_err_and c.from_residual-in_err-end.result c.from_residual-in_err-end.ensures.1 in
    rw (p.1, p.2)
    record {
      value = texts_stop c.args.limits c.in_ok-count.count c.loop.counter c.args.bytes.now c.loop.end c.in_err-end.field-0.0 (omega arith) c.loop.invariant.2 c.in_err-end.ensures.value;
      bound = tt;
    }

pub returns : goal.returns
returns c =
    record {
      value = texts_all c.args.limits c.in_ok-count.count c.loop.counter c.args.bytes.now c.loop.end (omega arith) c.loop.invariant.2;
      bound = (c.loop.invariant.0, c.loop.invariant.1);
    }
