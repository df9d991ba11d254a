use Rattle.std.proofs.Common.{◌≡◌, sym, ◌∙◌, rules, arith}
use Rattle.std.specs.Option.{option_map}
use Rattle.roll.specs.Reading.{read_text}
use Rattle.roll.proofs.Readings.{nth_beyond, nth_go, nth_stop, nth_here}
use Rattle.roll.proofs.reading.roll_text.Goals as goal

pub returns-then-m-count : goal.returns-then-m-count
returns-then-m-count c = sym (nth_beyond c.args.bytes.now c.args.at c.in_ok-count.count c.args.m c.in_ok-count.ensures (omega arith))

pub returns-in_err-rest : goal.returns-in_err-rest
returns-in_err-rest c =
    rw c.from_residual-in_err-rest.ensures
    (nth_stop c.in_ok-count.count c.args.m c.loop.counter c.loop.rest.now (omega arith) c.loop.invariant (omega arith) c.in_err-rest.ensures)

pub loop-preserved : goal.loop-preserved
loop-preserved c =
    nth_go c.in_ok-count.count c.args.m c.loop.counter c.loop.rest.now (omega arith) c.loop.invariant c.in_ok-rest.field-0-0.now c.in_ok-rest.field-0-1.now (omega arith) c.in_ok-rest.ensures

pub returns : goal.returns
returns c =
    let first : option_map (λ x. x.now) c.map.result ≡ option_map (λ p. p.0) (read_text c.loop.rest.now) = search rules in
    first ∙ nth_here c.in_ok-count.count c.args.m c.loop.counter c.loop.rest.now (omega arith) c.loop.invariant (omega arith)
