use Rattle.std.proofs.Common.{arith}
use Rattle.replay.proofs.TextLines.{part_end_none, part_end_some}
use Rattle.replay.proofs.people.push_roll.Goals as goal

pub returns-then-size-eq0-clause-end : goal.returns-then-size-eq0-clause-end
returns-then-size-eq0-clause-end c =
    part_end_none c.args.stands c.args.bytes.now c.args.at c.in-Some.count c.in_ok-size.size c.if-not-stands.false c.in-Some.ensures c.in_ok-size.ensures.size (omega arith)

pub returns-else-size-eq0-clause-end : goal.returns-else-size-eq0-clause-end
returns-else-size-eq0-clause-end c =
    part_end_some c.args.stands c.args.bytes.now c.args.at c.in-Some.count c.in_ok-size.size c.if-not-stands.false c.in-Some.ensures c.in_ok-size.ensures.size (omega arith)
