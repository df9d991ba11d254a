use Rattle.std.proofs.Common.{arith}
use Rattle.replay.proofs.TextLines.{listed_more, listed_stop, listed_all}
use Rattle.replay.proofs.people.push_texts.Goals as goal

pub loop-preserved : goal.loop-preserved
loop-preserved c =
    listed_more c.loop.invariant c.in-Some.text.now c.in-Some.more.now c.push_text.new.lines.items (omega arith) c.in-Some.ensures c.in_ok-push_text.ensures

pub returns-in_default : goal.returns-in_default
returns-in_default c =
    let a = listed_stop c.loop.invariant (omega arith) c.in_default.ensures in record { lines = a.added; size = a.taken; bound = a.within }

pub returns : goal.returns
returns c = let a = listed_all c.loop.invariant (omega arith) in record { lines = a.added; size = a.taken; bound = a.within }
