use Rattle.replay.proofs.TextLines.{Listed}
use Rattle.replay.proofs.people.push_texts.Given as goal

abbrev pub invariant-loop : goal.invariant-loop
invariant-loop l = Listed l.word l.count l.counter l.bytes l.rest l.fn.lines.items l.lines.items l.size
