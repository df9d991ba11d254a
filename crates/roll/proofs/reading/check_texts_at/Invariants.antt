use Rattle.std.proofs.Common.{◌+◌}
use Rattle.roll.specs.Reading.{texts_at, texts_fault}
use Rattle.roll.proofs.Readings.{Walked}
use Rattle.roll.proofs.reading.check_texts_at.Given as goal

abbrev pub invariant-loop : goal.invariant-loop
invariant-loop l = Walked l.count l.counter l.bytes l.here l.rest (texts_fault (l.at + 2) (texts_at l.bytes l.at))
