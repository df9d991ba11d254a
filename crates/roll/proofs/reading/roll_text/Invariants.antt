use Rattle.std.proofs.Common.{◌≡◌, ◌-◌}
use Rattle.std.specs.List.{slice_get}
use Rattle.roll.specs.Reading.{texts_from, texts_at}
use Rattle.roll.proofs.reading.roll_text.Given as goal

abbrev pub invariant-loop : goal.invariant-loop
invariant-loop l = slice_get (texts_from (l.count - l.counter) l.rest) (l.m - l.counter) ≡ slice_get (texts_at l.bytes l.at) l.m
