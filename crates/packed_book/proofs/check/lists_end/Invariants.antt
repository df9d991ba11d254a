use Rattle.std.proofs.Common.{◌≡◌, ◌-◌, []}
use Rattle.packed_book.specs.Ends.{lists_end}
use Rattle.packed_book.proofs.check.lists_end.Given as goal

abbrev pub invariant-loop : goal.invariant-loop
invariant-loop l = lists_end (l.count - l.counter) l.last l.bytes l.here ≡ lists_end l.count [] l.bytes l.at
