use Rattle.std.proofs.Common.{◌≡◌, ◌-◌, ◌≤◌, length}
use Rattle.roll.specs.Ends.{texts_end, roll_end}
use Rattle.roll.proofs.ends.roll_end.Given as goal

abbrev pub invariant-loop : goal.invariant-loop
invariant-loop l = (l.at ≤ l.end) × (l.end ≤ length l.bytes) × (texts_end l.limits (l.count - l.counter) l.bytes l.end ≡ roll_end l.limits l.bytes l.at)
