use Rattle.roll.proofs.Tables.{Filled}
use Rattle.roll.proofs.view.Roll.new.Given as goal

abbrev pub invariant-loop : goal.invariant-loop
invariant-loop l = Filled l.bytes l.count l.counter l.here l.rest l.starts.items
