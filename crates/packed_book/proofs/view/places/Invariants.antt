use Rattle.packed_book.proofs.Views.{Filled}
use Rattle.packed_book.proofs.view.places.Given as goal

abbrev pub invariant-loop : goal.invariant-loop
invariant-loop l = Filled l.bytes l.at l.counter l.here l.starts.items
