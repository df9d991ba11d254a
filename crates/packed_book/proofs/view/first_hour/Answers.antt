use Rattle.std.proofs.Common.{refl}
use Rattle.roll.specs.Reading.{texts_fault}
use Rattle.packed_book.specs.Ends.{lists_end}
use Rattle.packed_book.proofs.view.first_hour.Goals as goal

pub index-requires : goal.index-requires
unfolding lists_end texts_fault
index-requires c = refl
