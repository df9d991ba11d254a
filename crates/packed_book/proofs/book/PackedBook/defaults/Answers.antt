use Rattle.std.proofs.Common.{rules}
use Rattle.packed_book.specs.Reading.{read_book}
use Rattle.packed_book.proofs.book.PackedBook.defaults.Goals as goal

pub returns : goal.returns
unfolding read_book
returns c = search rules
