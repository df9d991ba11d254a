use Rattle.packed_book.specs.BookReads.{reads_book}
use Rattle.packed_book.proofs.BookPacks.{packs_book}
use Rattle.packed_book.proofs.laws.books_stand.Goals as goal

pub returns : goal.returns
returns c = record { reads = reads_book; packs = packs_book; written = λ bs b h. (reads_book bs b h).packed }
