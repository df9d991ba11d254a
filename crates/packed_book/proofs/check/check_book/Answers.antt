use Rattle.std.proofs.Common.{arith}
use Rattle.roll.proofs.Wholes.{either_way}
use Rattle.packed_book.specs.BookReads.{reads_book}
use Rattle.packed_book.specs.Ends.{whole_book}
use Rattle.packed_book.specs.Laws.{Packed}
use Rattle.packed_book.specs.Reading.{read_book}
use Rattle.packed_book.proofs.BookPacks.{packs_book}
use Rattle.packed_book.proofs.check.check_book.Goals as goal

pub returns : goal.returns
returns c =
    let bs = c.args.bytes.now in
    record {
      value = c.whole_book.ensures;
      law =
          either_way (Packed bs) (read_book bs) (whole_book bs)
          (reads_book bs (λ i. omega (arith, c.type_inv.bytes i)))
          (λ p k. (packs_book bs p k).0)
          c.whole_book.result c.whole_book.ensures;
    }
