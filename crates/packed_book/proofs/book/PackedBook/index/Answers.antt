use Rattle.std.proofs.Common.{arith}
use Rattle.packed_book.specs.Accepted.{book_opened}
use Rattle.packed_book.proofs.book.PackedBook.index.Goals as goal

pub places-starts-requires-clause-few : goal.places-starts-requires-clause-few
places-starts-requires-clause-few c =
    let o = book_opened c.args.bytes.now (λ i. omega (arith, c.type_inv.bytes i)) c.requires in
    rw (c.word_at-count.ensures.value, c.defaults_end-place.ensures.value) o.count.few
