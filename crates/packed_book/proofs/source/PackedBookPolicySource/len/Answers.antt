use Rattle.std.proofs.Common.{rules}
use Rattle.packed_book.proofs.Views.{book_count}
use Rattle.packed_book.proofs.source.PackedBookPolicySource.len.Goals as goal

pub returns : goal.returns
returns c = book_count c.args.self.now.bytes.now _ (search rules)
