use Rattle.std.proofs.Common.{arith}
use Rattle.email_policy.specs.Lawful.{pack_book}
use Rattle.packed_book.proofs.Rows.{book_answer, book_tray}
use Rattle.packed_book.proofs.write.write_book.Goals as goal

pub returns : goal.returns
returns g c =
    let n = c.put_book-needed.ensures.end in
    record {
      answer = book_answer (pack_book (g.S.PolicySource.meaning c.args.source.now)) c.args.tray.now c.put_book-end.result c.put_book-end.ensures.end (omega arith);
      tray = book_tray (pack_book (g.S.PolicySource.meaning c.args.source.now)) c.args.tray.now c.put_book-end.new.tray (omega arith) c.put_book-end.ensures.tray;
    }
