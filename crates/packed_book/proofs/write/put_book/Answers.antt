use Rattle.std.proofs.Common.{arith}
use Rattle.std.proofs.lemmas.Bool.{lt-ltb}
use Rattle.roll.specs.Packing.{word}
use Rattle.packed_book.proofs.Puts.{puts_put}
use Rattle.packed_book.proofs.Rows.{book_size, book_puts}
use Rattle.packed_book.proofs.write.put_book.Goals as goal

pub put_lists-requires : goal.put_lists-requires
put_lists-requires g c =
    let s = book_size (g.S.PolicySource.meaning c.args.source.now) in
    let l = (g.S.PolicySource.lawful c.args.source.now).small in
    let e = c.put_policy-place.ensures.end in
    omega arith

pub returns : goal.returns
returns g c =
    let few = (g.S.PolicySource.lawful c.args.source.now).few in
    let n = c.len.ensures in
    let w = puts_put _ c.put_policy-place.new.tray c.put_policy-place.result (word c.len.result) c.write_word.new.tray (lt-ltb _ _ (omega arith)) c.write_word.ensures.tray in
    let a =
    book_puts (g.S.PolicySource.meaning c.args.source.now) c.args.tray.now c.put_policy-place.new.tray c.write_word.new.tray c.put_lists.new.tray c.put_policy-place.result c.len.result c.put_lists.result
    n c.put_policy-place.ensures.tray c.put_policy-place.ensures.end w c.put_lists.ensures.tray c.put_lists.ensures.end in
    record { end = a.0; tray = a.1 }
