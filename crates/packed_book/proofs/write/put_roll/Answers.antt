use Rattle.std.proofs.Common.{ℕ, ◌+◌, List, sym, refl, subst, arith}
use Rattle.std.proofs.lemmas.Bool.{lt-ltb}
use Rattle.roll.specs.Packing.{word, pack_texts}
use Rattle.email_policy.specs.Texts.{record_of, texts_of}
use Rattle.packed_book.specs.Rows.{Puts}
use Rattle.packed_book.proofs.Puts.{puts_none, puts_put, puts_then}
use Rattle.packed_book.proofs.Rows.{part_none, part_some, part_length}
use Rattle.packed_book.proofs.write.put_roll.Goals as goal

pub returns-then-count-eq0 : goal.returns-then-count-eq0
returns-then-count-eq0 g c =
    let e = part_none (texts_of c.args.field (record_of (g.S.PolicySource.meaning c.args.source.now) c.args.whose)) c.text_count-count.result c.text_count-count.ensures.value c.if-count-eq0.true in
    rw e record { end = omega arith; tray = puts_none c.args.tray.now c.args.at }

pub returns : goal.returns
returns g c =
    let s = part_some (texts_of c.args.field (record_of (g.S.PolicySource.meaning c.args.source.now) c.args.whose)) c.text_count-count.result c.text_count-count.ensures.value c.if-count-eq0.false in
    let l = part_length (texts_of c.args.field (record_of (g.S.PolicySource.meaning c.args.source.now) c.args.whose)) c.text_count-count.result c.text_count-count.ensures.value c.if-count-eq0.false in
    let few = c.text_count-count.ensures.few in
    let w = puts_put _ c.args.tray.now c.args.at (word c.text_count-count.result) c.write_word.new.tray (lt-ltb _ _ (omega arith)) c.write_word.ensures.tray in
    let a = puts_then c.args.tray.now c.write_word.new.tray c.put_texts.new.tray (word c.text_count-count.result) (pack_texts (texts_of c.args.field (record_of (g.S.PolicySource.meaning c.args.source.now) c.args.whose))) c.args.at (c.args.at + 2) w refl c.put_texts.ensures.tray in
    let n = c.put_texts.ensures.end in
    record { end = omega arith; tray = subst (λ (x : List ℕ). Puts c.args.tray.now c.args.at x c.put_texts.new.tray) (sym s) a }
