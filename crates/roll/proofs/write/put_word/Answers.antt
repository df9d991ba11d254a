use Rattle.std.proofs.Common.{◌≡◌, ◌-◌, ◌+◌, ◌∙◌, ap, arith, rules}
use borrow.Rule.Slice.PartMut.{put_mid}
use Rattle.roll.specs.Packing.{word}
use Rattle.roll.proofs.Writes.{put_mid_written}
use Rattle.roll.proofs.write.put_word.Goals as goal

pub returns : goal.returns
returns c =
    let bytes : c.copy_from_slice.new.self ≡ word c.args.n = search rules in
    ap (put_mid c.args.at (c.args.at + 2 - c.args.at) c.args.tray.now) bytes ∙ put_mid_written (word c.args.n) c.args.tray.now c.args.at (c.args.at + 2 - c.args.at) (omega arith) (omega arith)
