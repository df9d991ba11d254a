use Rattle.std.proofs.Common.{refl, arith}
use Rattle.roll.specs.Packing.{word}
use Rattle.roll.proofs.Writes.{copied}
use Rattle.roll.proofs.write.put_text.Goals as goal

pub returns : goal.returns
returns c =
    record {
      end = omega arith;
      tray = copied _ (word _) _ _ _ _ _ _ c.put_word.ensures c.copy_from_slice.ensures.after refl (omega arith) (omega arith);
    }
