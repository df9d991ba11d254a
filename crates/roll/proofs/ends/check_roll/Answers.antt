use Rattle.std.proofs.Common.{arith}
use Rattle.roll.specs.Ends.{whole, incoming}
use Rattle.roll.specs.Laws.{Packed}
use Rattle.roll.specs.Reading.{texts}
use Rattle.roll.proofs.Wholes.{either_way, whole-packed, packed-whole}
use Rattle.roll.proofs.ends.check_roll.Goals as goal

pub returns : goal.returns
returns c =
    let bs = c.args.bytes.now in
    record {
      value = c.check_within.ensures;
      law =
          either_way (Packed incoming bs) (texts bs) (whole incoming bs)
          (whole-packed incoming bs (λ i. omega (arith, c.type_inv.bytes i)))
          (λ ts p. (packed-whole incoming bs ts p).0)
          c.check_within.result c.check_within.ensures;
    }
