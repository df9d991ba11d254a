use Rattle.std.proofs.Common.{arith}
use Rattle.roll.proofs.Wholes.{either_way}
use Rattle.email_policy.specs.Ends.{whole_record}
use Rattle.email_policy.specs.Law.{Packed}
use Rattle.email_policy.specs.Reading.{read_policy}
use Rattle.email_policy.proofs.Records.{reads_whole, packs_whole}
use Rattle.email_policy.proofs.record.check_record.Goals as goal

pub returns : goal.returns
returns c =
    let full = c.args.full in
    let bs = c.args.bytes.now in
    record {
      value = c.check_whole.ensures;
      law =
          either_way (Packed full bs) (read_policy bs 0) (whole_record full bs)
          (reads_whole full bs (λ i. omega (arith, c.type_inv.bytes i)))
          (λ p k. (packs_whole full bs p k).0)
          c.check_whole.result c.check_whole.ensures;
    }
