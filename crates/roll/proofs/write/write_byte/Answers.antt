use Rattle.std.proofs.Common.{arith}
use Rattle.std.proofs.lemmas.Bool.Decides.{nat_tests}
use Rattle.roll.proofs.Writes.{written_one}
use Rattle.roll.proofs.write.write_byte.Goals as goal

pub returns : goal.returns
returns c = record { end = grind (arith, nat_tests); tray = grind (arith, nat_tests, written_one) }
