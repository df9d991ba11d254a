use Rattle.std.proofs.Common.{arith}
use Rattle.packed_book.proofs.Puts.{puts_none}
use Rattle.packed_book.proofs.write.put_byte.Goals as goal

pub returns-in-None : goal.returns-in-None
returns-in-None c = let e = c.in-None.is in rw e record { end = omega arith; tray = puts_none c.args.tray.now c.args.at }
