use Rattle.std.proofs.Common.{arith}
use Rattle.replay.proofs.HexDigits.{length-hex}
use Rattle.replay.proofs.hex.hex_len.Goals as goal

pub returns : goal.returns
returns c = omega (arith, length-hex c.args.bytes.now)
