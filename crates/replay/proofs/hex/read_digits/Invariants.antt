use Rattle.std.proofs.Common.{◌≡◌, length, vec_items}
use Rattle.replay.specs.Hex.{bytes_of}
use Rattle.replay.proofs.HexDigits.{after}
use Rattle.replay.proofs.hex.read_digits.Given as goal

abbrev pub invariant-loop-rest : goal.invariant-loop-rest
invariant-loop-rest l = bytes_of l.text ≡ after (vec_items l.bytes) (bytes_of l.rest)

abbrev pub decreases-loop-rest : goal.decreases-loop-rest
decreases-loop-rest l = length l.rest
