use Rattle.replay.proofs.HexDigits.{reads_back}
use Rattle.replay.proofs.hex.hex_reads_back.Goals as goal

pub returns : goal.returns
returns c = reads_back
