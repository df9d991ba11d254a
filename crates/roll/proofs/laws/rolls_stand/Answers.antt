use Rattle.roll.proofs.Parts.{reads_roll, packs_roll}
use Rattle.roll.proofs.laws.rolls_stand.Goals as goal

pub returns : goal.returns
returns c = record { reads = reads_roll; packs = packs_roll }
