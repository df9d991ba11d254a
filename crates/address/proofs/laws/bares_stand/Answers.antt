use Rattle.address.proofs.WorkedBares.{worked_bares}
use Rattle.address.proofs.laws.bares_stand.Goals as goal

pub returns : goal.returns
returns c = worked_bares
