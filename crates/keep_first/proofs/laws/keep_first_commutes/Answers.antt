use Rattle.keep_first.proofs.Alike.{commutes}
use Rattle.keep_first.proofs.laws.keep_first_commutes.Goals as goal

pub returns : goal.returns
returns g c = commutes _ _
