use Rattle.keep_first.proofs.StandsIn.{stands_in}
use Rattle.keep_first.proofs.laws.stand_in_stands.Goals as goal

pub returns : goal.returns
returns g c = λ same preferred xs x law. stands_in same preferred law xs x
