use Rattle.keep_first.proofs.StandsIn.{keeps}
use Rattle.keep_first.proofs.laws.keep_first_keeps.Goals as goal

pub returns : goal.returns
returns g c = λ same preferred xs law. keeps same preferred law xs
