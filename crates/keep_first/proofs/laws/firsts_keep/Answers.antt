use Rattle.keep_first.proofs.Firsts.{keeps_firsts}
use Rattle.keep_first.proofs.laws.firsts_keep.Goals as goal

pub returns : goal.returns
returns g c = λ same xs law. keeps_firsts same law xs
