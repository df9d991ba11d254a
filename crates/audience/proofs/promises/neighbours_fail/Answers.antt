use Rattle.audience.proofs.Counters.{none_holds}
use Rattle.audience.proofs.promises.neighbours_fail.Goals as goal

pub returns : goal.returns
returns c = none_holds
