use Rattle.audience.proofs.Granted.{few_is_covered}
use Rattle.audience.proofs.promises.few_is_covered.Goals as goal

pub returns : goal.returns
returns c = few_is_covered
