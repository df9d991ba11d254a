use Rattle.audience.proofs.Positives.{every_positive_within_due}
use Rattle.audience.proofs.promises.positives_stay_within_the_due.Goals as goal

pub returns : goal.returns
returns c = every_positive_within_due
