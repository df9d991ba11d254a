use Rattle.audience.proofs.First.{every_answer_reaches_the_due}
use Rattle.audience.proofs.promises.answers_reach_the_due.Goals as goal

pub returns : goal.returns
returns c = every_answer_reaches_the_due
