use Rattle.audience.proofs.Examples.{worked_examples}
use Rattle.audience.proofs.promises.examples_hold.Goals as goal

pub returns : goal.returns
returns c = worked_examples
