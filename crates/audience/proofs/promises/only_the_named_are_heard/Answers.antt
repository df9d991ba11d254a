use Rattle.audience.proofs.Heard.{only_the_named_are_heard}
use Rattle.audience.proofs.promises.only_the_named_are_heard.Goals as goal

pub returns : goal.returns
returns c = only_the_named_are_heard
