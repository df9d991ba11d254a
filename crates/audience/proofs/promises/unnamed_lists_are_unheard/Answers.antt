use Rattle.audience.proofs.Heard.{unnamed_lists_unheard}
use Rattle.audience.proofs.promises.unnamed_lists_are_unheard.Goals as goal

pub returns : goal.returns
returns c = unnamed_lists_unheard
