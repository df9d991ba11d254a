use Rattle.audience.proofs.Blanks.{blank_is_nobody}
use Rattle.audience.proofs.promises.blank_text_is_nobody.Goals as goal

pub returns : goal.returns
returns c = blank_is_nobody
