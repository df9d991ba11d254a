use Rattle.audience.proofs.Bots.{bot_unmailed}
use Rattle.audience.proofs.promises.bot_is_never_mailed.Goals as goal

pub returns : goal.returns
returns c = bot_unmailed
