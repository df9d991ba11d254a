use Rattle.email_policy.proofs.Records.{defaults_back}
use Rattle.email_policy.proofs.laws.defaults_stand.Goals as goal

pub returns : goal.returns
returns c = defaults_back
