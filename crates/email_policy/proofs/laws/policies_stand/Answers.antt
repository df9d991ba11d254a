use Rattle.email_policy.proofs.Records.{reads_policy, packs_policy}
use Rattle.email_policy.proofs.laws.policies_stand.Goals as goal

pub returns : goal.returns
returns c = record { reads = reads_policy; packs = packs_policy }
