use Rattle.email_policy.proofs.Records.{reads_whole, packs_whole}
use Rattle.email_policy.proofs.laws.records_stand.Goals as goal

pub returns : goal.returns
returns c = record { reads = reads_whole; packs = packs_whole }
