use Rattle.email_policy.proofs.OwnTexts.{past_end}
use Rattle.email_policy.proofs.fields.Record.new.Goals as goal

pub returns-clause-reads : goal.returns-clause-reads
returns-clause-reads c = past_end c.args.bytes.now c.min.result c.args.at c.min.ensures
