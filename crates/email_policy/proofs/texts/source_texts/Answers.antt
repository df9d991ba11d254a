use Rattle.email_policy.proofs.FewTexts.{texts-few}
use Rattle.email_policy.proofs.texts.source_texts.Goals as goal

pub returns-clause-few : goal.returns-clause-few
returns-clause-few g c = texts-few (g.S.PolicySource.meaning c.args.source.now) (g.S.PolicySource.lawful c.args.source.now) c.args.whose c.args.field
