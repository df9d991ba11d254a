use Rattle.std.proofs.Common.{ap, ◌∙◌}
use Rattle.mail.specs.Letters.{letter}
use Rattle.grants.specs.declared.pass.Pass.TheVariants.{First}
use Rattle.grants.specs.Rules.{keys_of, grant_by}
use Rattle.email_router.specs.Actions.{action_of}
use Rattle.email_router.proofs.Choosing.{tables_sent}
use Rattle.email_router.proofs.Ranks.{mute_action, first_action}
use Rattle.email_router.proofs.resolve.first_answer.Goals as goal

pub returns-in_default : goal.returns-in_default
returns-in_default g c = mute_action (g.S.PolicySource.meaning c.args.source.now) (letter c.args.mail.now) c.in_default.ensures

pub returns : goal.returns
returns g c =
    let p = g.S.PolicySource.meaning c.args.source.now in
    let t = c.choose-tables.ensures in
    let r = c.recipients.ensures in
    let to = tables_sent (keys_of p) c.args.mail.now (grant_by First c.args.named.now p) c.recipients.result _ _ _ t.to t.cc t.added r.to_start r.to r.cc_start r.cc r.added in
    c.answer.ensures.action
    ∙ ap (λ o. action_of o c.in-Some.rank) to
    ∙ first_action p (letter c.args.mail.now) c.args.named.now c.requires.marks c.in-Some.rank c.in-Some.ensures
