use Rattle.std.proofs.Common.{ap, ◌∙◌}
use Rattle.grants.specs.Rules.{keys_of, grant_by}
use Rattle.email_router.specs.Envelope.{pack_sent}
use Rattle.email_router.specs.Given.{answered}
use Rattle.email_router.proofs.Choosing.{tables_sent}
use Rattle.email_router.proofs.resolve.send.Goals as goal

pub returns : goal.returns
returns g c =
    let p = g.S.PolicySource.meaning c.args.source.now in
    let t = c.choose-tables.ensures in
    let r = c.recipients-chosen.ensures in
    let to = tables_sent (keys_of p) c.args.mail.now (grant_by c.args.pass c.args.named.now p) c.recipients-chosen.result _ _ _ t.to t.cc t.added r.to_start r.to r.cc_start r.cc r.added in
    c.deliver.ensures ∙ ap (λ o. answered (pack_sent o c.args.rank) c.args.scratch.now c.args.tray.now) to
