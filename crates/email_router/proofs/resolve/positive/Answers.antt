use Rattle.std.proofs.Common.{ap, ◌∙◌}
use Rattle.mail.specs.Letters.{letter}
use Rattle.email_router.specs.Envelope.{pack_positive}
use Rattle.email_router.specs.Given.{answered}
use Rattle.email_router.proofs.Ranks.{mute_positive, none_positive, author_positive, all_positive}
use Rattle.email_router.proofs.resolve.positive.Goals as goal

pub returns-in_default : goal.returns-in_default
returns-in_default g c =
    let p = g.S.PolicySource.meaning c.args.source.now in
    c.deliver_nothing.ensures
    ∙ ap (λ bytes. answered bytes c.args.scratch.now c.args.tray.now) (mute_positive p (letter c.args.mail.now) c.in_default.ensures)

pub returns-in-None : goal.returns-in-None
returns-in-None g c =
    let p = g.S.PolicySource.meaning c.args.source.now in
    c.deliver_nothing-in-None.ensures
    ∙ ap (λ bytes. answered bytes c.args.scratch.now c.args.tray.now) (none_positive p (letter c.args.mail.now) c.in-Send.to c.in-Send.cc c.in-Send.positive_review c.in-Send.ensures c.in-None.is)

pub returns-in-Author : goal.returns-in-Author
returns-in-Author g c =
    let p = g.S.PolicySource.meaning c.args.source.now in
    c.send_to_author.ensures
    ∙ ap (λ o. answered (pack_positive o) c.args.scratch.now c.args.tray.now) (author_positive p (letter c.args.mail.now) c.in-Send.to c.in-Send.cc c.in-Send.positive_review c.in-Send.ensures c.in-Author.is)

pub returns-in-All : goal.returns-in-All
returns-in-All g c =
    let p = g.S.PolicySource.meaning c.args.source.now in
    c.send.ensures
    ∙ ap (λ o. answered (pack_positive o) c.args.scratch.now c.args.tray.now) (all_positive p (letter c.args.mail.now) c.in-Send.to c.in-Send.cc c.in-Send.positive_review c.in-Send.ensures c.args.named.now c.requires.named.marks c.in-All.is)
