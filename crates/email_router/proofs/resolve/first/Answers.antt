use Rattle.std.proofs.Common.{ap, ◌∙◌}
use Rattle.mail.specs.Letters.{letter}
use Rattle.email_router.specs.Given.{answered}
use Rattle.email_router.proofs.Ranks.{first_packed}
use Rattle.email_router.proofs.resolve.first.Goals as goal

pub returns : goal.returns
returns g c =
    let p = g.S.PolicySource.meaning c.args.source.now in
    c.send.ensures
    ∙ ap (λ bytes. answered bytes c.args.scratch.now c.args.tray.now) (first_packed p (letter c.args.mail.now) c.args.named.now c.requires.named.marks c.in-Some.rank c.in-Some.ensures)
