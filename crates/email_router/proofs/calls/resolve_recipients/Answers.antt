use Rattle.audience.specs.Known.{known_domain}
use Rattle.audience.proofs.First.{every_answer_reaches_the_due}
use Rattle.email_router.specs.Given.{mail_of}
use Rattle.email_router.proofs.Accepted.{first_unheard}
use Rattle.email_router.proofs.calls.resolve_recipients.Goals as goal

pub returns-clause-due : goal.returns-clause-due
returns-clause-due g c =
    every_answer_reaches_the_due known_domain (g.S.PolicySource.meaning c.args.source.now) (mail_of c.args.to.now c.args.cc.now c.args.author.now c.args.bot.now)

pub returns-clause-unheard : goal.returns-clause-unheard
returns-clause-unheard g c =
    first_unheard c.args.to.now c.args.cc.now c.args.author.now c.args.bot.now c.args.scratch.now c.args.tray.now (g.S.PolicySource.meaning c.args.source.now)
