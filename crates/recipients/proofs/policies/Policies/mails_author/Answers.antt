use Rattle.std.proofs.Common.{◌&&◌, sym, ap, ◌∙◌}
use Rattle.audience.specs.Mail.{mailable}
use Rattle.grants.proofs.Addressed.{author_text}
use Rattle.mail.specs.Letters.{letter}
use Rattle.recipients.proofs.policies.Policies.mails_author.Goals as goal

pub returns-then-self : goal.returns-then-self
returns-then-self c =
    c.is_mailable.ensures ∙ ap (mailable (letter c.args.mail.now)) (author_text c.args.mail.now _)
    ∙ ap (λ b. b && mailable (letter c.args.mail.now) (letter c.args.mail.now).author) (sym c.if-self.true)
