use Rattle.std.proofs.Common.{sym, ◌∙◌}
use Rattle.address.specs.Text.{small, holds}
use Rattle.mail.specs.Letters.{letter}
use Rattle.recipients.proofs.Mailed.{mailed_without_bot, mailed_unless_held}
use Rattle.recipients.proofs.policies.Policies.is_mailable.Goals as goal

pub returns-then-is_nobody-2 : goal.returns-then-is_nobody-2
unfolding letter
returns-then-is_nobody-2 c = mailed_without_bot (letter c.args.mail.now) c.args.mailbox.now.text.now (sym c.if-is_nobody.ensures) (sym c.if-is_nobody-2.ensures)

pub returns : goal.returns
unfolding letter
returns c = mailed_unless_held (letter c.args.mail.now) c.args.mailbox.now.text.now (sym c.if-is_nobody.ensures) c.contains_small.result (sym c.if-is_nobody-2.ensures)
    (c.contains_small.ensures ∙ (λ i. holds (small (c.text.ensures i)) (small (c.part.ensures i))))
