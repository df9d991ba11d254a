use Rattle.std.proofs.Common.{length, ◌∙◌}
use Rattle.mail.specs.Letters.{candidates}
use Rattle.mail.specs.Rolls.{roll_texts}
use Rattle.mail.proofs.Numbered.{text_of_roll, no_text_of_roll}
use Rattle.mail.proofs.candidate_roll.Candidates.mailbox.Goals as goal

pub returns-then-i-self : goal.returns-then-i-self
unfolding roll_texts
returns-then-i-self c = c.default.ensures ∙ no_text_of_roll (candidates c.args.mail.now c.args.added.now) c.args.self.now.start (length c.args.self.now.takes.now) c.args.i c.if-i-self.true

pub returns : goal.returns
unfolding roll_texts
returns c = c.candidate.ensures ∙ text_of_roll (candidates c.args.mail.now c.args.added.now) c.args.self.now.start (length c.args.self.now.takes.now) c.args.i c.if-i-self.false
