use Rattle.std.proofs.Common.{ap, ◌∙◌, eqb, sym}
use Rattle.audience.specs.Due.{has_angle}
use Rattle.keep_first.proofs.Members.{some_is_any}
use Rattle.mail.proofs.candidates.CandidatesRollMailMailboxes.is_preferred.Goals as goal

pub returns : goal.returns
returns c = c.contains.ensures.value ∙ sym (some_is_any (λ b. eqb b 60) c.text.result.now) ∙ ap has_angle c.text.ensures
