use Rattle.std.proofs.Common.{refl, ◌∙◌}
use Rattle.audience.specs.Due.{counts}
use Rattle.mail.specs.Letters.{letter}
use Rattle.recipients.specs.Choices.{listed_by}
use Rattle.recipients.specs.Policies.{keys_in, granted_in}
use Rattle.recipients.proofs.Counting.{counted_is}
use Rattle.recipients.proofs.policies.Policies.count_individuals.Goals as goal

pub returns : goal.returns
returns c =
    counted_is _ c.args.mail.now c.args.self.now.grant.cc (counts (listed_by (keys_in c.args.self.now)) (letter c.args.mail.now) (granted_in c.args.self.now))
    refl (c.as_slice.ensures.value ∙ c.mark_counted-marks.ensures) c.count.result c.count.ensures
