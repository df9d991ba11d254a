use Rattle.std.proofs.Common.{rules}
use Rattle.email_policy.specs.Questions.{own_place}
use Rattle.email_policy.proofs.fields.Record.check_cc.Goals as goal

pub returns-then-not-has : goal.returns-then-not-has
unfolding own_place
returns-then-not-has c = search rules
