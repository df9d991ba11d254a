use Rattle.email_policy.proofs.Numbers.{numbers}
use Rattle.email_policy.proofs.laws.numbers_stand.Goals as goal

pub returns : goal.returns
returns c = numbers
