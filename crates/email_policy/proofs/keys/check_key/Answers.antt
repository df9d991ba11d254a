use Rattle.std.proofs.Common.{rules}
use Rattle.email_policy.specs.Keys.{key_fault}
use Rattle.email_policy.proofs.keys.check_key.Goals as goal

pub returns-in_err-check_text : goal.returns-in_err-check_text
unfolding key_fault
returns-in_err-check_text c = search rules

pub returns : goal.returns
unfolding key_fault
returns c = search rules
