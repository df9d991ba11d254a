use Rattle.std.proofs.Common.{rules}
use Rattle.email_policy.specs.Keys.{rises}
use Rattle.email_policy.proofs.KeyOrder.{before_partly}
use Rattle.email_policy.proofs.keys.rises.Goals as goal

pub returns-then-is_before_small : goal.returns-then-is_before_small
unfolding rises
returns-then-is_before_small c = search rules

pub returns-then-same_bare : goal.returns-then-same_bare
unfolding rises
returns-then-same_bare c = let e = before_partly c.args.j.now c.args.k.now in search (rules, e)

pub returns-else-same_bare : goal.returns-else-same_bare
unfolding rises
returns-else-same_bare c = search rules
