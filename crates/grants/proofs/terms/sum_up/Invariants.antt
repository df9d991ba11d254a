use Rattle.std.proofs.Common.{◌≡◌, ◌+◌, length, drop}
use Rattle.grants.specs.Sums.{sum_from, nothing_said}
use Rattle.grants.proofs.terms.sum_up.Given as goal

-- what is left gives the sum
abbrev pub invariant-loop-n : goal.invariant-loop-n
invariant-loop-n g l =
    (sum_from l.pass (g.S.PolicySource.meaning l.source).defaults l.terms l.n-iterator.iter.iter.rest.now (drop l.n-iterator.iter.count (g.S.PolicySource.meaning l.source).lists)
    ≡ sum_from l.pass (g.S.PolicySource.meaning l.source).defaults nothing_said l.named (g.S.PolicySource.meaning l.source).lists)
    × (l.n-iterator.iter.count + l.n-iterator.n ≡ length (g.S.PolicySource.meaning l.source).lists)
