use Rattle.std.proofs.Common.{◌≡◌, ◌+◌, [], length, drop}
use Rattle.mail.specs.Tables.{filled}
use Rattle.grants.specs.Rules.{replying}
use Rattle.grants.proofs.lists.find_replying.Given as goal

-- what is left to mark
abbrev pub invariant-loop-n : goal.invariant-loop-n
invariant-loop-n g l =
    (filled 256 l.marks.items (replying l.pass (g.S.PolicySource.meaning l.source).defaults l.n-iterator.iter.iter.rest.now (drop l.n-iterator.iter.count (g.S.PolicySource.meaning l.source).lists))
    ≡ filled 256 [] (replying l.pass (g.S.PolicySource.meaning l.source).defaults l.named (g.S.PolicySource.meaning l.source).lists))
    × (l.n-iterator.iter.count + l.n-iterator.n ≡ length (g.S.PolicySource.meaning l.source).lists)
