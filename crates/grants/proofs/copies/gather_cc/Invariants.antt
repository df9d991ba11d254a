use Rattle.std.proofs.Common.{◌≡◌, ◌+◌, [], map, length, drop}
use Rattle.mail.specs.Parts.{text_in}
use Rattle.mail.specs.Tables.{filled}
use Rattle.grants.proofs.Gathered.{gathered}
use Rattle.grants.proofs.copies.gather_cc.Given as goal

-- what is left to write
abbrev pub invariant-loop-n : goal.invariant-loop-n
invariant-loop-n g l =
    (filled 8224 (map text_in l.cc.items) (gathered l.pass (g.S.PolicySource.meaning l.source).defaults l.n-iterator.iter.iter.rest.now (drop l.n-iterator.iter.count (g.S.PolicySource.meaning l.source).lists))
    ≡ filled 8224 [] (gathered l.pass (g.S.PolicySource.meaning l.source).defaults l.named (g.S.PolicySource.meaning l.source).lists))
    × (l.n-iterator.iter.count + l.n-iterator.n ≡ length (g.S.PolicySource.meaning l.source).lists)
