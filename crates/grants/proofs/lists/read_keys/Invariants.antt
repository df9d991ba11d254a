use Rattle.std.proofs.Common.{◌≡◌, [], map, take}
use Rattle.mail.specs.Parts.{text_in}
use Rattle.mail.specs.Tables.{filled}
use Rattle.grants.specs.Rules.{keys_of}
use Rattle.grants.proofs.lists.read_keys.Given as goal

abbrev pub invariant-loop-n : goal.invariant-loop-n
invariant-loop-n g l = map text_in l.keys.items ≡ filled 256 [] (take l.n (keys_of (g.S.PolicySource.meaning l.source)))
