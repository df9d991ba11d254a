use Rattle.std.proofs.Common.{drop}
use Rattle.email_policy.specs.Lawful.{pack_entry}
use Rattle.packed_book.proofs.Puts.{Left}
use Rattle.packed_book.proofs.write.put_lists.Given as goal

abbrev pub invariant-loop-n : goal.invariant-loop-n
invariant-loop-n g l = Left pack_entry (g.S.PolicySource.meaning l.source).lists (drop l.n (g.S.PolicySource.meaning l.source).lists) l.initial.tray l.tray l.at l.end
