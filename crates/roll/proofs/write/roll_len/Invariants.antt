use Rattle.std.proofs.Common.{map}
use Rattle.roll.proofs.Sized.{Sized}
use Rattle.roll.proofs.write.roll_len.Given as goal

abbrev pub invariant-loop-i : goal.invariant-loop-i
invariant-loop-i l = Sized (map (λ x. x.now) l.texts) l.i l.len
