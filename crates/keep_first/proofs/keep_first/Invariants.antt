use Rattle.keep_first.proofs.KeptPlaces.{kept_below}
use Rattle.keep_first.proofs.Filled.{Filled}
use Rattle.keep_first.proofs.keep_first.Given as goal

abbrev pub invariant-loop-i : goal.invariant-loop-i
invariant-loop-i g l =
    Filled (kept_below (g.R.Roll.classes l.roll l.texts l.source) (g.R.Roll.preferred l.roll l.texts l.source))
    l.initial.slots l.slots l.filled l.i
