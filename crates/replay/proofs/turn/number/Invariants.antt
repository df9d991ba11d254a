use Rattle.std.proofs.Common.{◌≡◌, drop}
use Rattle.replay.specs.Lines.{number_of, number_from}
use Rattle.replay.proofs.turn.number.Given as goal

abbrev pub invariant-loop-c : goal.invariant-loop-c
invariant-loop-c l = number_of l.text ≡ number_from l.n (drop l.c-index l.text)
