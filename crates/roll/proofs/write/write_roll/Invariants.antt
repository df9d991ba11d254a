use Rattle.std.proofs.Common.{map, take}
use Rattle.roll.specs.Packing.{pack_texts}
use Rattle.roll.proofs.Writes.{Wrote}
use Rattle.roll.proofs.write.write_roll.Given as goal

abbrev pub invariant-loop-text : goal.invariant-loop-text
invariant-loop-text l = Wrote (pack_texts (take l.text-index (map (λ x. x.now) l.texts))) l.initial.tray l.tray 2 l.end
