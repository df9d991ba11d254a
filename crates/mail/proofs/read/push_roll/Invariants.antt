use Rattle.std.proofs.Common.{◌≡◌, map, take}
use Rattle.roll.specs.Views.{viewed}
use Rattle.mail.specs.Parts.{text_in}
use Rattle.mail.specs.Tables.{filled}
use Rattle.mail.proofs.read.push_roll.Given as goal

abbrev pub invariant-loop-i : goal.invariant-loop-i
invariant-loop-i g l = map text_in l.table.items ≡ filled g.row.N (map text_in l.initial.table.items) (take l.i (viewed l.roll))
