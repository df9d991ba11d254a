use Rattle.std.proofs.Common.{[], ◌∷◌, map, take, ap, ◌∙◌}
use Rattle.roll.specs.Views.{viewed}
use Rattle.mail.specs.Parts.{text_in}
use Rattle.mail.specs.Tables.{filled}
use Rattle.mail.proofs.Held.{filled_more, take_nth, take_nth_none}
use Rattle.mail.proofs.read.push_roll.Goals as goal
use Rattle.mail.proofs.read.push_roll.Goals.{in-Some, in_default}

pub loop-i-preserved : goal.loop-i-preserved
loop-i-preserved g c = elim c.match-text.branch [
  | in-Some w ↦ rw w.table-is
      (w.push_text.ensures
      ∙ ap (λ ts. filled g.row.N ts (w.in-Some.text.now ∷ [])) c.loop-i.invariant
      ∙ filled_more g.row.N (map text_in c.args.table.now.items) (take c.loop-i.i (viewed c.args.roll.now)) (w.in-Some.text.now ∷ [])
      ∙ ap (filled g.row.N (map text_in c.args.table.now.items)) (take_nth (viewed c.args.roll.now) c.loop-i.i w.in-Some.text.now w.in-Some.ensures))
  | in_default w ↦ rw w.table-is (c.loop-i.invariant ∙ ap (filled g.row.N (map text_in c.args.table.now.items)) (take_nth_none (viewed c.args.roll.now) c.loop-i.i w.in_default.ensures))
]
