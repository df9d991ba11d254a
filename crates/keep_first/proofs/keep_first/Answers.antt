use Rattle.std.proofs.Common.{ℕ, ◌<◌, Bool, arith}
use Rattle.keep_first.specs.Model.{Classes, standing_at}
use Rattle.keep_first.proofs.KeptPlaces.{kept_below, kept_below_none, kept_below_more, standing_within}
use Rattle.keep_first.proofs.Filled.{filled_none, filled-some, filled_skip}
use Rattle.keep_first.proofs.keep_first.Goals as goal
use Rattle.keep_first.proofs.keep_first.Goals.{in-Some, in_default}

pub loop-i-init : goal.loop-i-init
loop-i-init g c =
    let m : Classes = g.R.Roll.classes c.args.roll.now c.args.texts.now c.args.source.now in
    let preferred : ℕ → Bool = g.R.Roll.preferred c.args.roll.now c.args.texts.now c.args.source.now in
    filled_none (kept_below m preferred) c.args.slots.now (kept_below_none m preferred)

pub overflow_cast-slots : goal.overflow_cast-slots
overflow_cast-slots g c =
    let m : Classes = g.R.Roll.classes c.args.roll.now c.args.texts.now c.args.source.now in
    let preferred : ℕ → Bool = g.R.Roll.preferred c.args.roll.now c.args.texts.now c.args.source.now in
    let below : c.in-Some.place < m.count = standing_within m preferred c.loop-i.i c.in-Some.place (omega arith) c.in-Some.ensures in
    omega arith

pub loop-i-preserved : goal.loop-i-preserved
loop-i-preserved g c =
    let m : Classes = g.R.Roll.classes c.args.roll.now c.args.texts.now c.args.source.now in
    let preferred : ℕ → Bool = g.R.Roll.preferred c.args.roll.now c.args.texts.now c.args.source.now in
    let more = kept_below_more m preferred in
    elim c.match-standing.branch [
      | in-Some w ↦ rw (w.slots-is, w.filled-is) (filled-some (kept_below m preferred) c.loop-i.invariant (standing_at m preferred) more w.in-Some.place (omega arith) w.in-Some.ensures)
      | in_default w ↦ rw (w.slots-is, w.filled-is) (filled_skip (kept_below m preferred) c.loop-i.invariant (standing_at m preferred) more w.in_default.ensures)
    ]
