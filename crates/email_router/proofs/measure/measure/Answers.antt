use Rattle.std.proofs.Common.{◌≡◌, ℕ, Bool, map, length, ap, ◌∙◌, arith}
use Rattle.address.specs.Text.{Text, trimmed}
use Rattle.keep_first.specs.Model.{Classes, standing_at}
use Rattle.keep_first.proofs.KeptPlaces.{kept_below, kept_below_none, kept_below_more}
use Rattle.mail.specs.Rolls.{text_at, roll_texts, classes_of, preferred_of, kept_places}
use Rattle.email_router.specs.Actions.{size_of}
use Rattle.email_router.proofs.Rows.{measured_none, measured_some, measured_skip, size_measured}
use Rattle.email_router.proofs.Shorts.{mailed_short}
use Rattle.email_router.proofs.measure.measure.Goals as goal
use Rattle.email_router.proofs.measure.measure.Goals.{in-Some, in_default}

pub loop-i-init : goal.loop-i-init
loop-i-init c =
    let ts = roll_texts c.args.roll.now c.args.mail.now c.args.added.now in
    measured_none _ _ (kept_below_none (classes_of ts c.args.roll.now.takes.now) (preferred_of ts))

pub loop-i-preserved : goal.loop-i-preserved
loop-i-preserved c =
    let ts = roll_texts c.args.roll.now c.args.mail.now c.args.added.now in
    let text : ℕ → Text = λ i. trimmed (text_at ts i) in
    let m : Classes = classes_of ts c.args.roll.now.takes.now in
    let liked : ℕ → Bool = preferred_of ts in
    let more = kept_below_more m liked c.loop-i.i in
    elim c.match-standing.branch [
      | in-Some w ↦
          rw (w.texts-is, w.bytes-is) (measured_some text c.loop-i.invariant (kept_below m liked _) (standing_at m liked c.loop-i.i) more w.in-Some.place _ w.in-Some.ensures (ap length (w.trim.ensures ∙ ap trimmed w.text.ensures)) (mailed_short c.args.roll.now c.args.mail.now c.args.added.now w.in-Some.place))
      | in_default w ↦
          rw (w.texts-is, w.bytes-is) (measured_skip text c.loop-i.invariant (kept_below m liked _) (standing_at m liked c.loop-i.i) more w.in_default.ensures)
    ]

pub returns : goal.returns
unfolding kept_places
returns c =
    let ts = roll_texts c.args.roll.now c.args.mail.now c.args.added.now in
    let text : ℕ → Text = λ i. trimmed (text_at ts i) in
    let m : Classes = classes_of ts c.args.roll.now.takes.now in
    let all : c.loop-i.i ≡ m.count = omega arith in
    let few = c.args.roll.now.few in
    record {
      size = size_measured text c.loop-i.invariant ∙ ap (λ i. size_of (map text (kept_below m (preferred_of ts) i))) all;
      small = record { texts = omega arith; bytes = omega arith };
    }
