use Rattle.std.proofs.Common.{◌≡◌, ℕ, ap, ◌∙◌, arith}
use Rattle.address.specs.Text.{Text, trimmed}
use Rattle.mail.specs.Rolls.{text_at, roll_texts}
use Rattle.roll.proofs.Sized.{pack_texts_none}
use Rattle.roll.proofs.Writes.{wrote_none}
use Rattle.email_router.proofs.Rows.{row_wrote, row_accepted}
use Rattle.email_router.proofs.Shorts.{mailed_short}
use Rattle.email_router.proofs.envelope.write_texts.Goals as goal
use Rattle.email_router.proofs.envelope.write_texts.Goals.{in-Some, in_default}

pub loop-place-init : goal.loop-place-init
loop-place-init c = wrote_none _ _ _ pack_texts_none

pub loop-place-preserved : goal.loop-place-preserved
loop-place-preserved c =
    let text : ℕ → Text = λ i. trimmed (text_at (roll_texts c.args.roll.now c.args.mail.now c.args.added.now) i) in
    let short = mailed_short c.args.roll.now c.args.mail.now c.args.added.now in
    let is : c.trim-text.result.now ≡ text _ = c.trim-text.ensures ∙ ap trimmed c.text.ensures in
    elim c.match-write_text.branch [
      | in-Some w ↦ rw w.end-is (row_wrote text short c.args.places.now c.loop-place.place-index _ _ _ _ c.loop-place.invariant (omega arith) (omega arith) _ _ is c.write_text.ensures.tray w.in-Some.next w.in-Some.ensures.end)
      | in_default w ↦ absurd (row_accepted text short c.args.places.now c.loop-place.place-index _ _ _ _ c.loop-place.invariant (omega arith) (omega arith) _ _ is c.write_text.ensures.tray w.in_default.ensures.end)
    ]
