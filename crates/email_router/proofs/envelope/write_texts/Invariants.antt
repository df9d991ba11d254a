use Rattle.std.proofs.Common.{take}
use Rattle.address.specs.Text.{trimmed}
use Rattle.mail.specs.Rolls.{text_at, roll_texts}
use Rattle.roll.proofs.Writes.{Wrote}
use Rattle.email_router.proofs.Rows.{rows}
use Rattle.email_router.proofs.envelope.write_texts.Given as goal

abbrev pub invariant-loop-place : goal.invariant-loop-place
invariant-loop-place l =
    Wrote (rows (λ i. trimmed (text_at (roll_texts l.roll l.mail l.added) i)) (take l.place-index l.places))
    l.initial.tray l.tray l.at l.end
