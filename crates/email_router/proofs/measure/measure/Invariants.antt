use Rattle.address.specs.Text.{trimmed}
use Rattle.keep_first.proofs.KeptPlaces.{kept_below}
use Rattle.mail.specs.Rolls.{text_at, roll_texts, classes_of, preferred_of}
use Rattle.email_router.proofs.Rows.{Measured}
use Rattle.email_router.proofs.measure.measure.Given as goal

abbrev pub invariant-loop-i : goal.invariant-loop-i
invariant-loop-i l =
    Measured (λ i. trimmed (text_at (roll_texts l.roll l.mail l.added) i))
    (kept_below (classes_of (roll_texts l.roll l.mail l.added) l.roll.takes.now) (preferred_of (roll_texts l.roll l.mail l.added)) l.i)
    l.i l.texts l.bytes
