use Rattle.std.proofs.Common.{rules}
use Rattle.roll.specs.Reading.{texts_fault}
use Rattle.email_policy.proofs.fields.Record.check_texts.Goals as goal
use Rattle.email_policy.proofs.fields.Record.check_texts.Goals.{then-has+in_ok-check_texts_at, else-has}

pub returns-in_err-check_texts_at-2 : goal.returns-in_err-check_texts_at-2
unfolding texts_fault
returns-in_err-check_texts_at-2 c =
    elim c.if-has.branch [ then-has+in_ok-check_texts_at w ↦ search rules | else-has w ↦ search rules ]

pub returns-in_ok-check_texts_at-2 : goal.returns-in_ok-check_texts_at-2
unfolding texts_fault
returns-in_ok-check_texts_at-2 c =
    elim c.if-has.branch [ then-has+in_ok-check_texts_at w ↦ search rules | else-has w ↦ search rules ]

pub returns-else-has-2 : goal.returns-else-has-2
unfolding texts_fault
returns-else-has-2 c =
    elim c.if-has.branch [ then-has+in_ok-check_texts_at w ↦ search rules | else-has w ↦ search rules ]
