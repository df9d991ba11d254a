use Rattle.std.proofs.Common.{length, sym, refl, arith}
use Rattle.std.proofs.lemmas.Bool.{eqb-true, eqb-false}
use Rattle.roll.proofs.Writes.{written_one}
use Rattle.email_router.specs.Envelope.{nothing}
use Rattle.email_router.proofs.Sends.{tray_refused, tray_answered}
use Rattle.email_router.proofs.envelope.deliver_nothing.Goals as goal

pub returns-then-is_empty : goal.returns-then-is_empty
returns-then-is_empty c = tray_refused nothing _ _ 1 refl (omega (arith, eqb-true (length c.args.tray.now) 0 (sym c.if-is_empty.ensures)))

pub returns : goal.returns
returns c = tray_answered nothing _ _ c.args.scratch.now _ _ 1 refl (omega (arith, eqb-false (length c.args.tray.now) 0 (sym c.if-is_empty.ensures))) refl c.clear.ensures (written_one _ _ _)
