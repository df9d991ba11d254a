use Rattle.std.proofs.Common.{sym, ◌∙◌}
use Rattle.replay.proofs.Trays.{number_some, number_more, number_bad, number_large, number_all}
use Rattle.replay.proofs.turn.number.Goals as goal

pub loop-c-init : goal.loop-c-init
loop-c-init c = number_some c.args.text.now c.if-is_empty.ensures

pub loop-c-preserved : goal.loop-c-preserved
loop-c-preserved c = c.loop-c.invariant ∙ number_more c.args.text.now c.loop-c.c-index c.loop-c.n c.loop-c-test.true c.in_ok-d.d c.in_ok-d.ensures.value c.if-n-ge100000000.false

pub returns-in_err-d : goal.returns-in_err-d
returns-in_err-d c = c.from_residual.ensures ∙ sym (c.loop-c.invariant ∙ number_bad c.args.text.now c.loop-c.c-index c.loop-c.n c.loop-c-test.true c.in_err-d.ensures.value)

pub returns-then-n-ge100000000 : goal.returns-then-n-ge100000000
returns-then-n-ge100000000 c = sym (c.loop-c.invariant ∙ number_large c.args.text.now c.loop-c.c-index c.loop-c.n c.loop-c-test.true c.in_ok-d.d c.in_ok-d.ensures.value c.if-n-ge100000000.true)

pub returns : goal.returns
returns c = sym (c.loop-c.invariant ∙ number_all c.args.text.now c.loop-c.c-index c.loop-c.n c.loop-c-test.false)
