use Rattle.std.proofs.Common.{sym, ◌∙◌, arith}
use Rattle.roll.proofs.Readings.{texts_uncounted}
use Rattle.email_policy.proofs.OwnTexts.{own_none, seek_goes, seek_hits, seek_stops, seek_ends}
use Rattle.email_policy.proofs.questions.own_text.Goals as goal

pub returns-in_err-count : goal.returns-in_err-count
returns-in_err-count c = c.from_residual.ensures ∙ own_none _ _ _ (texts_uncounted c.args.bytes.now c.args.at c.in_err-count.ensures)

pub returns-in_err-text : goal.returns-in_err-text
returns-in_err-text c = c.from_residual-in_err-text.ensures ∙ seek_stops c.loop.invariant (omega arith) c.in_err-text.ensures

pub returns-then-same_bare : goal.returns-then-same_bare
returns-then-same_bare c = seek_hits c.loop.invariant c.in_ok-text.text.now c.in_ok-text.more.now (omega arith) c.in_ok-text.ensures (sym c.if-same_bare.ensures)

pub loop-preserved : goal.loop-preserved
loop-preserved c = seek_goes c.loop.invariant c.in_ok-text.text.now c.in_ok-text.more.now (omega arith) c.in_ok-text.ensures (sym c.if-same_bare.ensures)

pub returns : goal.returns
returns c = seek_ends c.loop.invariant (omega arith)
