use Rattle.std.proofs.Common.{rules}
use Rattle.address.proofs.Quotes.{told_outside, told_inside}
use Rattle.address.proofs.scanner.unclosed.Goals as goal
use Rattle.address.proofs.scanner.unclosed.Goals.{then-eq, else-eq}

pub loop-i-preserved : goal.loop-i-preserved
loop-i-preserved c =
    elim c.if-eq.branch [
      | then-eq w ↦ let t = told_outside c.args.text.now c.loop-i.state c.loop-i.i c.loop-i.opened c.loop-i-test.true (search rules) in cc
      | else-eq w ↦ let t = told_inside c.args.text.now c.loop-i.state c.loop-i.i c.loop-i.opened c.loop-i-test.true (search rules) in cc
    ]
