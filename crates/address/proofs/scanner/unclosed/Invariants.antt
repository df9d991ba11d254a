use Rattle.std.proofs.Common.{◌≡◌, drop}
use Rattle.address.specs.declared.scanner.Scanner.TheVariants.{Outside}
use Rattle.address.specs.Quoted.{before_unclosed}
use Rattle.address.proofs.Quotes.{told}
use Rattle.address.proofs.scanner.unclosed.Given as goal

abbrev pub invariant-loop-i : goal.invariant-loop-i
invariant-loop-i l = before_unclosed Outside l.text ≡ told (drop l.i l.text) l.state l.i l.opened
