use Rattle.std.proofs.Common.{◌≡◌, ◌-◌, drop}
use Rattle.address.specs.Quoted.{first_outside}
use Rattle.address.proofs.Places.{from}
use Rattle.address.proofs.Quotes.{place, seen_from}
use Rattle.address.proofs.scanner.find_outside.Given as goal

abbrev pub invariant-loop-i : goal.invariant-loop-i
invariant-loop-i l = first_outside l.c l.text ≡ from l.i (place l.c (seen_from (drop l.i l.text) l.state (l.ordinary - l.i)))
