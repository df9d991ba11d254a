use Rattle.std.proofs.Common.{rules}
use Rattle.address.proofs.Faults.{fault_here, fault_none}
use Rattle.address.proofs.text.check_text_within.Goals as goal

pub returns-in-Some : goal.returns-in-Some
returns-in-Some c = search (rules, fault_here)

pub returns-in-None : goal.returns-in-None
returns-in-None c = search (rules, fault_none)
