-- Where a fault of a roll stands.
use Rattle.std.specs.Prelude.{ℕ}
use Rattle.roll.specs.declared.fault.RollFault.{RollFault}
use Rattle.roll.specs.declared.fault.RollFault.TheVariants.{Count, Length, LeftOver, InText}

abbrev pub roll_place : RollFault → ℕ
roll_place (Count at) = at
roll_place (Length at) = at
roll_place (LeftOver at) = at
roll_place (InText f) = f.place
