-- How long a packed roll is, or why texts make none, and what a tray holds once it is written.
use Rattle.std.specs.Prelude.{ℕ, Bool, cond, List, length, Some, None, Ok, Err, Option, Result, nat_le, nat_lt}
use Rattle.address.specs.Text.{Text, first_place}
use Rattle.roll.specs.declared.write.WriteFault.{WriteFault}
use Rattle.roll.specs.declared.write.WriteFault.TheVariants.{Count, Length, Tray}
use Rattle.roll.specs.Ends.{after}
use Rattle.roll.specs.Packing.{pack_roll}
use Rattle.roll.specs.Written.{written}

-- longer than two bytes can say
abbrev pub too_long : Text → Bool
too_long t = nat_le 65536 (length t)

abbrev pub unless_long : Option ℕ → ℕ → Result ℕ WriteFault
unless_long None n = Ok n
unless_long (Some i) n = Err (Length i)

-- the length of the packed roll: a roll has a count and lengths that two bytes hold
abbrev pub roll_size : List Text → Result ℕ WriteFault
roll_size ts = cond (nat_lt (length ts) 65536) (unless_long (first_place too_long ts) (length (pack_roll ts))) (Err (Count (length ts)))

-- the same, where it fits into a tray
abbrev pub write_size : List Text → List ℕ → Result ℕ WriteFault
write_size ts d = after (roll_size ts) (λ n. cond (nat_lt (length d) n) (Err (Tray n)) (Ok n))

-- the roll at the front of the tray, and a refusal leaves the tray as it was
abbrev pub rolled : Result ℕ WriteFault → List Text → List ℕ → List ℕ
rolled (Ok n) ts d = written d 0 (pack_roll ts)
rolled (Err f) ts d = d
