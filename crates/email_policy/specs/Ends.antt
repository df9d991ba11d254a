-- Where each part of a packed record ends, or its leftmost fault.
use Rattle.std.specs.Prelude.{ℕ, ◌+◌, ◌%◌, Bool, true, false, cond, not, ◌&&◌, ◌||◌, List, length, Ok, Err, Result, ◌==◌, nat_le, nat_lt, slice_index}
use Rattle.roll.specs.Ends.{after, filled, roll_end}
use Rattle.roll.specs.Faults.{roll_place}
use Rattle.roll.specs.declared.fault.RollFault.{RollFault}
use Rattle.roll.specs.declared.limits.Limits.{Limits}
use Rattle.email_policy.specs.Numbers.{has_bit}
use Rattle.email_policy.specs.declared.fault.RecordFault.{RecordFault}
use Rattle.email_policy.specs.declared.fault.RecordFault.TheVariants.{Field, InRoll, TooLong, LeftOver}

abbrev pub RecordEnd : Type 0
RecordEnd = Result ℕ RecordFault

-- a roll in a record has 1 to 32 texts, with no limit to their length but the record's
abbrev pub in_record : Limits
in_record = record { least = 1; most = 32; longest = 65535 }

-- a field byte, at most max
abbrev pub byte_end : ℕ → List ℕ → ℕ → RecordEnd
byte_end max bs at = cond (nat_lt at (length bs) && nat_le (slice_index bs at) max) (Ok (at + 1)) (Err (Field at))

abbrev pub in_roll : Result ℕ RollFault → RecordEnd
in_roll (Ok e) = Ok e
in_roll (Err f) = Err (InRoll f)

abbrev pub part_end : List ℕ → ℕ → RecordEnd
part_end bs at = in_roll (roll_end in_record bs at)

-- the bit map: no unknown bit, and in the defaults the first three
abbrev pub map_end : Bool → List ℕ → ℕ → RecordEnd
map_end full bs at = cond (nat_lt at (length bs) && (nat_lt (slice_index bs at) 32 && (not full || slice_index bs at % 8 == 7))) (Ok (at + 1)) (Err (Field at))

-- a part that is there only if its bit stands
abbrev pub if_bit : Bool → (List ℕ → ℕ → RecordEnd) → List ℕ → ℕ → RecordEnd
if_bit true part bs at = part bs at
if_bit false part bs at = Ok at

abbrev pub fields_end : Bool → List ℕ → ℕ → RecordEnd
fields_end full bs at =
    after (map_end full bs at) (λ a.
    after (if_bit (has_bit (slice_index bs at) 1) (byte_end 7) bs a) (λ b.
    after (if_bit (has_bit (slice_index bs at) 2) (byte_end 2) bs b) (λ c.
    after (if_bit (has_bit (slice_index bs at) 4) (byte_end 1) bs c) (λ d.
    after (if_bit (has_bit (slice_index bs at) 8) part_end bs d) (λ e.
    if_bit (has_bit (slice_index bs at) 16) part_end bs e)))))

abbrev pub record_place : RecordFault → ℕ
record_place (Field p) = p
record_place (InRoll f) = roll_place f
record_place (TooLong p) = p
record_place (LeftOver p) = p

abbrev pub longest_record : ℕ
longest_record = 1024

-- the limit is a fault at its own place, where a byte stands there: the leftmost of it and what was found
abbrev pub capped : ℕ → ℕ → RecordEnd → RecordEnd
capped size limit (Ok e) = cond (nat_le e limit) (Ok e) (Err (TooLong limit))
capped size limit (Err f) = cond (nat_lt limit size && nat_le limit (record_place f)) (Err (TooLong limit)) (Err f)

-- a record that begins at this place, whatever follows it
abbrev pub record_end : Bool → List ℕ → ℕ → RecordEnd
record_end full bs at = capped (length bs) (at + longest_record) (fields_end full bs at)

-- a record that is all of its slice
abbrev pub whole_record : Bool → List ℕ → Result (Unit {0}) RecordFault
whole_record full bs = after (record_end full bs 0) (filled LeftOver bs)
