-- Where each part of a packed roll ends, or its leftmost fault. A part is read from a place in the whole list of bytes
-- to the place after it, so that places need no translation.
use Rattle.std.specs.Prelude.{ℕ, zero, suc, ◌+◌, ◌*◌, Bool, cond, ◌&&◌, List, length, Some, None, Ok, Err, Option, Result, nat_le, nat_lt, slice_index}
use Rattle.roll.specs.declared.fault.RollFault.{RollFault}
use Rattle.roll.specs.declared.fault.RollFault.TheVariants.{Count, Length, LeftOver}
use Rattle.roll.specs.declared.limits.Limits.{Limits}

abbrev pub End : Type 0
End = Result ℕ RollFault

-- what follows a part that ended
abbrev pub after : {X E : Type 0} → Result ℕ E → (ℕ → Result X E) → Result X E
after (Ok at) next = next at
after (Err f) next = Err f

-- the number in two bytes, the high one first
abbrev pub word_at : List ℕ → ℕ → ℕ
word_at bs at = slice_index bs at * 256 + slice_index bs (at + 1)

-- the n bytes from a place on are all there
abbrev pub there : List ℕ → ℕ → ℕ → Bool
there bs at n = nat_le (at + n) (length bs)

-- the number in the two bytes at a place, where they are there
abbrev pub read_word : List ℕ → ℕ → Option ℕ
read_word bs at = cond (there bs at 2) (Some (word_at bs at)) None

-- a text: its length is there and within the limit, and so are its bytes
abbrev pub text_end : Limits → List ℕ → ℕ → End
text_end l bs at =
    cond (there bs at 2 && (nat_le (word_at bs at) l.longest && there bs at (2 + word_at bs at)))
    (Ok (at + (2 + word_at bs at)))
    (Err (Length at))

-- n texts
unfoldable pub texts_end : Limits → ℕ → List ℕ → ℕ → End
texts_end l zero bs at = Ok at
texts_end l (suc n) bs at = after (text_end l bs at) (texts_end l n bs)

-- a roll: its count is there and within the limits, and so is each text
abbrev pub roll_end : Limits → List ℕ → ℕ → End
roll_end l bs at =
    cond (there bs at 2 && (nat_le l.least (word_at bs at) && nat_le (word_at bs at) l.most))
    (texts_end l (word_at bs at) bs (at + 2))
    (Err (Count at))

-- a part that ends at e is all of the bytes: nothing is left over
abbrev pub filled : {E : Type 0} → (ℕ → E) → List ℕ → ℕ → Result (Unit {0}) E
filled left_over bs e = cond (nat_lt e (length bs)) (Err (left_over e)) (Ok tt)

-- the limits of a roll of incoming addresses
abbrev pub incoming : Limits
incoming = record { least = 0; most = 512; longest = 998 }

-- a roll that is all of its slice
abbrev pub whole : Limits → List ℕ → Result (Unit {0}) RollFault
whole l bs = after (roll_end l bs 0) (filled LeftOver bs)
