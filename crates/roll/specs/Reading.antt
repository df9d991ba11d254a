-- The texts of a packed roll, read from any bytes: the reading stops at the first text that is not all there.
use Rattle.std.specs.Prelude.{ℕ, zero, suc, ◌+◌, cond, List, [], ◌∷◌, length, take, drop, Some, None, Ok, Err, Option, Result}
use Rattle.address.specs.Text.{Text, text_fault}
use Rattle.address.specs.declared.text.TextFault.{TextFault}
use Rattle.roll.specs.declared.fault.RollFault.{RollFault}
use Rattle.roll.specs.declared.fault.RollFault.TheVariants.{InText}
use Rattle.roll.specs.Ends.{word_at, there}

-- the first text and what follows it
abbrev pub read_text : List ℕ → Option (Text × List ℕ)
read_text bs = cond (there bs 0 2) (cond (there bs 0 (2 + word_at bs 0)) (Some (take (word_at bs 0) (drop 2 bs), drop (2 + word_at bs 0) bs)) None) None

abbrev pub follow : Option (Text × List ℕ) → (List ℕ → List Text) → List Text
follow None next = []
follow (Some p) next = p.0 ∷ next p.1

-- at most n texts
unfoldable pub texts_from : ℕ → List ℕ → List Text
texts_from zero bs = []
texts_from (suc n) bs = follow (read_text bs) (texts_from n)

abbrev pub texts_at : List ℕ → ℕ → List Text
texts_at bs at = cond (there bs at 2) (texts_from (word_at bs at) (drop (at + 2) bs)) []

abbrev pub texts : List ℕ → List Text
texts bs = texts_at bs 0

-- a text's fault, carried whole, or else what follows
abbrev pub carried : Result (Unit {0}) TextFault → Result (Unit {0}) RollFault → Result (Unit {0}) RollFault
carried (Ok u) next = next
carried (Err f) next = Err (InText f)

-- the first byte that no text may hold, of texts that are packed one after another from a place on
unfoldable pub texts_fault : ℕ → List Text → Result (Unit {0}) RollFault
texts_fault at [] = Ok tt
texts_fault at (t ∷ ts) = carried (text_fault (at + 2) t) (texts_fault (at + (2 + length t)) ts)
