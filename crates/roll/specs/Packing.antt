-- How texts are packed: a roll is a two-byte count, then each text as a two-byte length and its bytes.
use Rattle.std.specs.Prelude.{ℕ, ◌/◌, ◌%◌, List, [], ◌∷◌, ◌++◌, length}
use Rattle.std.specs.List.{flat_map}
use Rattle.address.specs.Text.{Text}

-- a number in two bytes, the high one first
abbrev pub word : ℕ → List ℕ
word n = n / 256 ∷ n % 256 ∷ []

abbrev pub pack_text : Text → List ℕ
pack_text t = word (length t) ++ t

unfoldable pub pack_texts : List Text → List ℕ
pack_texts ts = flat_map pack_text ts

abbrev pub pack_roll : List Text → List ℕ
pack_roll ts = word (length ts) ++ pack_texts ts
