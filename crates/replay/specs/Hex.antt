-- Bytes as text: two lower-case hex digits to a byte, and `-` for no bytes.
use Rattle.std.specs.Prelude.{◌≡◌, ℕ, ◌+◌, ◌-◌, ◌*◌, ◌/◌, ◌%◌, ◌<◌, cond, ◌&&◌, List, [], ◌∷◌, Some, None, Option, nat_le, nat_lt}
use Rattle.std.specs.List.{flat_map, AllByRecursion}
use Rattle.std.specs.Str.{bytes_eq}

-- 0 to 9 and a to f
abbrev pub digit : ℕ → ℕ
digit n = cond (nat_lt n 10) (48 + n) (87 + n)

abbrev pub digit_value : ℕ → Option ℕ
digit_value c = cond (nat_le 48 c && nat_le c 57) (Some (c - 48)) (cond (nat_le 97 c && nat_le c 102) (Some (c - 87)) None)

abbrev pub digits : ℕ → List ℕ
digits b = digit (b / 16) ∷ digit (b % 16) ∷ []

abbrev pub hex : List ℕ → List ℕ
hex [] = 45 ∷ []
hex (b ∷ bs) = flat_map digits (b ∷ bs)

abbrev pub byte_of : Option ℕ → Option ℕ → Option ℕ
byte_of None d = None
byte_of (Some h) None = None
byte_of (Some h) (Some l) = Some (h * 16 + l)

abbrev pub before : Option ℕ → Option (List ℕ) → Option (List ℕ)
before None bs = None
before (Some b) None = None
before (Some b) (Some bs) = Some (b ∷ bs)

-- the bytes of hex digits, two to a byte
abbrev pub bytes_of : List ℕ → Option (List ℕ)
bytes_of [] = Some []
bytes_of (c ∷ []) = None
bytes_of (c ∷ d ∷ t) = before (byte_of (digit_value c) (digit_value d)) (bytes_of t)

-- the bytes of an argument
abbrev pub unhex : List ℕ → Option (List ℕ)
unhex [] = None
unhex (c ∷ t) = cond (bytes_eq (c ∷ t) (45 ∷ [])) (Some []) (bytes_of (c ∷ t))

-- what is printed can be read again
abbrev pub HexReadsBack : Type 0
HexReadsBack = (bs : List ℕ) → AllByRecursion (λ b. b < 256) bs → unhex (hex bs) ≡ Some bs
