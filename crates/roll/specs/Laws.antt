-- The law of the format, both ways: bytes are accepted exactly when texts within the limits pack to them, and the reading gives those texts.
use Rattle.std.specs.Prelude.{◌≡◌, ℕ, ◌+◌, ◌<◌, ◌≤◌, List, ◌++◌, length, take, drop, Ok, slice_index}
use Rattle.std.specs.List.{AllByRecursion}
use Rattle.address.specs.Text.{Text}
use Rattle.roll.specs.declared.limits.Limits.{Limits}
use Rattle.roll.specs.Packing.{pack_roll}
use Rattle.roll.specs.Ends.{roll_end}
use Rattle.roll.specs.Reading.{texts_at}
use Rattle.roll.specs.Written.{written}

-- each is a byte
abbrev pub Bytes : List ℕ → Type 0
Bytes bs = (i : ℕ) → slice_index bs i < 256

-- the bytes p stand in bs from place a up to place e
pub record Stands (bs : List ℕ) (a : ℕ) (p : List ℕ) (e : ℕ) : Type 0 where
  pub here : drop a bs ≡ p ++ drop e bs
  pub long : a + length p ≡ e
  pub within : e ≤ length bs

-- texts within the limits
pub record Within (l : Limits) (ts : List Text) : Type 0 where
  pub least : l.least ≤ length ts
  pub most : length ts ≤ l.most
  pub longest : AllByRecursion (λ t. length t ≤ l.longest) ts

abbrev pub ReadsRolls : Type 0
ReadsRolls = (l : Limits) (bs : List ℕ) (a e : ℕ) → Bytes bs → roll_end l bs a ≡ Ok e → Stands bs a (pack_roll (texts_at bs a)) e × Within l (texts_at bs a)

abbrev pub PacksRolls : Type 0
PacksRolls = (l : Limits) (bs : List ℕ) (a e : ℕ) (ts : List Text) → Within l ts → Stands bs a (pack_roll ts) e → (roll_end l bs a ≡ Ok e) × (texts_at bs a ≡ ts)

-- the bytes are the packed roll of these texts
pub record Packed (l : Limits) (bs : List ℕ) (ts : List Text) : Type 0 where
  pub within : Within l ts
  pub packed : pack_roll ts ≡ bs

-- what has been written over a list stands there, and every other place is as it was
abbrev pub WritesRows : Type 0
WritesRows = (d row : List ℕ) (i : ℕ) → i + length row ≤ length d → Stands (written d i row) i row (i + length row) × (written d i row ≡ take i d ++ (row ++ drop (i + length row) d))
