-- The law of packed books, both ways: bytes are accepted exactly when a lawful policy packs to them, and are read back as it.
use Rattle.std.specs.Prelude.{◌≡◌, ℕ, List, Ok}
use Rattle.roll.specs.Laws.{Bytes}
use Rattle.email_policy.specs.Lawful.{Lawful, pack_book}
use Rattle.email_policy.specs.Policy.{Policy}
use Rattle.packed_book.specs.Ends.{whole_book}
use Rattle.packed_book.specs.Reading.{read_book}

-- the bytes are the packed book of this policy
pub record Packed (bs : List ℕ) (p : Policy) : Type 0 where
  pub lawful : Lawful p
  pub packed : pack_book p ≡ bs

abbrev pub ReadsBooks : Type 0
ReadsBooks = (bs : List ℕ) → Bytes bs → whole_book bs ≡ Ok tt → Packed bs (read_book bs)

abbrev pub PacksBooks : Type 0
PacksBooks = (bs : List ℕ) (p : Policy) → Packed bs p → (whole_book bs ≡ Ok tt) × (read_book bs ≡ p)

-- an accepted book, read and packed again, is the same bytes
abbrev pub WrittenBack : Type 0
WrittenBack = (bs : List ℕ) → Bytes bs → whole_book bs ≡ Ok tt → pack_book (read_book bs) ≡ bs
