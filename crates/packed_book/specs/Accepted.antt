-- What an accepted book says, and that its policy is lawful. A policy source cites this, so it stands with the definitions.
use Rattle.std.specs.Prelude.{◌≡◌, ℕ, true, List, is_ok, Ok, Err, Result, refl}
use Rattle.std.proofs.Common.{arith}
use Rattle.roll.specs.Laws.{Bytes}
use Rattle.email_policy.specs.Lawful.{Lawful}
use Rattle.packed_book.specs.declared.fault.OpenFault.{OpenFault}
use Rattle.packed_book.specs.Ends.{whole_book}
use Rattle.packed_book.specs.Reading.{read_book}
use Rattle.packed_book.specs.Views.{accepts}
use Rattle.packed_book.specs.BookReads.{Opened, opened, reads_book}

unit_ok : (r : Result (Unit {0}) OpenFault) → is_ok r ≡ true → r ≡ Ok tt
unit_ok (Ok u) h = refl
unit_ok (Err f) h = let z : ◌≡◌ {A = ℕ} 0 1 = cc in absurd (omega arith)

module _ (bs : List ℕ) where
  pub accepted : accepts bs ≡ true → whole_book bs ≡ Ok tt
  accepted h = unit_ok (whole_book bs) h

  pub book_opened : Bytes bs → accepts bs ≡ true → Opened bs
  book_opened b h = opened bs b (accepted h)

  pub book_lawful : Bytes bs → accepts bs ≡ true → Lawful (read_book bs)
  book_lawful b h = (reads_book bs b (accepted h)).lawful
