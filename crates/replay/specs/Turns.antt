-- What the parts of a turn leave.
use Rattle.std.specs.Prelude.{◌≡◌, ℕ, List, Ok, Err, vec_items, Result}
use Rattle.std.specs.Option.{option_map}
use Rattle.email_policy.specs.Lawful.{pack_book}
use Rattle.packed_book.specs.Ends.{whole_book}
use Rattle.packed_book.specs.Reading.{read_book}
use Rattle.packed_book.specs.Writing.{write_answer, write_tray}
use Rattle.packed_book.specs.declared.fault.OpenFault.{OpenFault}
use Rattle.packed_book.specs.declared.write.TrayTooShort.{TrayTooShort}
use Rattle.replay.specs.Lines.{State, Given, Shown}
use Rattle.replay.specs.declared.line.Printed.{Printed}
use Rattle.replay.specs.declared.line.Session.{Session}

abbrev pub opened : Session → State
opened s = option_map vec_items s.packed

-- a text that is printed, and the book that is open then
abbrev pub gives : List ℕ → Session → Given
gives text s = record { printed = text; state = opened s }

-- so it is shown
abbrev pub Shows : Printed → Session → Shown → Type 0
Shows p session s = (p.outcome ≡ s.outcome) × (vec_items p.text ≡ s.added) × (opened session ≡ s.state)

abbrev pub WrittenOut : List ℕ → List ℕ → List ℕ → Result (Result ℕ TrayTooShort) OpenFault → Type 0
WrittenOut bs tray tray' (Ok a) = (whole_book bs ≡ Ok tt) × (a ≡ write_answer (pack_book (read_book bs)) tray) × (tray' ≡ write_tray (pack_book (read_book bs)) tray)
WrittenOut bs tray tray' (Err f) = whole_book bs ≡ Err f
