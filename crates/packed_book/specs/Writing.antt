-- What writing a book out gives: its length, or the length that is needed; and what the tray then holds.
use Rattle.std.specs.Prelude.{ℕ, cond, List, ◌++◌, length, drop, Ok, Err, Result, nat_le}
use Rattle.packed_book.specs.declared.write.TrayTooShort.{TrayTooShort}

abbrev pub write_answer : List ℕ → List ℕ → Result ℕ TrayTooShort
write_answer book tray = cond (nat_le (length book) (length tray)) (Ok (length book)) (Err (record { needed = length book }))

abbrev pub write_tray : List ℕ → List ℕ → List ℕ
write_tray book tray = cond (nat_le (length book) (length tray)) (book ++ drop (length book) tray) tray
