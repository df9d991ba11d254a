-- Mailboxes: texts with the address in each.
use Rattle.std.specs.Prelude.{ℕ, ◌<◌, List, [], map, length, slice_index_or}
use Rattle.address.specs.Text.{Text}
use Rattle.mail.specs.declared.mailbox.Mailbox.{Mailbox}

abbrev pub text_in : Mailbox → Text
text_in m = m.text.now

-- none is longer than two bytes can say
abbrev pub Short : List Mailbox → Type 0
Short ms = (k : ℕ) → length (slice_index_or (map text_in ms) k []) < 65536
