use Rattle.std.proofs.Common.{◌≡◌, ◌+◌, [], map, length}
use Rattle.address.specs.Address.{same_bare}
use Rattle.keep_first.specs.Keep.{some}
use Rattle.audience.specs.Mail.{incoming}
use Rattle.mail.specs.Letters.{letter, texts}
use Rattle.mail.specs.Parts.{text_in}
use Rattle.mail.specs.Tables.{filled}
use Rattle.grants.proofs.lists.find_named.Given as goal

-- what is left to mark, and the room for it
abbrev pub invariant-loop-key : goal.invariant-loop-key
invariant-loop-key g l =
    (filled g.row.N l.marks.items (map (λ k. some (same_bare k) (incoming (letter l.mail))) (map text_in l.key-iterator.iter.rest.now))
    ≡ filled g.row.N [] (map (λ k. some (same_bare k) (incoming (letter l.mail))) (texts l.keys)))
    × (length l.marks.items + l.key-iterator.n ≡ g.row.N)
