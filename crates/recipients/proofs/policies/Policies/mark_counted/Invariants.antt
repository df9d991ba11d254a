use Rattle.std.proofs.Common.{◌≡◌, [], map, drop}
use Rattle.audience.specs.Due.{counts}
use Rattle.audience.specs.Mail.{incoming}
use Rattle.mail.specs.Parts.{text_in}
use Rattle.mail.specs.Tables.{filled}
use Rattle.mail.specs.Letters.{letter}
use Rattle.recipients.specs.Choices.{listed_by}
use Rattle.recipients.specs.Policies.{keys_in, granted_in}
use Rattle.recipients.proofs.policies.Policies.mark_counted.Given as goal

-- what is left to mark
abbrev pub invariant-loop-mailbox : goal.invariant-loop-mailbox
invariant-loop-mailbox l =
    filled 1024 l.marks.items (map (counts (listed_by (keys_in l.self)) (letter l.mail) (granted_in l.self)) (map text_in (drop l.mailbox-index l.mailbox-items)))
    ≡ filled 1024 [] (map (counts (listed_by (keys_in l.self)) (letter l.mail) (granted_in l.self)) (incoming (letter l.mail)))
