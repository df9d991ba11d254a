use Rattle.std.proofs.Common.{◌≡◌, ◌&&◌, [], map, drop}
use Rattle.audience.specs.Mail.{mailable}
use Rattle.mail.specs.Parts.{text_in}
use Rattle.mail.specs.Tables.{filled}
use Rattle.mail.specs.Letters.{letter}
use Rattle.recipients.specs.Choices.{qualifies_by, to_marks}
use Rattle.recipients.specs.Policies.{keys_in, granted_in}
use Rattle.recipients.proofs.policies.Policies.mark_to.Given as goal

-- what is left to mark
abbrev pub invariant-loop-mailbox : goal.invariant-loop-mailbox
invariant-loop-mailbox l =
    filled 513 l.marks.items (map (λ t. qualifies_by (keys_in l.self) (letter l.mail) (granted_in l.self) l.individuals t && mailable (letter l.mail) t) (map text_in (drop l.mailbox-index l.mailbox-items)))
    ≡ filled 513 [] (to_marks (keys_in l.self) (letter l.mail) (granted_in l.self) l.individuals)
