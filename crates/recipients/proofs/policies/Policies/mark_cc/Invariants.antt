use Rattle.std.proofs.Common.{◌≡◌, ◌&&◌, [], ◌∷◌, ◌++◌, map, drop}
use Rattle.mail.specs.Letters.{letter, texts}
use Rattle.mail.specs.Marks.{marked}
use Rattle.mail.specs.Parts.{text_in}
use Rattle.mail.specs.Tables.{filled}
use Rattle.recipients.specs.Choices.{qualifies_by, apart, cc_marks}
use Rattle.recipients.specs.Policies.{keys_in, granted_in}
use Rattle.recipients.proofs.policies.Policies.mark_cc.Given as goal

-- what is left to mark: of Cc, and then of the cc texts
abbrev pub invariant-loop-mailbox : goal.invariant-loop-mailbox
invariant-loop-mailbox l =
    filled 8736 l.marks.items
    (map (λ t. qualifies_by (keys_in l.self) (letter l.mail) (granted_in l.self) l.individuals t && apart (keys_in l.self) (letter l.mail) (granted_in l.self) l.individuals (marked l.to ((letter l.mail).author ∷ (letter l.mail).to)) t) (map text_in (drop l.mailbox-index l.mailbox-items))
    ++ map (apart (keys_in l.self) (letter l.mail) (granted_in l.self) l.individuals (marked l.to ((letter l.mail).author ∷ (letter l.mail).to))) (texts l.self.grant.cc))
    ≡ filled 8736 [] (cc_marks (keys_in l.self) (letter l.mail) (granted_in l.self) l.individuals (marked l.to ((letter l.mail).author ∷ (letter l.mail).to)))

abbrev pub invariant-loop-mailbox-2 : goal.invariant-loop-mailbox-2
invariant-loop-mailbox-2 l =
    filled 8736 l.marks.items
    (map (apart (keys_in l.self) (letter l.mail) (granted_in l.self) l.individuals (marked l.to ((letter l.mail).author ∷ (letter l.mail).to))) (map text_in (drop l.mailbox-index l.self.grant.cc.entries.now)))
    ≡ filled 8736 [] (cc_marks (keys_in l.self) (letter l.mail) (granted_in l.self) l.individuals (marked l.to ((letter l.mail).author ∷ (letter l.mail).to)))
