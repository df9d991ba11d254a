use Rattle.std.proofs.Common.{sym, ap, ◌∙◌}
use Rattle.std.proofs.lemmas.Bool.{and_left, and_right}
use Rattle.address.specs.Address.{address_part, same_bare}
use Rattle.keep_first.specs.Keep.{some}
use Rattle.mail.specs.Addresses.{same_part}
use Rattle.mail.specs.Letters.{letter, texts}
use Rattle.grants.proofs.Addressed.{author_text}
use Rattle.recipients.specs.Choices.{listed_by}
use Rattle.recipients.specs.Policies.{keys_in, granted_in}
use Rattle.recipients.proofs.Counting.{uncounted_bot, uncounted_author, counted_unless_copied}
use Rattle.recipients.proofs.policies.Policies.is_counted.Goals as goal
use Rattle.recipients.proofs.policies.Policies.is_counted.Goals.{else-self-via-then-self+else-same_bare-2, else-self-via-else-self}

pub returns-then-same_bare : goal.returns-then-same_bare
unfolding letter
returns-then-same_bare c = uncounted_bot (listed_by (keys_in c.args.self.now)) (letter c.args.mail.now) (granted_in c.args.self.now) c.args.mailbox.now.text.now (sym c.if-same_bare.ensures)

pub returns-then-same_bare-2 : goal.returns-then-same_bare-2
returns-then-same_bare-2 c =
    uncounted_author (listed_by (keys_in c.args.self.now)) (letter c.args.mail.now) (granted_in c.args.self.now) c.args.mailbox.now.text.now c.if-self.true
    (ap (λ t. same_bare t c.args.mailbox.now.text.now) (sym (author_text c.args.mail.now _)) ∙ sym c.if-same_bare-2.ensures)

pub returns : goal.returns
unfolding letter
returns c =
    counted_unless_copied (listed_by (keys_in c.args.self.now)) (letter c.args.mail.now) (granted_in c.args.self.now) c.args.mailbox.now.text.now c.has.result
    (sym c.if-is_nobody.ensures) (sym c.if-same_bare.ensures)
    (elim c.else-self.branch [
      | else-self-via-then-self+else-same_bare-2 w ↦ and_right _ _ (ap (λ t. same_bare t c.args.mailbox.now.text.now) (sym (author_text c.args.mail.now _)) ∙ sym w.if-same_bare-2.ensures)
      | else-self-via-else-self w ↦ and_left _ _ w.if-self.false
    ])
    (sym c.if-is_list_address.ensures)
    (c.has.ensures ∙ ap (λ u. some (λ k. same_part u (address_part k)) (texts c.args.self.now.grant.cc)) c.part.ensures)
