use Rattle.std.proofs.Common.{◌+◌, ◌-◌, ◌&&◌, Bool, [], ◌∷◌, map, sym, refl, ap, ◌∙◌, arith}
use Rattle.std.proofs.lemmas.List.{take_all}
use Rattle.address.specs.Text.{Text}
use Rattle.audience.specs.Mail.{mailable}
use Rattle.mail.specs.Tables.{filled}
use Rattle.mail.proofs.Held.{filled_turn}
use Rattle.mail.specs.Letters.{letter}
use Rattle.recipients.specs.Choices.{qualifies_by, to_marks}
use Rattle.recipients.specs.Policies.{keys_in, granted_in}
use Rattle.recipients.proofs.Marking.{mark_turn, mark_end, length-to_marks}
use Rattle.recipients.proofs.People.{to_texts_behind}
use Rattle.recipients.proofs.policies.Policies.mark_to.Goals as goal

pub loop-mailbox-init : goal.loop-mailbox-init
unfolding to_marks
loop-mailbox-init c =
    let author : Bool = (granted_in c.args.self.now).author && mailable (letter c.args.mail.now) (letter c.args.mail.now).author in
    let passes : Text → Bool = λ t. qualifies_by (keys_in c.args.self.now) (letter c.args.mail.now) (granted_in c.args.self.now) c.args.individuals t && mailable (letter c.args.mail.now) t in
    filled_turn 513 [] c.push_within.new.table.items (to_marks (keys_in c.args.self.now) (letter c.args.mail.now) (granted_in c.args.self.now) c.args.individuals) _ _ (author ∷ [])
    (c.push_within.ensures ∙ (λ i. filled 513 (c.new-marks.ensures i) (c.mails_author.ensures i ∷ [])))
    (ap (λ ts. author ∷ map passes ts) (sym (to_texts_behind c.args.mail.now (c.args.mail.now.to + 1 - 1) (omega arith)))) refl

pub loop-mailbox-preserved : goal.loop-mailbox-preserved
loop-mailbox-preserved c =
    mark_turn 513 (λ t. qualifies_by (keys_in c.args.self.now) (letter c.args.mail.now) (granted_in c.args.self.now) c.args.individuals t && mailable (letter c.args.mail.now) t) _
    c.loop-mailbox.mailbox-index c.loop-mailbox.marks.items _
    c.mailbox-item.result c.push_within-in-loop-mailbox.new.table.items c.takes_part_in_to-in_to.result c.loop-mailbox-test.true c.mailbox-item.is c.takes_part_in_to-in_to.ensures c.push_within-in-loop-mailbox.ensures c.loop-mailbox.invariant

pub returns : goal.returns
returns c =
    mark_end 513 (λ t. qualifies_by (keys_in c.args.self.now) (letter c.args.mail.now) (granted_in c.args.self.now) c.args.individuals t && mailable (letter c.args.mail.now) t) _
    c.loop-mailbox.mailbox-index c.loop-mailbox.marks.items _ c.loop-mailbox-test.false c.loop-mailbox.invariant
    ∙ take_all 513 (to_marks (keys_in c.args.self.now) (letter c.args.mail.now) (granted_in c.args.self.now) c.args.individuals)
    (omega (arith, length-to_marks (keys_in c.args.self.now) c.args.mail.now (granted_in c.args.self.now) c.args.individuals, c.args.mail.now.few_to))
