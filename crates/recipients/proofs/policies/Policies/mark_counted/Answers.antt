use Rattle.std.proofs.Common.{Bool, map, ◌∙◌, arith}
use Rattle.std.proofs.lemmas.List.{length-map, take_all}
use Rattle.address.specs.Text.{Text}
use Rattle.audience.specs.Due.{counts}
use Rattle.audience.specs.Mail.{incoming}
use Rattle.mail.specs.Tables.{filled}
use Rattle.mail.specs.Letters.{letter}
use Rattle.recipients.specs.Choices.{listed_by}
use Rattle.recipients.specs.Policies.{keys_in, granted_in}
use Rattle.recipients.proofs.Marking.{mark_turn, mark_end}
use Rattle.recipients.proofs.People.{length-people, length-incoming, incoming_texts}
use Rattle.recipients.proofs.policies.Policies.mark_counted.Goals as goal

pub loop-mailbox-init : goal.loop-mailbox-init
loop-mailbox-init c =
    let counted : Text → Bool = counts (listed_by (keys_in c.args.self.now)) (letter c.args.mail.now) (granted_in c.args.self.now) in
    (λ i. filled 1024 (c.new-marks.ensures i) (map counted (incoming_texts c.args.mail.now i)))

pub loop-mailbox-preserved : goal.loop-mailbox-preserved
loop-mailbox-preserved c =
    mark_turn 1024 (counts (listed_by (keys_in c.args.self.now)) (letter c.args.mail.now) (granted_in c.args.self.now)) _ c.loop-mailbox.mailbox-index c.loop-mailbox.marks.items _
    c.mailbox-item.result c.push_within.new.table.items c.is_counted.result c.loop-mailbox-test.true c.mailbox-item.is c.is_counted.ensures c.push_within.ensures c.loop-mailbox.invariant

pub returns : goal.returns
returns c =
    let counted : Text → Bool = counts (listed_by (keys_in c.args.self.now)) (letter c.args.mail.now) (granted_in c.args.self.now) in
    mark_end 1024 counted _ c.loop-mailbox.mailbox-index c.loop-mailbox.marks.items _ c.loop-mailbox-test.false c.loop-mailbox.invariant
    ∙ take_all 1024 (map counted (incoming (letter c.args.mail.now)))
    (omega (arith, length-map (incoming (letter c.args.mail.now)) counted, length-incoming c.args.mail.now, length-people c.args.mail.now, c.args.mail.now.few))
