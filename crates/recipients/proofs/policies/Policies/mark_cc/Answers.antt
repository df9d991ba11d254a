use Rattle.std.proofs.Common.{◌&&◌, Bool, List, ◌∷◌, ◌++◌, map, refl, ◌∙◌, arith}
use Rattle.std.proofs.lemmas.List.{length-map, take_all}
use Rattle.address.specs.Text.{Text}
use Rattle.mail.specs.Letters.{letter, texts}
use Rattle.mail.specs.Marks.{marked}
use Rattle.mail.specs.Parts.{text_in}
use Rattle.mail.specs.Tables.{filled}
use Rattle.recipients.specs.Choices.{qualifies_by, apart, cc_marks}
use Rattle.recipients.specs.Policies.{keys_in, granted_in}
use Rattle.recipients.proofs.Marking.{mark_turn, mark_turn_before, mark_end, length-cc_marks}
use Rattle.recipients.proofs.People.{length-people, behind_texts}
use Rattle.recipients.proofs.policies.Policies.mark_cc.Goals as goal

pub loop-mailbox-init : goal.loop-mailbox-init
unfolding cc_marks
loop-mailbox-init c =
    let taken : List Text = marked c.args.to.now ((letter c.args.mail.now).author ∷ (letter c.args.mail.now).to) in
    let free : Text → Bool = apart (keys_in c.args.self.now) (letter c.args.mail.now) (granted_in c.args.self.now) c.args.individuals taken in
    (λ i. filled 8736 (c.new-marks.ensures i)
    (map (λ t. qualifies_by (keys_in c.args.self.now) (letter c.args.mail.now) (granted_in c.args.self.now) c.args.individuals t && free t) (behind_texts c.args.mail.now _ refl i)
    ++ map free (texts c.args.self.now.grant.cc)))

pub loop-mailbox-preserved : goal.loop-mailbox-preserved
loop-mailbox-preserved c =
    let taken : List Text = marked c.args.to.now ((letter c.args.mail.now).author ∷ (letter c.args.mail.now).to) in
    let free : Text → Bool = apart (keys_in c.args.self.now) (letter c.args.mail.now) (granted_in c.args.self.now) c.args.individuals taken in
    mark_turn_before 8736 (λ t. qualifies_by (keys_in c.args.self.now) (letter c.args.mail.now) (granted_in c.args.self.now) c.args.individuals t && free t) _
    c.loop-mailbox.mailbox-index c.loop-mailbox.marks.items _
    c.mailbox-item.result c.push_within.new.table.items c.takes_part_in_cc-in_cc.result c.loop-mailbox-test.true c.mailbox-item.is c.takes_part_in_cc-in_cc.ensures c.push_within.ensures
    (map free (texts c.args.self.now.grant.cc)) c.loop-mailbox.invariant

pub loop-mailbox-2-preserved : goal.loop-mailbox-2-preserved
loop-mailbox-2-preserved c =
    let taken : List Text = marked c.args.to.now ((letter c.args.mail.now).author ∷ (letter c.args.mail.now).to) in
    let free : Text → Bool = apart (keys_in c.args.self.now) (letter c.args.mail.now) (granted_in c.args.self.now) c.args.individuals taken in
    mark_turn 8736 free c.args.self.now.grant.cc.entries.now
    c.loop-mailbox-2.mailbox-index c.loop-mailbox-2.marks.items _
    c.mailbox-item-in-loop-mailbox-2.result c.push_within-in-loop-mailbox-2.new.table.items c.is_apart.result c.loop-mailbox-2-test.true c.mailbox-item-in-loop-mailbox-2.is c.is_apart.ensures c.push_within-in-loop-mailbox-2.ensures
    c.loop-mailbox-2.invariant

pub returns : goal.returns
returns c =
    let taken : List Text = marked c.args.to.now ((letter c.args.mail.now).author ∷ (letter c.args.mail.now).to) in
    let free : Text → Bool = apart (keys_in c.args.self.now) (letter c.args.mail.now) (granted_in c.args.self.now) c.args.individuals taken in
    mark_end 8736 free c.args.self.now.grant.cc.entries.now c.loop-mailbox-2.mailbox-index c.loop-mailbox-2.marks.items _ c.loop-mailbox-2-test.false c.loop-mailbox-2.invariant
    ∙ take_all 8736 (cc_marks (keys_in c.args.self.now) (letter c.args.mail.now) (granted_in c.args.self.now) c.args.individuals taken)
    (omega (
      arith,
      length-cc_marks (keys_in c.args.self.now) c.args.mail.now (granted_in c.args.self.now) c.args.individuals taken,
      length-people c.args.mail.now,
      length-map c.args.self.now.grant.cc.entries.now text_in,
      c.args.mail.now.few_cc,
      c.args.self.now.grant.few,
    ))
