use Rattle.std.proofs.Common.{ap, ◌∙◌, arith}
use Rattle.email_router.specs.Actions.{sent_to, action_size}
use Rattle.email_router.proofs.Sends.{action_length, tray_refused, tray_answered}
use Rattle.email_router.proofs.envelope.deliver.Goals as goal

pub returns-then-tray-len : goal.returns-then-tray-len
returns-then-tray-len c =
    let n = c.action_len-len.ensures ∙ ap action_size c.requires.action ∙ action_length (sent_to c.args.recipients.now c.args.mail.now) c.args.rank in
    tray_refused _ _ _ _ n c.if-tray-len.true

pub write_action-requires : goal.write_action-requires
write_action-requires c =
    let n = c.action_len-len.ensures ∙ ap action_size c.requires.action ∙ action_length (sent_to c.args.recipients.now c.args.mail.now) c.args.rank in
    record { action = c.requires.action; slots = c.requires.slots; room = omega arith }

pub returns : goal.returns
returns c =
    let n = c.action_len-len.ensures ∙ ap action_size c.requires.action ∙ action_length (sent_to c.args.recipients.now c.args.mail.now) c.args.rank in
    tray_answered _ _ _ c.write_action.new.slots _ _ _ n (omega arith) (omega arith) c.clear.ensures c.write_action.ensures
