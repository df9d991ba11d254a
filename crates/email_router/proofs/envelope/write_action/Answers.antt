use Rattle.std.proofs.Common.{length, sym, ap, ◌∙◌, arith, length-set}
use Rattle.roll.specs.Written.{written}
use Rattle.roll.proofs.Writes.{written_one}
use Rattle.email_router.specs.Actions.{recipients_of}
use Rattle.email_router.proofs.Sends.{mute_bytes, send_sizes, send_length, send_written}
use Rattle.email_router.proofs.envelope.write_action.Goals as goal

pub bounds-tray-0 : goal.bounds-tray-0
bounds-tray-0 c =
    let n = ap length (mute_bytes c.args.recipients.now c.args.mail.now c.args.rank (sym c.in-Mute.is ∙ c.requires.action)) in
    omega arith

pub bounds-tray-0-in-Send : goal.bounds-tray-0-in-Send
bounds-tray-0-in-Send c =
    let s = send_sizes c.args.recipients.now c.args.mail.now c.args.rank _ _ _ (sym c.in-Send.is ∙ c.requires.action) in
    let n = ap length s.0 ∙ send_length (recipients_of c.args.recipients.now c.args.mail.now) c.args.rank in
    omega arith

pub write_part-next-requires : goal.write_part-next-requires
write_part-next-requires c =
    let s = send_sizes c.args.recipients.now c.args.mail.now c.args.rank _ _ _ (sym c.in-Send.is ∙ c.requires.action) in
    let n = ap length s.0 ∙ send_length (recipients_of c.args.recipients.now c.args.mail.now) c.args.rank in
    let l = length-set c.args.tray.now 0 c.send_map.result in
    record { slots = omega arith; room = omega arith }

pub write_part-requires : goal.write_part-requires
write_part-requires c =
    let s = send_sizes c.args.recipients.now c.args.mail.now c.args.rank _ _ _ (sym c.in-Send.is ∙ c.requires.action) in
    let n = ap length s.0 ∙ send_length (recipients_of c.args.recipients.now c.args.mail.now) c.args.rank in
    let l = length-set c.args.tray.now 0 c.send_map.result in
    record { slots = omega arith; room = omega arith }

pub returns-in-Mute : goal.returns-in-Mute
returns-in-Mute c =
    written_one _ _ _
    ∙ ap (written c.args.tray.now 0) (sym (mute_bytes c.args.recipients.now c.args.mail.now c.args.rank (sym c.in-Mute.is ∙ c.requires.action)))

pub returns-in-Send : goal.returns-in-Send
returns-in-Send c =
    let s = send_sizes c.args.recipients.now c.args.mail.now c.args.rank _ _ _ (sym c.in-Send.is ∙ c.requires.action) in
    send_written (recipients_of c.args.recipients.now c.args.mail.now) c.args.rank c.args.tray.now c.write_part-next.new.tray _ c.send_map.result _ _ _ s.1 s.2 c.send_map.ensures c.write_part-next.ensures.tray c.write_part-next.ensures.end c.write_part.ensures.tray
    ∙ ap (written c.args.tray.now 0) (sym s.0)
