use Rattle.std.proofs.Common.{arith}
use Rattle.email_router.proofs.Places.{places_held, roll_left_out, roll_accepted, roll_room, roll_wrote}
use Rattle.email_router.proofs.envelope.write_part.Goals as goal

pub returns-then-count-eq0 : goal.returns-then-count-eq0
returns-then-count-eq0 c =
    let (e, t) = roll_left_out c.args.roll.now c.args.mail.now c.args.added.now c.args.slots.now c.in-Some.count c.in-Some.ensures.answer c.args.tray.now c.args.at c.requires.room c.if-count-eq0.true in
    record { end = e; tray = t }

pub returns-in_default-write_word : goal.returns-in_default-write_word
returns-in_default-write_word c =
    absurd (roll_accepted c.args.roll.now c.args.mail.now c.args.added.now c.args.slots.now c.in-Some.count c.in-Some.ensures.answer c.args.tray.now c.args.at c.requires.room (omega arith) c.in_default-write_word.ensures.end)

pub write_texts-requires : goal.write_texts-requires
write_texts-requires c =
    let room = roll_room c.args.roll.now c.args.mail.now c.args.added.now c.args.slots.now c.in-Some.count c.in-Some.ensures.answer c.args.tray.now c.args.at c.requires.room (omega arith) c.in-Some-write_word.first c.in-Some-write_word.ensures.end in
    let held = places_held c.args.roll.now c.args.mail.now c.args.added.now c.args.slots.now c.in-Some.count c.in-Some.ensures.answer c.keep_first.new.slots c.keep_first.ensures.state in
    rw held record { room = omega arith }

pub returns : goal.returns
returns c =
    let held = places_held c.args.roll.now c.args.mail.now c.args.added.now c.args.slots.now c.in-Some.count c.in-Some.ensures.answer c.keep_first.new.slots c.keep_first.ensures.state in
    let (e, t) = roll_wrote c.args.roll.now c.args.mail.now c.args.added.now c.args.slots.now c.in-Some.count c.in-Some.ensures.answer c.args.tray.now c.args.at c.requires.room (omega arith) c.in-Some-write_word.first c.in-Some-write_word.ensures.end _ _ _ c.write_word.ensures.tray (rw held at c.write_texts.ensures.end) (rw held at c.write_texts.ensures.tray) in
    record { end = e; tray = t }
