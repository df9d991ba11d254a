use Rattle.std.proofs.Common.{length, take, refl, ap, ◌∙◌, arith}
use Rattle.std.proofs.lemmas.List.{length-take}
use Rattle.mail.specs.Letters.{letter, texts}
use Rattle.email_router.specs.Envelope.{pack_positive}
use Rattle.email_router.specs.Given.{answered}
use Rattle.recipients.proofs.Marking.{length-to_marks}
use Rattle.email_router.proofs.Alone.{first_mark, alone_sent}
use Rattle.email_router.proofs.resolve.send_to_author.Goals as goal

pub slice_bounds-to-end : goal.slice_bounds-to-end
slice_bounds-to-end c =
    let marks = ap length c.mark_to-marks.ensures ∙ length-to_marks (texts c.args.keys.now) c.args.mail.now _ _ in
    omega (arith, marks, ap length c.as_slice.ensures.value, length-take 1 c.as_slice.result.now)

pub returns : goal.returns
returns c =
    let m = letter c.args.mail.now in
    let mark = ap (take 1) c.as_slice.ensures.value ∙ first_mark (texts c.args.keys.now) m _ _ _ refl c.mark_to-marks.ensures in
    c.deliver.ensures
    ∙ ap (λ o. answered (pack_positive o) c.args.scratch.now c.args.tray.now) (alone_sent c.args.mail.now _ refl mark refl)
