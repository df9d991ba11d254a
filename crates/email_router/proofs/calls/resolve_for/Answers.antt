use Rattle.std.proofs.Common.{length, ap, ◌∙◌, arith}
use Rattle.std.proofs.lemmas.Result.{err_from_is_err_and}
use Rattle.roll.specs.Views.{viewed}
use Rattle.email_router.proofs.Accepted.{accepted, people_read, few_people, short_people, letter_read, refused_given, accepted_given}
use Rattle.email_router.proofs.calls.resolve_for.Goals as goal

pub returns-in_err-check : goal.returns-in_err-check
returns-in_err-check g c =
    let p = err_from_is_err_and c.from_residual.result c.from_residual.ensures.1 in
    rw (p.1, p.2) (refused_given c.args.to.now c.args.cc.now c.args.author.now c.args.bot.now c.args.scratch.now c.args.tray.now (g.S.PolicySource.meaning c.args.source.now) c.args.pass _ c.in_err-check.ensures)

pub invariant_of-mail : goal.invariant_of-mail
invariant_of-mail g c =
    let to = c.args.to.now in
    let cc = c.args.cc.now in
    let author = c.args.author.now in
    let all = people_read to cc author c.as_slice.result.now _ _ _ c.as_slice.ensures.value c.read_people-people.ensures (ap viewed c.new-to.ensures.bytes) (ap viewed c.new-cc.ensures.bytes) in
    let n = c.len.ensures.value ∙ ap (λ bs. length (viewed bs)) c.new-to.ensures.bytes in
    let few = few_people to cc author c.as_slice.result.now all in
    record {
      few = omega arith;
      few_to = omega arith;
      few_cc = omega arith;
      counted = omega arith;
      short = short_people to cc author c.as_slice.result.now all c.args.scratch.now (λ i. omega (arith, c.type_inv.to i)) (λ i. omega (arith, c.type_inv.cc i)) (accepted to cc author c.args.bot.now c.args.scratch.now c.in_ok-check.ensures);
    }

pub resolve-requires : goal.resolve-requires
resolve-requires g c = (accepted c.args.to.now c.args.cc.now c.args.author.now c.args.bot.now c.args.scratch.now c.in_ok-check.ensures).slots

pub returns : goal.returns
returns g c =
    let to = c.args.to.now in
    let cc = c.args.cc.now in
    let author = c.args.author.now in
    let bot = c.args.bot.now in
    let s = c.args.scratch.now in
    let all = people_read to cc author c.as_slice.result.now _ _ _ c.as_slice.ensures.value c.read_people-people.ensures (ap viewed c.new-to.ensures.bytes) (ap viewed c.new-cc.ensures.bytes) in
    let n = c.len.ensures.value ∙ ap (λ bs. length (viewed bs)) c.new-to.ensures.bytes in
    let read = letter_read to cc author bot s _ (accepted to cc author bot s c.in_ok-check.ensures) all n c.new.ensures in
    c.resolve.ensures
    ∙ accepted_given to cc author bot s c.args.tray.now (g.S.PolicySource.meaning c.args.source.now) c.args.pass _ c.in_ok-check.ensures read
