use Rattle.std.proofs.Common.{arith, ap, length, ◌^◌, ◌-◌}
use Rattle.replay.specs.Lines.{domain_word}
use Rattle.replay.proofs.Room.{length-line_of, domain_length}
use Rattle.replay.proofs.answer.address_len.Goals as goal

pub returns : goal.returns
returns c = λ e.
    let word = domain_length (λ x. x.now) (2 ^ 64 - 1) c.args.domain c.map_or.result (omega arith) c.map_or.ensures in
    let same = ap (λ o. length (domain_word o)) e in
    omega (arith, length-line_of c.args.part.now)
