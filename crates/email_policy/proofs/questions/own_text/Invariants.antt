use Rattle.std.proofs.Common.{◌+◌}
use Rattle.address.specs.Address.{bare}
use Rattle.roll.specs.Reading.{texts_at}
use Rattle.email_policy.specs.Questions.{own_place}
use Rattle.email_policy.proofs.OwnTexts.{Sought}
use Rattle.email_policy.proofs.questions.own_text.Given as goal

abbrev pub invariant-loop : goal.invariant-loop
invariant-loop l = Sought (bare l.key) l.count l.counter l.bytes l.here l.rest (own_place (bare l.key) (l.at + 2) (texts_at l.bytes l.at))
