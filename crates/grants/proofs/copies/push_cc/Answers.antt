use Rattle.std.proofs.Common.{List, [], ◌∷◌, map}
use Rattle.address.specs.Text.{Text}
use Rattle.email_policy.specs.TextsLeft.{texts_left}
use Rattle.mail.specs.Parts.{text_in}
use Rattle.mail.proofs.Held.{filled_turn}
use Rattle.grants.proofs.copies.push_cc.Goals as goal

pub loop-text-preserved : goal.loop-text-preserved
loop-text-preserved g c =
    let left : List Text = texts_left g.S.PolicySource.meaning c.next.new.self in
    filled_turn g.row.N (map text_in c.loop-text.table.items) _ _ left _ (c.in-Some.text.now ∷ []) c.push_text.ensures c.in-Some.ensures.steps c.loop-text.invariant
