use Rattle.std.proofs.Common.{ℕ, min, ◌≤◌, ap, ◌∙◌, arith, rules}
use Rattle.roll.proofs.Tables.{filled_none, filled_more, filled_stop, filled_all, views}
use Rattle.roll.proofs.view.Roll.new.Goals as goal
use Rattle.roll.proofs.view.Roll.new.Goals.{else-loop-test, then-loop-test+in_default}

pub loop-init : goal.loop-init
loop-init c =
    filled_none c.args.bytes.now c.read_word.result c.min-count.result c.tail-rest.result.now c.new-starts.result.items
    c.read_word.ensures (c.min-count.ensures ∙ ap (λ (x : ℕ). min x 512) c.unwrap_or.ensures) c.tail-rest.ensures c.new-starts.ensures

pub loop-preserved : goal.loop-preserved
loop-preserved c =
    let size = c.loop.invariant.size in
    filled_more c.loop.invariant c.in-Some.text.now c.in-Some.more.now c.try_push.new.self.items (λ i. omega (arith, c.type_inv.bytes i)) (omega arith) c.in-Some.ensures (search (rules, arith))

pub invariant_of-result : goal.invariant_of-result
invariant_of-result c =
    let few : c.min-count.result ≤ 512 = omega arith in
    elim c.loop-test.branch [
      | else-loop-test w ↦ filled_all c.loop.invariant (omega arith) few
      | then-loop-test+in_default w ↦ filled_stop c.loop.invariant (omega arith) few w.in_default.ensures
    ]

pub returns-clause-all : goal.returns-clause-all
returns-clause-all c = views c.args.bytes.now
