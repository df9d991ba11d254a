use Rattle.std.proofs.Common.{◌<◌, length, arith}
use Rattle.email_policy.specs.Policy.{Policy}
use Rattle.grants.proofs.Turns.{done, sum_added, sum_passed, sum_done}
use Rattle.grants.proofs.terms.sum_up.Goals as goal

pub loop-n-preserved-then-is_named : goal.loop-n-preserved-then-is_named
loop-n-preserved-then-is_named g c =
    let p : Policy = g.S.PolicySource.meaning c.args.source.now in
    let s = c.in-Some.ensures.steps in
    let h : c.loop-n.n-iterator.iter.count < length p.lists = omega (arith, s.1, c.loop-n.invariant.1) in (
      sum_added c.args.pass p c.loop-n.terms _ _ _ _ _ _ s.0.0 s.0.2 h c.loop-n.invariant.0 c.in-Some.n c.rule_of.result c.with_rule-terms.result c.if-is_named.true s.0.1 c.rule_of.ensures c.with_rule-terms.ensures,
      omega (arith, s.0.2, s.1, c.loop-n.invariant.1),
    )

pub loop-n-preserved : goal.loop-n-preserved
loop-n-preserved g c =
    let p : Policy = g.S.PolicySource.meaning c.args.source.now in
    let s = c.in-Some.ensures.steps in
    let h : c.loop-n.n-iterator.iter.count < length p.lists = omega (arith, s.1, c.loop-n.invariant.1) in
    (sum_passed c.args.pass p c.loop-n.terms _ _ _ _ _ _ s.0.0 s.0.2 h c.loop-n.invariant.0 c.if-is_named.false, omega (arith, s.0.2, s.1, c.loop-n.invariant.1))

pub returns : goal.returns
returns g c =
    let p : Policy = g.S.PolicySource.meaning c.args.source.now in
    sum_done c.args.pass p c.loop-n.terms _ c.loop-n.n-iterator.iter.count c.loop-n.n-iterator.iter.iter.rest.now
    (done p c.loop-n.n-iterator.iter.count c.loop-n.n-iterator.n c.loop-n.n-iterator.iter.iter.rest.now c.loop-n.invariant.1 (λ k. (c.in-None.ensures.steps k).0))
    c.loop-n.invariant.0
