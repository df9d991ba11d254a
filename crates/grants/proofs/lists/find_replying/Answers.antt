use Rattle.std.proofs.Common.{◌<◌, ◌&&◌, Bool, [], ◌∷◌, length, sym, ap, ◌∙◌, arith}
use Rattle.email_policy.specs.Policy.{Policy}
use Rattle.mail.specs.Tables.{filled}
use Rattle.mail.proofs.Held.{filled_none, filled_turn}
use Rattle.grants.specs.Rules.{rule_in, entry_at}
use Rattle.grants.proofs.Turns.{done, replying_first, replying_done}
use Rattle.grants.proofs.Marking.{all_replying}
use Rattle.grants.proofs.lists.find_replying.Goals as goal

pub loop-n-preserved : goal.loop-n-preserved
loop-n-preserved g c =
    let p : Policy = g.S.PolicySource.meaning c.args.source.now in
    let s = c.in-Some.ensures.steps in
    let h : c.loop-n.n-iterator.iter.count < length p.lists = omega (arith, s.1, c.loop-n.invariant.1) in
    let mark : Bool = c.in-Some.is_named.now && (rule_in c.args.pass p.defaults (entry_at p c.loop-n.n-iterator.iter.count).policy).reply_to.list in (
      filled_turn 256 c.loop-n.marks.items c.push_within.new.table.items _ _ _ (mark ∷ [])
          (c.push_within.ensures ∙ ap (λ b. filled 256 c.loop-n.marks.items (b ∷ [])) (c.replies_to_list.ensures ∙ ap (λ k. c.in-Some.is_named.now && (rule_in c.args.pass p.defaults (entry_at p k).policy).reply_to.list) s.0.1))
          (replying_first c.args.pass p c.loop-n.n-iterator.iter.count c.in-Some.is_named.now _ _ c.next.new.self.iter.count s.0.0 s.0.2 h) c.loop-n.invariant.0,
      omega (arith, s.0.2, s.1, c.loop-n.invariant.1),
    )

pub returns : goal.returns
returns g c =
    let p : Policy = g.S.PolicySource.meaning c.args.source.now in
    filled_none 256 c.loop-n.marks.items
    ∙ ap (filled 256 c.loop-n.marks.items) (sym (replying_done c.args.pass p c.loop-n.n-iterator.iter.count c.loop-n.n-iterator.iter.iter.rest.now
    (done p c.loop-n.n-iterator.iter.count c.loop-n.n-iterator.n c.loop-n.n-iterator.iter.iter.rest.now c.loop-n.invariant.1 (λ k. (c.in-None.ensures.steps k).0))))
    ∙ c.loop-n.invariant.0
    ∙ all_replying c.args.pass p c.args.named.now (g.S.PolicySource.lawful c.args.source.now)
