use Rattle.std.proofs.Common.{◌≡◌, ℕ, ◌<◌, Bool, List, [], ◌++◌, map, length, drop, sym, ap, ◌∙◌, rules, arith}
use Rattle.address.specs.Text.{Text}
use Rattle.email_policy.specs.Policy.{Policy}
use Rattle.mail.specs.Parts.{text_in}
use Rattle.mail.specs.Tables.{filled}
use Rattle.mail.proofs.Held.{filled_none, filled_more, filled_all, filled_turn}
use Rattle.grants.specs.Rules.{entry_at}
use Rattle.grants.proofs.Bounds.{few_cc}
use Rattle.grants.proofs.Gathered.{gathered, cc_of, gathered_grant}
use Rattle.grants.proofs.Turns.{done, gathered_first, gathered_done, cc_given, no_cc_given}
use Rattle.grants.proofs.copies.gather_cc.Goals as goal

pub loop-n-init : goal.loop-n-init
loop-n-init g c =
    let p : Policy = g.S.PolicySource.meaning c.args.source.now in
    let rest : c.into_iter-n-iterator.result.iter.iter.rest.now ≡ c.args.named.now = search rules in
    let first : c.into_iter-n-iterator.result.iter.count ≡ 0 = search rules in
    let all : c.into_iter-n-iterator.result.n ≡ length p.lists = search rules in (
      ap (λ ms. filled 8224 (map text_in ms) (gathered c.args.pass p.defaults c.into_iter-n-iterator.result.iter.iter.rest.now (drop c.into_iter-n-iterator.result.iter.count p.lists))) c.new-cc.ensures
          ∙ (λ i. filled 8224 [] (gathered c.args.pass p.defaults (rest i) (drop (first i) p.lists))),
      omega arith,
    )

pub loop-n-preserved-then-gives_cc : goal.loop-n-preserved-then-gives_cc
loop-n-preserved-then-gives_cc g c =
    let p : Policy = g.S.PolicySource.meaning c.args.source.now in
    let n : ℕ = c.loop-n.n-iterator.iter.count in
    let named : Bool = c.in-Some.is_named.now in
    let s = c.in-Some.ensures.steps in
    let h : n < length p.lists = omega (arith, s.1, c.loop-n.invariant.1) in (
      filled_turn 8224 (map text_in c.loop-n.cc.items) (map text_in c.push_cc.new.table.items) _ _ _ (cc_of c.args.pass p.defaults named (entry_at p n))
          (c.push_cc.ensures ∙ ap (filled 8224 (map text_in c.loop-n.cc.items)) (cc_given c.args.pass p n named c.in-Some.n s.0.1 c.if-gives_cc.ensures))
          (gathered_first c.args.pass p n named _ _ c.next.new.self.iter.count s.0.0 s.0.2 h) c.loop-n.invariant.0,
      omega (arith, s.0.2, s.1, c.loop-n.invariant.1),
    )

pub loop-n-preserved : goal.loop-n-preserved
loop-n-preserved g c =
    let p : Policy = g.S.PolicySource.meaning c.args.source.now in
    let n : ℕ = c.loop-n.n-iterator.iter.count in
    let named : Bool = c.in-Some.is_named.now in
    let s = c.in-Some.ensures.steps in
    let h : n < length p.lists = omega (arith, s.1, c.loop-n.invariant.1) in (
      filled_turn 8224 (map text_in c.loop-n.cc.items) (map text_in c.loop-n.cc.items) _ _ _ []
          (filled_none 8224 (map text_in c.loop-n.cc.items))
          (gathered_first c.args.pass p n named _ _ c.next.new.self.iter.count s.0.0 s.0.2 h
          ∙ ap (λ ts. ts ++ gathered c.args.pass p.defaults c.next.new.self.iter.iter.rest.now (drop c.next.new.self.iter.count p.lists)) (no_cc_given c.args.pass p n named c.in-Some.n s.0.1 c.if-gives_cc.ensures))
          c.loop-n.invariant.0,
      omega (arith, s.0.2, s.1, c.loop-n.invariant.1),
    )

pub returns : goal.returns
returns g c =
    let p : Policy = g.S.PolicySource.meaning c.args.source.now in
    let all : List Text = gathered c.args.pass p.defaults c.args.named.now p.lists in
    let lists : map text_in c.loop-n.cc.items ≡ filled 8224 [] all =
    filled_none 8224 (map text_in c.loop-n.cc.items)
    ∙ ap (filled 8224 (map text_in c.loop-n.cc.items)) (sym (gathered_done c.args.pass p c.loop-n.n-iterator.iter.count c.loop-n.n-iterator.iter.iter.rest.now
    (done p c.loop-n.n-iterator.iter.count c.loop-n.n-iterator.n c.loop-n.n-iterator.iter.iter.rest.now c.loop-n.invariant.1 (λ k. (c.in-None.ensures.steps k).0))))
    ∙ c.loop-n.invariant.0 in
    c.push_cc-2.ensures
    ∙ ap (λ ts. filled 8224 ts p.defaults.cc) lists
    ∙ filled_more 8224 [] all p.defaults.cc
    ∙ filled_all 8224 [] (all ++ p.defaults.cc) (omega (arith, ap length (gathered_grant c.args.pass c.args.named.now p), few_cc c.args.pass c.args.named.now p (g.S.PolicySource.lawful c.args.source.now)))
    ∙ gathered_grant c.args.pass c.args.named.now p
