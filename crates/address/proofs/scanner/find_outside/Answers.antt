use Rattle.std.proofs.Common.{◌≡◌, ◌≢◌, ◌-◌, get_or, ◌∙◌, arith, rules}
use Rattle.address.specs.Quoted.{next}
use Rattle.address.specs.declared.scanner.Scanner.TheVariants.{Outside}
use Rattle.address.proofs.Quotes.{unseen, seen_at_start, seen_before, seen_past}
use Rattle.address.proofs.scanner.find_outside.Goals as goal
use Rattle.address.proofs.scanner.find_outside.Goals.{else-eq-via-then-eq+else-b-c, else-eq-via-else-eq, then-i-ordinary, else-i-ordinary}

pub loop-i-init : goal.loop-i-init
loop-i-init c = seen_at_start c.args.c c.requires.some c.requires.no_quote c.args.text.now (c.unclosed-ordinary.result - 0) (omega arith)

pub loop-i-preserved : goal.loop-i-preserved
loop-i-preserved c =
    let apart : c.loop-i.state ≡ Outside → get_or c.args.text.now c.loop-i.i 0 ≡ c.args.c → ⊥ =
    elim c.else-eq.branch [ else-eq-via-then-eq+else-b-c w ↦ λ _ e. w.if-b-c.false e | else-eq-via-else-eq w ↦ λ e _. let ne : c.loop-i.state ≢ Outside = search rules in ne e ] in
    let ne = unseen c.args.c (get_or c.args.text.now c.loop-i.i 0) c.loop-i.state c.requires.some apart in
    elim c.if-i-ordinary.branch [
      | then-i-ordinary w ↦
          let e : c.if-i-ordinary.state ≡ next c.loop-i.state (get_or c.args.text.now c.loop-i.i 0) = w.state-is ∙ w.step.ensures in
          simp e (c.loop-i.invariant ∙ seen_before c.args.c c.args.text.now c.loop-i.state c.loop-i.i c.unclosed-ordinary.result c.loop-i-test.true ne w.if-i-ordinary.true)
      | else-i-ordinary w ↦
          simp w.state-is (c.loop-i.invariant ∙ seen_past c.args.c c.args.text.now c.loop-i.state c.loop-i.i c.unclosed-ordinary.result c.loop-i-test.true ne w.if-i-ordinary.false)
    ]
