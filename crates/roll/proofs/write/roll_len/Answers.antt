use Rattle.std.proofs.Common.{map, sym, arith, Bor}
use Rattle.std.proofs.lemmas.List.{length-map}
use Rattle.std.proofs.Math.ListN.{get_or-map}
use Rattle.address.specs.Text.{Text}
use Rattle.roll.proofs.Sized.{sized_none, sized_more, sized_stop, sized_all, size_long, size_ok}
use Rattle.roll.proofs.write.roll_len.Goals as goal

pub loop-i-init : goal.loop-i-init
loop-i-init c = sized_none _

pub loop-i-preserved : goal.loop-i-preserved
loop-i-preserved c =
    let l = length-map c.args.texts.now (λ (x : Bor Text). x.now) in
    sized_more c.loop-i.invariant _ (omega arith) (sym (get_or-map (λ x. x.now) c.args.texts.now c.loop-i.i _)) c.if-text-ge-WORDS.false

pub returns-then-text-ge-WORDS : goal.returns-then-text-ge-WORDS
returns-then-text-ge-WORDS c =
    let l = length-map c.args.texts.now (λ (x : Bor Text). x.now) in
    size_long (map (λ x. x.now) c.args.texts.now) c.loop-i.i (omega arith)
    (sized_stop c.loop-i.invariant _ (omega arith) (sym (get_or-map (λ x. x.now) c.args.texts.now c.loop-i.i _)) c.if-text-ge-WORDS.true)

pub returns : goal.returns
returns c =
    let l = length-map c.args.texts.now (λ (x : Bor Text). x.now) in
    let a = sized_all c.loop-i.invariant (omega arith) in
    size_ok (map (λ x. x.now) c.args.texts.now) c.loop-i.len (omega arith) a.0 a.1
