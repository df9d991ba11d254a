use Rattle.std.proofs.Common.{arith}
use Rattle.roll.specs.Packing.{pack_text, pack_texts}
use Rattle.packed_book.proofs.Puts.{left_room, left_more, left_all}
use Rattle.packed_book.proofs.write.put_texts.Goals as goal

pub put_text-end-requires : goal.put_text-end-requires
unfolding pack_texts
put_text-end-requires g c =
    let r = left_room pack_text _ _ c.args.tray.now c.loop-text.tray c.args.at c.loop-text.end c.loop-text.invariant c.in-Some.text.now _ c.in-Some.ensures.steps in
    let h = c.requires in
    omega arith

pub loop-text-preserved : goal.loop-text-preserved
loop-text-preserved g c =
    left_more pack_text _ _ c.args.tray.now c.loop-text.tray c.args.at c.loop-text.end c.loop-text.invariant c.in-Some.text.now _ c.in-Some.ensures.steps
    c.put_text-end.new.tray c.put_text-end.result c.put_text-end.ensures.tray c.put_text-end.ensures.end c.put_text-end.auto.tray

pub returns-clause-end : goal.returns-clause-end
unfolding pack_texts
returns-clause-end g c = (left_all pack_text _ _ c.args.tray.now c.loop-text.tray c.args.at c.loop-text.end c.loop-text.invariant c.in-None.ensures.steps.0).0

pub returns-clause-tray : goal.returns-clause-tray
unfolding pack_texts
returns-clause-tray g c = (left_all pack_text _ _ c.args.tray.now c.loop-text.tray c.args.at c.loop-text.end c.loop-text.invariant c.in-None.ensures.steps.0).1
