use Rattle.std.proofs.Common.{arith}
use Rattle.std.proofs.lemmas.List.{drop_all}
use Rattle.email_policy.specs.Lawful.{pack_entry}
use Rattle.packed_book.proofs.Puts.{left_all}
use Rattle.packed_book.proofs.Rows.{list_room, list_more}
use Rattle.packed_book.proofs.write.put_lists.Goals as goal

pub put_list-end-requires : goal.put_list-end-requires
put_list-end-requires g c =
    let r = list_room (g.S.PolicySource.meaning c.args.source.now).lists c.loop-n.n c.args.tray.now c.loop-n.tray c.args.at c.loop-n.end c.loop-n.invariant (omega arith) in
    let h = c.requires in
    omega arith

pub loop-n-preserved : goal.loop-n-preserved
loop-n-preserved g c =
    list_more (g.S.PolicySource.meaning c.args.source.now).lists c.loop-n.n c.args.tray.now c.loop-n.tray c.args.at c.loop-n.end c.loop-n.invariant (omega arith)
    c.put_list-end.new.tray c.put_list-end.result c.put_list-end.ensures.tray c.put_list-end.ensures.end c.put_list-end.auto.tray

pub returns : goal.returns
returns g c =
    let a = left_all pack_entry (g.S.PolicySource.meaning c.args.source.now).lists _ c.args.tray.now c.loop-n.tray c.args.at c.loop-n.end c.loop-n.invariant (drop_all c.loop-n.n _ (omega arith)) in
    record { end = a.0; tray = a.1 }
