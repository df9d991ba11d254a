use Rattle.std.proofs.Common.{refl, arith}
use Rattle.email_policy.specs.Texts.{record_of}
use Rattle.packed_book.proofs.Rows.{policy_size, policy_puts}
use Rattle.packed_book.proofs.write.put_policy.Goals as goal

pub put_byte-rank-requires : goal.put_byte-rank-requires
put_byte-rank-requires g c =
    let s = policy_size (record_of (g.S.PolicySource.meaning c.args.source.now) c.args.whose) c.reply_byte.result _ _ c.reply_byte.ensures refl refl in
    let h = c.requires in
    omega arith

pub put_byte-mute-requires : goal.put_byte-mute-requires
put_byte-mute-requires g c =
    let s = policy_size (record_of (g.S.PolicySource.meaning c.args.source.now) c.args.whose) c.reply_byte.result c.rank_byte.result _ c.reply_byte.ensures c.rank_byte.ensures refl in
    let h = c.requires in
    omega arith

pub put_byte-cc-requires : goal.put_byte-cc-requires
put_byte-cc-requires g c =
    let s = policy_size (record_of (g.S.PolicySource.meaning c.args.source.now) c.args.whose) c.reply_byte.result c.rank_byte.result c.mute_byte.result c.reply_byte.ensures c.rank_byte.ensures c.mute_byte.ensures in
    let h = c.requires in
    omega arith

pub put_roll-ignored-requires : goal.put_roll-ignored-requires
put_roll-ignored-requires g c =
    let s = policy_size (record_of (g.S.PolicySource.meaning c.args.source.now) c.args.whose) c.reply_byte.result c.rank_byte.result c.mute_byte.result c.reply_byte.ensures c.rank_byte.ensures c.mute_byte.ensures in
    let h = c.requires in
    omega arith

pub put_roll-requires : goal.put_roll-requires
put_roll-requires g c =
    let s = policy_size (record_of (g.S.PolicySource.meaning c.args.source.now) c.args.whose) c.reply_byte.result c.rank_byte.result c.mute_byte.result c.reply_byte.ensures c.rank_byte.ensures c.mute_byte.ensures in
    let h = c.requires in
    omega arith

pub returns : goal.returns
returns g c =
    let a =
    policy_puts (record_of (g.S.PolicySource.meaning c.args.source.now) c.args.whose) c.reply_byte.result c.rank_byte.result c.mute_byte.result c.reply_byte.ensures c.rank_byte.ensures c.mute_byte.ensures
    c.args.tray.now c.put_byte-reply.new.tray c.put_byte-rank.new.tray c.put_byte-mute.new.tray c.put_byte-cc.new.tray c.put_roll-ignored.new.tray c.put_roll.new.tray
    c.args.at c.bit_map.result c.put_byte-reply.result c.put_byte-rank.result c.put_byte-mute.result c.put_byte-cc.result c.put_roll-ignored.result c.put_roll.result
    c.bit_map.ensures c.put_byte-reply.ensures.tray c.put_byte-reply.ensures.end c.put_byte-rank.ensures.tray c.put_byte-rank.ensures.end c.put_byte-mute.ensures.tray c.put_byte-mute.ensures.end
    c.put_byte-cc.ensures.tray c.put_byte-cc.ensures.end c.put_roll-ignored.ensures.tray c.put_roll-ignored.ensures.end c.put_roll.ensures.tray c.put_roll.ensures.end in
    record { end = a.0; tray = a.1 }
