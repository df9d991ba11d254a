use Rattle.std.proofs.Common.{Bool, ap, ◌∙◌}
use Rattle.email_policy.specs.Numbers.{weighed, reply_number, rank_number, mute_number}
use Rattle.email_policy.specs.Texts.{record_of}
use Rattle.packed_book.proofs.Rows.{map_is, bit_is}
use Rattle.packed_book.proofs.write.bit_map.Goals as goal

pub returns : goal.returns
returns g c =
    map_is (record_of (g.S.PolicySource.meaning c.args.source.now) c.args.whose) c.bit-reply.result c.bit-rank.result c.bit-mute.result c.bit-cc.result c.bit-ignored.result
    (bit_is reply_number _ c.reply_byte.result c.is_some.result 1 _ c.reply_byte.ensures c.is_some.ensures c.bit-reply.ensures.value)
    (bit_is rank_number _ c.rank_byte.result c.is_some-2.result 2 _ c.rank_byte.ensures c.is_some-2.ensures c.bit-rank.ensures.value)
    (bit_is mute_number _ c.mute_byte.result c.is_some-3.result 4 _ c.mute_byte.ensures c.is_some-3.ensures c.bit-mute.ensures.value)
    (c.bit-cc.ensures.value ∙ ap (λ (x : Bool). weighed x 8) c.has_text.ensures)
    (c.bit-ignored.ensures.value ∙ ap (λ (x : Bool). weighed x 16) c.has_text-2.ensures)
