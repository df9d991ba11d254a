use Rattle.replay.proofs.HexDigits.{pairs_more}
use Rattle.replay.proofs.hex.read_digits.Goals as goal

pub loop-rest-preserved : goal.loop-rest-preserved
loop-rest-preserved c =
    pairs_more c.args.text.now c.loop-rest.rest.now _ _ c.in-Some.b c.in-len2-up.len_at_least c.loop-rest.invariant c.in-Some.ensures c.in_ok-push.ensures.items
