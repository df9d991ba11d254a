use Rattle.std.proofs.Common.{[], arith, rules}
use Rattle.std.proofs.lemmas.Str.Ascii.{IsAscii-nil, IsAscii-push}
use Rattle.replay.proofs.HexDigits.{digits_more}
use Rattle.replay.proofs.hex.digits_of.Goals as goal

pub loop-b-init : goal.loop-b-init
loop-b-init c = record { items = search rules; len = search rules; ascii = rw c.new-digits.ensures IsAscii-nil }

pub loop-b-preserved : goal.loop-b-preserved
loop-b-preserved c = record {
  items =
      digits_more [] _ _ _ c.args.bytes.now c.loop-b.b-index _ _ c.loop-b-test.true c.loop-b.invariant.items c.push.ensures.items c.push-in-loop-b.ensures.items
      c.digit.ensures.value c.digit-in-loop-b.ensures.value;
  len = omega arith;
  ascii =
      rw (c.push-in-loop-b.ensures.items, c.push.ensures.items)
      (IsAscii-push _ _ (IsAscii-push _ _ c.loop-b.invariant.ascii c.digit.ensures.ascii) c.digit-in-loop-b.ensures.ascii);
}
