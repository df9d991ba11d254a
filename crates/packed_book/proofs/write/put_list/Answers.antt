use Rattle.std.proofs.Common.{ℕ, List, sym, subst, arith}
use Rattle.std.specs.List.{slice_get}
use Rattle.roll.specs.Packing.{pack_text}
use Rattle.email_policy.specs.Packing.{pack_policy}
use Rattle.email_policy.specs.Texts.{listed}
use Rattle.packed_book.specs.Rows.{Puts}
use Rattle.packed_book.proofs.Puts.{puts_none, puts_then}
use Rattle.packed_book.proofs.Rows.{list_none, list_some, list_size}
use Rattle.packed_book.proofs.write.put_list.Goals as goal

pub returns-in_default : goal.returns-in_default
returns-in_default g c =
    let e = list_none (slice_get (g.S.PolicySource.meaning c.args.source.now).lists c.args.n) c.in_default.ensures in
    rw e record { end = omega arith; tray = puts_none c.args.tray.now c.args.at }

pub returns : goal.returns
returns g c =
    let s = list_some (slice_get (g.S.PolicySource.meaning c.args.source.now).lists c.args.n) c.in-Some.key.now c.in-Some.ensures in
    let n = list_size (slice_get (g.S.PolicySource.meaning c.args.source.now).lists c.args.n) c.in-Some.key.now c.in-Some.ensures in
    let e = c.put_text-place.ensures.end in
    let f = c.put_policy.ensures.end in
    let a = puts_then c.args.tray.now c.put_text-place.new.tray c.put_policy.new.tray (pack_text c.in-Some.key.now) (pack_policy (listed (slice_get (g.S.PolicySource.meaning c.args.source.now).lists c.args.n))) c.args.at c.put_text-place.result c.put_text-place.ensures.tray e c.put_policy.ensures.tray in
    record { end = omega arith; tray = subst (λ (x : List ℕ). Puts c.args.tray.now c.args.at x c.put_policy.new.tray) (sym s) a }
