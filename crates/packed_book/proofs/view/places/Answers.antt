use Rattle.std.proofs.Common.{arith, rules}
use Rattle.packed_book.proofs.Views.{filled_none, filled_more, filled_places}
use Rattle.packed_book.proofs.view.places.Goals as goal

pub loop-init : goal.loop-init
loop-init c = filled_none c.args.bytes.now c.args.at c.new-starts.result.items c.new-starts.ensures c.requires.there

pub loop-preserved : goal.loop-preserved
loop-preserved c =
    let size = c.loop.invariant.size in
    filled_more c.loop.invariant c.next_place-here.result c.try_push.new.self.items (search (rules, arith)) c.next_place-here.ensures.value (c.next_place-here.ensures.bound c.loop.invariant.within)

pub returns-clause-counted : goal.returns-clause-counted
returns-clause-counted c = let size = c.loop.invariant.size in omega arith

pub returns-clause-places : goal.returns-clause-places
returns-clause-places c = filled_places c.loop.invariant
