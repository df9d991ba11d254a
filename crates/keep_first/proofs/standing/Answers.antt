use Rattle.std.proofs.Common.{ℕ, Bool, rules}
use Rattle.keep_first.specs.Model.{Classes}
use Rattle.keep_first.proofs.KeptPlaces.{standing_is}
use Rattle.keep_first.proofs.standing.Goals as goal

pub returns : goal.returns
returns g c =
    let m : Classes = g.R.Roll.classes c.args.roll.now c.args.texts.now c.args.source.now in
    let preferred : ℕ → Bool = g.R.Roll.preferred c.args.roll.now c.args.texts.now c.args.source.now in
    standing_is m preferred (g.R.Roll.alike c.args.roll.now c.args.texts.now c.args.source.now) c.args.i c.then.result (search rules) (search rules)
