use Rattle.std.proofs.Common.{rules, refl, ap, ◌∙◌}
use Rattle.std.specs.Char.{to_ascii_lowercase}
use Rattle.std.specs.Ordering.{is_lt, nat_cmp}
use Rattle.std.proofs.lemmas.Iterator.{YieldsList-from_slice, YieldsList-from_map}
use Rattle.address.specs.Text.{small}
use Rattle.email_policy.proofs.KeyOrder.{before_compared, compared}
use Rattle.email_policy.proofs.keys.is_before_small.Goals as goal

pub returns : goal.returns
returns c =
    let o =
    compared nat_cmp c.cmp.result c.cmp.ensures.ran
    (YieldsList-from_map _ to_ascii_lowercase (YieldsList-from_slice c.args.a.now cc) c.map-small.ensures.closure (λ x r q k. search rules))
    (YieldsList-from_map _ to_ascii_lowercase (YieldsList-from_slice c.args.b.now cc) c.map.ensures.closure (λ x r q k. search rules))
    (λ x y. refl) in
    c.is_lt.ensures ∙ ap is_lt o ∙ before_compared (small c.args.a.now) (small c.args.b.now)
