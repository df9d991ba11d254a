use Rattle.std.proofs.Common.{rules, tests, Bool, Bor, ◌∙◌, sym}
use Rattle.std.specs.Str.{bytes_eq}
use Rattle.std.proofs.lemmas.Iterator.{YieldsList-from_slice}
use Rattle.std.proofs.lemmas.Iterator.Search.{any_from_yields_List}
use Rattle.address.specs.Text.{Text, small}
use Rattle.keep_first.proofs.Members.{some_is_any}
use Rattle.recipients.proofs.Registers.{no_domain, at_domain}
use Rattle.recipients.proofs.domains.is_at_one_of.Goals as goal

pub returns-in_default : goal.returns-in_default
returns-in_default c = no_domain c.args.part.now _ c.in_default.ensures

pub returns : goal.returns
returns c =
    let at : Bor Text → Bool = λ k. bytes_eq (small c.in-Some.found.now) (small k.now) in
    at_domain c.args.part.now c.args.domains.now c.in-Some.found.now _ c.in-Some.ensures
    (any_from_yields_List at c.any.new.self _ c.any.result c.any.ensures.ran (YieldsList-from_slice c.args.domains.now c.iter.ensures.rest) (λ x b q k. search (rules, tests))
    ∙ sym (some_is_any at c.args.domains.now))
