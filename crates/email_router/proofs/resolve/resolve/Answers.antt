use Rattle.std.proofs.Common.{◌∙◌}
use Rattle.mail.specs.Letters.{letter}
use Rattle.grants.proofs.Bounds.{short_keys}
use Rattle.email_router.proofs.Choosing.{texts_held, short_texts}
use Rattle.email_router.proofs.Lists.{named_found}
use Rattle.email_router.proofs.resolve.resolve.Goals as goal

pub invariant_of-keys : goal.invariant_of-keys
invariant_of-keys g c =
    let p = g.S.PolicySource.meaning c.args.source.now in
    record { short = short_texts _ _ (texts_held _ _ _ c.as_slice.ensures.value c.read_keys-table.ensures) (short_keys p (g.S.PolicySource.lawful c.args.source.now)) }

pub first-requires-clause-named : goal.first-requires-clause-named
first-requires-clause-named g c =
    let p = g.S.PolicySource.meaning c.args.source.now in
    named_found p (letter c.args.mail.now) _ _ (g.S.PolicySource.lawful c.args.source.now) (texts_held _ _ _ c.as_slice.ensures.value c.read_keys-table.ensures) (c.as_slice-in-First.ensures.value ∙ c.find_named-named.ensures)

pub positive-requires-clause-named : goal.positive-requires-clause-named
positive-requires-clause-named g c =
    let p = g.S.PolicySource.meaning c.args.source.now in
    named_found p (letter c.args.mail.now) _ _ (g.S.PolicySource.lawful c.args.source.now) (texts_held _ _ _ c.as_slice.ensures.value c.read_keys-table.ensures) (c.as_slice-in-Positive.ensures.value ∙ c.find_named-named.ensures)
