use Rattle.std.proofs.Common.{◌∷◌, map, ap, ◌∙◌}
use Rattle.mail.specs.Letters.{letter, texts}
use Rattle.mail.specs.Marks.{marked}
use Rattle.mail.specs.Parts.{text_in}
use Rattle.grants.proofs.Bounds.{short_cc}
use Rattle.email_router.proofs.Choosing.{texts_held, short_texts, to_chosen, cc_chosen}
use Rattle.email_router.proofs.resolve.choose.Goals as goal

pub invariant_of-cc : goal.invariant_of-cc
invariant_of-cc g c =
    let p = g.S.PolicySource.meaning c.args.source.now in
    record { short = short_texts _ _ (texts_held _ _ _ c.as_slice.ensures.value c.gather_cc-added.ensures) (short_cc c.args.pass c.args.named.now p (g.S.PolicySource.lawful c.args.source.now)) }

pub returns-clause-to : goal.returns-clause-to
returns-clause-to g c =
    let p = g.S.PolicySource.meaning c.args.source.now in
    to_chosen p c.args.pass c.args.named.now (texts c.args.keys.now) c.requires
    c.find_terms-terms.result c.as_slice-2.result.now (map text_in c.as_slice.result.now) c.find_terms-terms.ensures (c.as_slice-2.ensures.value ∙ c.find_replying-lists.ensures) (texts_held _ _ _ c.as_slice.ensures.value c.gather_cc-added.ensures)
    (letter c.args.mail.now) c.grants_individuals-individuals.result c.grants_individuals-individuals.ensures
    c.mark_to-to.result.items c.mark_to-to.ensures

pub returns-clause-cc : goal.returns-clause-cc
returns-clause-cc g c =
    let p = g.S.PolicySource.meaning c.args.source.now in
    let m = letter c.args.mail.now in
    cc_chosen p c.args.pass c.args.named.now (texts c.args.keys.now) c.requires
    c.find_terms-terms.result c.as_slice-2.result.now (map text_in c.as_slice.result.now) c.find_terms-terms.ensures (c.as_slice-2.ensures.value ∙ c.find_replying-lists.ensures) (texts_held _ _ _ c.as_slice.ensures.value c.gather_cc-added.ensures)
    m c.grants_individuals-individuals.result c.grants_individuals-individuals.ensures
    c.mark_cc-cc.result.items _ _ c.mark_cc-cc.ensures (ap (λ bs. marked bs (m.author ∷ m.to)) c.as_slice-3.ensures.value)
