use Rattle.std.proofs.Common.{rules, tests, ◌&&◌, Bool, ◌∙◌}
use Rattle.std.proofs.lemmas.Iterator.{YieldsList-from_slice, YieldsList-from_zip}
use Rattle.std.proofs.lemmas.Iterator.Search.{any_from_yields_List}
use Rattle.address.specs.Address.{same_bare}
use Rattle.mail.specs.declared.mailbox.Mailbox.{Mailbox}
use Rattle.mail.specs.Parts.{text_in}
use Rattle.recipients.proofs.Searched.{any_marked}
use Rattle.recipients.proofs.candidate.has_marked.Goals as goal

pub returns : goal.returns
returns c =
    let test : Mailbox × Bool → Bool = λ z. z.1 && same_bare c.args.mailbox.now.text.now (text_in z.0) in
    any_from_yields_List test c.any.new.self _ c.any.result c.any.ensures.ran
    (YieldsList-from_zip (YieldsList-from_slice c.args.mailboxes.now (search rules)) (YieldsList-from_slice c.args.marks.now (search rules))) (λ x b q k. search (rules, tests))
    ∙ any_marked text_in (same_bare c.args.mailbox.now.text.now) c.args.mailboxes.now c.args.marks.now
