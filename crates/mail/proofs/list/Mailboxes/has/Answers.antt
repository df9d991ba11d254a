use Rattle.std.proofs.Common.{rules, tests, Bool, ◌∙◌, sym}
use Rattle.std.proofs.lemmas.Iterator.{YieldsList-from_slice}
use Rattle.std.proofs.lemmas.Iterator.Search.{any_from_yields_List}
use Rattle.address.specs.Address.{address_part}
use Rattle.keep_first.proofs.Alike.{some-map}
use Rattle.mail.specs.declared.mailbox.Mailbox.{Mailbox}
use Rattle.mail.specs.Addresses.{same_part}
use Rattle.mail.specs.Parts.{text_in}
use Rattle.keep_first.proofs.Members.{some_is_any}
use Rattle.mail.proofs.list.Mailboxes.has.Goals as goal

pub returns : goal.returns
returns c =
    let at : Mailbox → Bool = λ m. same_part c.args.part.now (address_part (text_in m)) in
    any_from_yields_List at _ _ c.any.result c.any.ensures.ran (YieldsList-from_slice c.args.self.now.entries.now cc) (λ x b q k. search (rules, tests))
    ∙ sym (some_is_any at c.args.self.now.entries.now)
    ∙ some-map text_in (λ t. same_part c.args.part.now (address_part t)) c.args.self.now.entries.now
