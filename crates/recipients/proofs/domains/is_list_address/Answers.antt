use Rattle.std.proofs.Common.{refl, ap, ◌∙◌}
use Rattle.address.specs.Text.{small}
use Rattle.address.specs.Address.{address_part, domain}
use Rattle.keep_first.specs.Keep.{some}
use Rattle.audience.specs.Rules.{at_known}
use Rattle.mail.specs.Addresses.{same_part}
use Rattle.mail.specs.Letters.{texts}
use Rattle.recipients.specs.Choices.{at_one_of}
use Rattle.recipients.proofs.Registers.{listed_by_domain}
use Rattle.recipients.proofs.domains.is_list_address.Goals as goal

pub returns : goal.returns
returns c =
    listed_by_domain (texts c.args.keys.now) c.args.mailbox.now.text.now _ _ refl
    (c.if-has.ensures ∙ ap (λ u. some (λ k. same_part u (address_part k)) (texts c.args.keys.now)) c.part.ensures)
    (c.is_at_one_of.ensures ∙ ap (λ u. at_known (at_one_of _) (domain (small u))) c.part-2.ensures)
