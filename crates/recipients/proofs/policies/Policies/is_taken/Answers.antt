use Rattle.std.proofs.Common.{◌+◌, ap, ◌∙◌, arith}
use Rattle.address.specs.Address.{same_bare}
use Rattle.keep_first.specs.Keep.{some}
use Rattle.mail.specs.Marks.{marked}
use Rattle.recipients.proofs.People.{front_texts}
use Rattle.recipients.proofs.policies.Policies.is_taken.Goals as goal

pub returns : goal.returns
returns c =
    c.has_marked.ensures
    ∙ ap (λ ts. some (same_bare c.args.mailbox.now.text.now) (marked c.args.to.now ts)) (front_texts c.args.mail.now (c.args.mail.now.to + 1) (omega arith))
