use Rattle.std.proofs.Common.{rules, tests, ◌-◌, Bool, List, length, drop, sym, ap, ◌∙◌, arith}
use Rattle.std.proofs.lemmas.List.{length-drop, take_all}
use Rattle.std.proofs.lemmas.Iterator.{YieldsList-from_slice}
use Rattle.std.proofs.lemmas.Iterator.Search.{any_from_yields_List}
use Rattle.address.specs.Text.{Text}
use Rattle.address.specs.Address.{address_part}
use Rattle.keep_first.specs.Keep.{some}
use Rattle.keep_first.proofs.Alike.{some-map}
use Rattle.mail.specs.declared.mailbox.Mailbox.{Mailbox}
use Rattle.mail.specs.Addresses.{same_part}
use Rattle.mail.specs.Parts.{text_in}
use Rattle.keep_first.proofs.Members.{some_is_any}
use Rattle.grants.proofs.Addressed.{incoming_is}
use Rattle.grants.proofs.lists.is_addressed.Goals as goal

pub returns : goal.returns
returns c =
    let people : List Mailbox = c.args.mail.now.people.now in
    let here : Text → Bool = λ t. same_part c.args.part.now (address_part t) in
    any_from_yields_List (λ (m : Mailbox). here (text_in m)) _ _ c.any.result c.any.ensures.ran (YieldsList-from_slice (drop 1 people) (c.iter.ensures.rest ∙ take_all (length people - 1) (drop 1 people) (omega (arith, length-drop 1 people)))) (λ x b q k. search (rules, tests))
    ∙ sym (some_is_any (λ (m : Mailbox). here (text_in m)) (drop 1 people))
    ∙ some-map text_in here (drop 1 people)
    ∙ ap (some here) (sym (incoming_is c.args.mail.now))
