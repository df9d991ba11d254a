use Rattle.std.proofs.Common.{◌≡◌, Bool, List, [], ◌∷◌, map, ap, ◌∙◌, arith}
use Rattle.std.proofs.lemmas.List.{length-map}
use Rattle.address.specs.Text.{Text}
use Rattle.address.specs.Address.{address_part, same_bare}
use Rattle.keep_first.specs.Keep.{some}
use Rattle.audience.specs.Mail.{incoming}
use Rattle.mail.specs.declared.mailbox.Mailbox.{Mailbox}
use Rattle.mail.specs.Addresses.{same_part}
use Rattle.mail.specs.Letters.{letter}
use Rattle.mail.specs.Parts.{text_in}
use Rattle.mail.specs.Tables.{filled}
use Rattle.mail.proofs.Held.{filled_end, filled_one, filled_turn}
use Rattle.grants.proofs.lists.find_named.Goals as goal

pub loop-key-preserved : goal.loop-key-preserved
loop-key-preserved g c =
    let named : Text → Bool = λ k. some (same_bare k) (incoming (letter c.args.mail.now)) in
    let mark : Bool = named c.in-Some.key.now.text.now in
    let s = c.in-Some.ensures.steps in
    let written : c.push_within.new.table.items ≡ filled g.row.N c.loop-key.marks.items (mark ∷ []) =
    c.push_within.ensures ∙ ap (λ b. filled g.row.N c.loop-key.marks.items (b ∷ []))
    (c.is_addressed.ensures ∙ ap (λ u. some (λ t. same_part u (address_part t)) (incoming (letter c.args.mail.now))) c.part.ensures) in (
      filled_turn g.row.N c.loop-key.marks.items c.push_within.new.table.items _ _ _ (mark ∷ []) written
          (ap (λ (ms : List Mailbox). map named (map text_in ms)) s.0) c.loop-key.invariant.0,
      filled_one g.row.N c.loop-key.marks.items c.push_within.new.table.items mark c.next.new.self.n written (omega (arith, s.1, c.loop-key.invariant.1)),
    )

pub returns : goal.returns
returns g c =
    let named : Text → Bool = λ k. some (same_bare k) (incoming (letter c.args.mail.now)) in
    let left : List Mailbox = c.loop-key.key-iterator.iter.rest.now in
    filled_end g.row.N c.loop-key.marks.items (map named (map text_in left)) c.loop-key.key-iterator.n c.loop-key.invariant.1
    (λ k. length-map (map text_in left) named ∙ length-map left text_in ∙ (c.in-None.ensures.steps k).0)
    ∙ c.loop-key.invariant.0
