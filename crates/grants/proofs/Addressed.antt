-- What the mailboxes of a mail say.
use Rattle.std.proofs.Common.{◌≡◌, [], ◌++◌, map, get_or, take, drop, sym, refl, ap, ◌∙◌, arith}
use Rattle.std.proofs.lemmas.List.{take-append-drop, drop-drop, drop-map, get_or-map}
use Rattle.address.specs.Address.{address_part}
use Rattle.audience.specs.Mail.{incoming}
use Rattle.mail.specs.declared.mailbox.Mailbox.{Mailbox}
use Rattle.mail.specs.declared.letter.Mail.{Mail}
use Rattle.mail.specs.Letters.{letter, people}
use Rattle.mail.specs.Parts.{text_in}

module _ (m : Mail) where
  -- To and Cc are all people but the author
  pub incoming_is : incoming (letter m) ≡ map text_in (drop 1 m.people.now)
  unfolding letter
  incoming_is =
      ap (λ l. take m.to (drop 1 (people m)) ++ l) (sym (drop-drop m.to 1 (people m)))
      ∙ take-append-drop m.to (drop 1 (people m)) ∙ drop-map text_in 1 m.people.now

  pub author_text : (d : Mailbox) → text_in (get_or m.people.now 0 d) ≡ (letter m).author
  unfolding letter
  author_text d = sym (get_or-map text_in m.people.now 0 d [] (omega (arith, m.counted)))

  pub author_part : (d : Mailbox) → address_part (text_in (get_or m.people.now 0 d)) ≡ address_part (letter m).author
  author_part d = ap address_part (author_text d)

  pub bot_part : address_part m.bot.text.now ≡ address_part (letter m).bot
  unfolding letter
  bot_part = refl
