-- What mailboxes say: the texts, and the mail.
use Rattle.std.specs.Prelude.{◌+◌, List, [], ◌++◌, map, take, drop, slice_index_or}
use Rattle.address.specs.Text.{Text}
use Rattle.audience.specs.Mail as audience
use Rattle.mail.specs.declared.list.Mailboxes.{Mailboxes}
use Rattle.mail.specs.declared.letter.Mail.{Mail}
use Rattle.mail.specs.Parts.{text_in}

abbrev pub texts : Mailboxes → List Text
texts l = map text_in l.entries.now

-- the author, To and Cc
abbrev pub people : Mail → List Text
people m = map text_in m.people.now

unfoldable pub letter : Mail → audience.Mail
letter m = record {
  to = take m.to (drop 1 (people m));
  cc = drop (1 + m.to) (people m);
  author = slice_index_or (people m) 0 [];
  bot = text_in m.bot;
}

-- all candidates, by their numbers: the mail's people, then the texts that policies add
abbrev pub candidates : Mail → Mailboxes → List Text
candidates m l = people m ++ texts l
