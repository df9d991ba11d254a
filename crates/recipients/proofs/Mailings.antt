-- The rolls of To and of Cc, with the marks that are written, mail what is to be mailed.
use Rattle.std.proofs.Common.{◌≡◌, ◌+◌, ◌-◌, ◌≤◌, Bool, List, ◌∷◌, ◌++◌, map, length, take, drop, sym, ap, ◌∙◌, arith}
use Rattle.std.proofs.lemmas.List.{length-append, length-drop, take_all, take-append-le, drop-append-le}
use Rattle.address.specs.Text.{Text, trimmed}
use Rattle.address.specs.Address.{same_bare}
use Rattle.keep_first.specs.Keep.{keep_first}
use Rattle.audience.specs.Rules as audience
use Rattle.audience.specs.Due.{has_angle, to_texts, cc_texts}
use Rattle.mail.specs.declared.letter.Mail.{Mail}
use Rattle.mail.specs.declared.list.Mailboxes.{Mailboxes}
use Rattle.mail.specs.declared.candidate_roll.Candidates.{Candidates}
use Rattle.mail.specs.Letters.{letter, people, texts}
use Rattle.mail.specs.Marks.{marked}
use Rattle.mail.specs.Rolls.{roll_texts, mailed}
use Rattle.mail.proofs.Spelled.{mailed-spellings}
use Rattle.recipients.specs.Choices.{listed_by, to_marks, cc_marks}
use Rattle.recipients.proofs.Marking.{length-to_marks, length-cc_marks}
use Rattle.recipients.proofs.People.{counted, front_is, length_to, length_cc}
use Rattle.recipients.proofs.Takings.{individuals, to_texts_are, cc_texts_are}

module _ (r : Candidates) (m : Mail) (l : Mailboxes) where
  pub to_roll : r.start ≡ 0 → length r.takes.now ≡ 1 + m.to → roll_texts r m l ≡ (letter m).author ∷ (letter m).to
  unfolding roll_texts
  to_roll first long =
      (λ i. take (long i) (drop (first i) (people m ++ texts l)))
      ∙ take-append-le (1 + m.to) (people m) (texts l) (omega (arith, counted m)) ∙ sym (front_is m)

  pub cc_roll : r.start ≡ 1 + m.to → length r.takes.now ≡ length (people m) - (1 + m.to) + length (texts l) → roll_texts r m l ≡ (letter m).cc ++ texts l
  unfolding roll_texts letter
  cc_roll first long =
      (λ i. take (long i) (drop (first i) (people m ++ texts l)))
      ∙ ap (take (length (people m) - (1 + m.to) + length (texts l))) (drop-append-le (1 + m.to) (people m) (texts l) (omega (arith, counted m)))
      ∙ take_all _ (drop (1 + m.to) (people m) ++ texts l) (omega (arith, length-append (drop (1 + m.to) (people m)) (texts l), length-drop (1 + m.to) (people m)))

  -- a roll whose texts and marks are known
  spelled : (bs : List Bool) (ts : List Text) → r.takes.now ≡ bs → roll_texts r m l ≡ ts → length bs ≤ length ts → mailed r m l ≡ map trimmed (keep_first same_bare has_angle (marked bs ts))
  spelled bs ts marks all short =
      mailed-spellings r m l (omega (arith, ap length marks, ap length all))
      ∙ (λ i. map trimmed (keep_first same_bare has_angle (marked (marks i) (all i))))

module _ (keys : List Text) (m : Mail) (b : Bool) where
  pub to_mailed : (g : audience.Grant) (r : Candidates) (l : Mailboxes) → b ≡ individuals keys (letter m) g → r.start ≡ 0 → r.takes.now ≡ to_marks keys (letter m) g b → mailed r m l ≡ to_texts (listed_by keys) (letter m) g
  to_mailed g r l e first marks =
      let long : length (to_marks keys (letter m) g b) ≡ 1 + m.to = length-to_marks keys m g b in
      spelled r m l (to_marks keys (letter m) g b) ((letter m).author ∷ (letter m).to) marks (to_roll r m l first (ap length marks ∙ long)) (omega (arith, long, length_to m))
      ∙ ap (λ c. map trimmed (keep_first same_bare has_angle (marked (to_marks keys (letter m) g c) ((letter m).author ∷ (letter m).to)))) e
      ∙ sym (to_texts_are keys (letter m) g)

  pub cc_mailed : (g : audience.Grant) (r : Candidates) (l : Mailboxes) → texts l ≡ g.cc → b ≡ individuals keys (letter m) g → r.start ≡ 1 + m.to
      → r.takes.now ≡ cc_marks keys (letter m) g b (marked (to_marks keys (letter m) g b) ((letter m).author ∷ (letter m).to))
      → mailed r m l ≡ cc_texts (listed_by keys) (letter m) g
  cc_mailed g r l added e first marks =
      let taken : Bool → List Text = λ c. marked (to_marks keys (letter m) g c) ((letter m).author ∷ (letter m).to) in
      let long : length (cc_marks keys (letter m) g b (taken b)) ≡ length (people m) - (1 + m.to) + length g.cc = length-cc_marks keys m g b (taken b) in
      spelled r m l (cc_marks keys (letter m) g b (taken b)) ((letter m).cc ++ g.cc) marks
      (cc_roll r m l first (ap length marks ∙ long ∙ ap (λ ts. length (people m) - (1 + m.to) + length ts) (sym added)) ∙ ap (λ ts. (letter m).cc ++ ts) added)
      (omega (arith, long, length-append (letter m).cc g.cc, length_cc m))
      ∙ ap (λ c. map trimmed (keep_first same_bare has_angle (marked (cc_marks keys (letter m) g c (taken c)) ((letter m).cc ++ g.cc)))) e
      ∙ sym (cc_texts_are keys (letter m) g)
