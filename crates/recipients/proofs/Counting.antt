-- Which individuals are counted, as the code asks it, and how many they are.
use Rattle.std.proofs.Common.{◌≡◌, ℕ, ◌≤◌, Bool, true, false, not, ◌&&◌, List, ◌++◌, map, length, take, drop, filter, sym, ap, ◌∙◌, arith}
use Rattle.std.proofs.lemmas.List.{length-map, take_at, drop-append-le}
use Rattle.std.proofs.lemmas.Bool.{not_from_true, and_from, and_left, and_right}
use Rattle.address.specs.Text.{Text}
use Rattle.address.specs.Address.{same_bare}
use Rattle.keep_first.specs.Keep.{some, keep_first}
use Rattle.keep_first.specs.Model.{kept}
use Rattle.audience.specs.Mail.{Mail, nobody, incoming}
use Rattle.audience.specs.Rules.{Grant}
use Rattle.audience.specs.Due.{counts}
use Rattle.mail.specs.declared.letter.Mail as mail
use Rattle.mail.specs.declared.list.Mailboxes.{Mailboxes}
use Rattle.mail.specs.declared.candidate_roll.Candidates.{Candidates}
use Rattle.mail.specs.Letters.{letter, people, texts}
use Rattle.mail.specs.Marks.{marked}
use Rattle.mail.specs.Rolls.{classes_of, preferred_of, roll_texts}
use Rattle.mail.proofs.Marked.{marked_all}
use Rattle.mail.proofs.Spelled.{kept_number}
use Rattle.recipients.proofs.People.{length-people, incoming_behind}

module _ (listed : Text → Bool) (m : Mail) (g : Grant) (t : Text) where
  abbrev bot : Bool
  bot = same_bare m.bot t

  abbrev author : Bool
  author = g.author && same_bare m.author t

  abbrev copied : Bool
  copied = some (same_bare t) g.cc

  pub uncounted_bot : bot ≡ true → false ≡ counts listed m g t
  uncounted_bot e = sym (and_right (not (listed t)) _ (and_right (not (nobody t)) _ (and_left (not bot) (not author && not copied) (not_from_true bot e))))

  pub uncounted_author : g.author ≡ true → same_bare m.author t ≡ true → false ≡ counts listed m g t
  uncounted_author e f =
      sym (and_right (not (listed t)) _ (and_right (not (nobody t)) _ (and_right (not bot) _ (and_left (not author) (not copied) (not_from_true author (and_from _ _ e f))))))

  pub counted_unless_copied : (r : Bool) → nobody t ≡ false → bot ≡ false → author ≡ false → listed t ≡ false → r ≡ copied → not r ≡ counts listed m g t
  counted_unless_copied r e f h l q = ap not q ∙ sym (λ i. not (l i) && (not (e i) && (not (f i) && (not (h i) && not copied))))

-- the roll of the incoming addresses
module _ (r : Candidates) (m : mail.Mail) (l : Mailboxes) (passes : Text → Bool) (first : r.start ≡ 1) (marks : r.takes.now ≡ map passes (incoming (letter m))) where
  abbrev all : List Text
  all = incoming (letter m)

  roll_is : roll_texts r m l ≡ all
  unfolding roll_texts
  roll_is =
      (λ i. take (length (marks i)) (drop (first i) (people m ++ texts l)))
      ∙ ap (take (length (map passes all))) (drop-append-le 1 (people m) (texts l) (omega (arith, m.counted, length-people m)) ∙ ap (λ ts. ts ++ texts l) (sym (incoming_behind m)))
      ∙ take_at all (texts l) (length (map passes all)) (sym (length-map all passes))

  pub counted_is : (n : ℕ) → n ≡ length (kept (classes_of (roll_texts r m l) r.takes.now) (preferred_of (roll_texts r m l))) → n ≡ length (keep_first same_bare (λ t. false) (filter passes all))
  counted_is n e =
      let ts = roll_texts r m l in
      let short : length r.takes.now ≤ length (roll_texts r m l) = omega (arith, ap length marks, ap length roll_is, length-map all passes) in
      e
      ∙ kept_number ts r.takes.now short (preferred_of ts) (λ t. false)
      ∙ ap (λ us. length (keep_first same_bare (λ t. false) us)) ((λ i. marked (marks i) (roll_is i)) ∙ marked_all passes all)
