-- Marks: how many there are, and one after another.
use Rattle.std.proofs.Common.{◌≡◌, ℕ, ◌+◌, ◌-◌, ◌<◌, ◌≤◌, Bool, ◌&&◌, List, [], ◌∷◌, ◌++◌, map, length, get_or, drop, sym, ap, ◌∙◌, arith}
use Rattle.std.proofs.lemmas.List.{length-map, length-append, drop_all, drop_more}
use Rattle.address.specs.Text.{Text}
use Rattle.audience.specs.Mail.{mailable}
use Rattle.audience.specs.Rules.{Grant}
use Rattle.mail.specs.declared.letter.Mail.{Mail}
use Rattle.mail.specs.declared.mailbox.Mailbox.{Mailbox}
use Rattle.mail.specs.Letters.{letter, people}
use Rattle.mail.specs.Parts.{text_in}
use Rattle.mail.specs.Tables.{filled}
use Rattle.mail.proofs.Held.{filled_none, filled_turn}
use Rattle.recipients.specs.Choices.{qualifies_by, to_marks, apart, cc_marks}
use Rattle.recipients.proofs.People.{length_to, length_cc}

module _ (keys : List Text) (m : Mail) (g : Grant) (individuals : Bool) where
  abbrev qualifies : Text → Bool
  qualifies t = qualifies_by keys (letter m) g individuals t

  pub length-to_marks : length (to_marks keys (letter m) g individuals) ≡ 1 + m.to
  unfolding to_marks
  length-to_marks = omega (arith, length-map (letter m).to (λ t. qualifies t && mailable (letter m) t), length_to m)

  module _ (taken : List Text) where
    abbrev apart_here : Text → Bool
    apart_here t = apart keys (letter m) g individuals taken t

    pub length-cc_marks : length (cc_marks keys (letter m) g individuals taken) ≡ length (people m) - (1 + m.to) + length g.cc
    unfolding cc_marks
    length-cc_marks =
        length-append (map (λ t. qualifies t && apart_here t) (letter m).cc) (map apart_here g.cc)
        ∙ (λ i. (length-map (letter m).cc (λ t. qualifies t && apart_here t) ∙ length_cc m) i + length-map g.cc apart_here i)

-- a mark for each mailbox of a table, one after another
module _ (n : ℕ) (passes : Text → Bool) (ms : List Mailbox) (i : ℕ) (marks all : List Bool) where
  module _ (m : Mailbox) (marks' : List Bool) (b : Bool) (h : i < length ms) (here : m ≡ get_or ms i m) (is_mark : b ≡ passes (text_in m)) (written : marks' ≡ filled n marks (b ∷ [])) where
    first : map passes (map text_in (drop i ms)) ≡ b ∷ map passes (map text_in (drop (i + 1) ms))
    first =
        ap (λ (l : List Mailbox). map passes (map text_in l)) (drop_more ms i m h ∙ ap (λ (x : Mailbox). x ∷ drop (i + 1) ms) (sym here))
        ∙ ap (λ (x : Bool). x ∷ map passes (map text_in (drop (i + 1) ms))) (sym is_mark)

    pub mark_turn : filled n marks (map passes (map text_in (drop i ms))) ≡ all → filled n marks' (map passes (map text_in (drop (i + 1) ms))) ≡ all
    mark_turn = filled_turn n marks marks' _ _ all (b ∷ []) written first

    -- the same, where more marks follow
    pub mark_turn_before : (more : List Bool) → filled n marks (map passes (map text_in (drop i ms)) ++ more) ≡ all → filled n marks' (map passes (map text_in (drop (i + 1) ms)) ++ more) ≡ all
    mark_turn_before more = filled_turn n marks marks' _ _ all (b ∷ []) written (ap (λ l. l ++ more) first)

  pub mark_end : length ms ≤ i → filled n marks (map passes (map text_in (drop i ms))) ≡ all → marks ≡ all
  mark_end h was =
      filled_none n marks ∙ ap (λ (l : List Mailbox). filled n marks (map passes (map text_in l))) (sym (drop_all i ms h)) ∙ was
