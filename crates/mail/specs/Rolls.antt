-- Some of the candidates, as a roll.
use Rattle.std.specs.Prelude.{ℕ, Bool, false, List, [], map, length, take, drop, slice_index_or}
use Rattle.address.specs.Text.{Text, trimmed}
use Rattle.address.specs.Address.{same_bare}
use Rattle.audience.specs.Due.{has_angle}
use Rattle.audience.proofs.Bares.{by_bares}
use Rattle.keep_first.specs.Model.{Classes, Equivalence, kept}
use Rattle.keep_first.specs.Equivalences.{same_after}
use Rattle.mail.specs.declared.list.Mailboxes.{Mailboxes}
use Rattle.mail.specs.declared.letter.Mail.{Mail}
use Rattle.mail.specs.declared.candidate_roll.Candidates.{Candidates}
use Rattle.mail.specs.Letters.{candidates}

-- text i, empty past the last one
abbrev pub text_at : List Text → ℕ → Text
text_at ts i = slice_index_or ts i []

-- texts with marks for those that take part
abbrev pub classes_of : List Text → List Bool → Classes
classes_of ts marks = record {
  count = length marks;
  takes = λ i. slice_index_or marks i false;
  same = λ i j. same_bare (text_at ts i) (text_at ts j);
}

abbrev pub preferred_of : List Text → ℕ → Bool
preferred_of ts i = has_angle (text_at ts i)

pub alike_by_bare : (ts : List Text) (marks : List Bool) → Equivalence (classes_of ts marks).same
alike_by_bare ts marks = same_after (text_at ts) same_bare by_bares

-- the texts of a roll
unfoldable pub roll_texts : Candidates → Mail → Mailboxes → List Text
roll_texts r m l = take (length r.takes.now) (drop r.start (candidates m l))

-- the places that are kept, and the texts that are mailed for them
unfoldable pub kept_places : Candidates → Mail → Mailboxes → List ℕ
kept_places r m l = kept (classes_of (roll_texts r m l) r.takes.now) (preferred_of (roll_texts r m l))

abbrev pub mailed : Candidates → Mail → Mailboxes → List Text
mailed r m l = map (λ i. trimmed (text_at (roll_texts r m l) i)) (kept_places r m l)
