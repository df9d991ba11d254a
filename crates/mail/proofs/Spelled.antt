-- What a roll of candidates mails, told of its texts.
use Rattle.std.proofs.Common.{◌≡◌, ℕ, ◌≤◌, Bool, List, [], map, length, sym, ap, ◌∙◌}
use mathlib.Core.List.{map-map}
use Rattle.std.proofs.lemmas.List.{length-map}
use Rattle.address.specs.Text.{Text, trimmed}
use Rattle.address.specs.Address.{same_bare}
use Rattle.audience.specs.Due.{has_angle}
use Rattle.keep_first.specs.Keep.{keep_first}
use Rattle.keep_first.specs.Model.{kept, places}
use Rattle.keep_first.proofs.Alike.{commutes}
use Rattle.keep_first.proofs.Counts.{length-kept_any}
use Rattle.mail.specs.declared.list.Mailboxes.{Mailboxes}
use Rattle.mail.specs.declared.letter.Mail.{Mail}
use Rattle.mail.specs.declared.candidate_roll.Candidates.{Candidates}
use Rattle.mail.specs.Marks.{marked}
use Rattle.mail.specs.Rolls.{text_at, classes_of, preferred_of, roll_texts, kept_places, mailed}
use Rattle.mail.proofs.Marked.{marked-places}

module _ (ts : List Text) (bs : List Bool) (short : length bs ≤ length ts) where
  -- the places that are kept hold what is kept of the marked texts, by whatever preference
  pub kept-texts_by : (preferred : Text → Bool) → map (text_at ts) (kept (classes_of ts bs) (λ i. preferred (text_at ts i))) ≡ keep_first same_bare preferred (marked bs ts)
  kept-texts_by preferred =
      commutes ℕ Text (text_at ts) same_bare preferred (places (classes_of ts bs))
      ∙ ap (keep_first same_bare preferred) (marked-places [] bs ts short)

  pub kept-texts : map (text_at ts) (kept (classes_of ts bs) (preferred_of ts)) ≡ keep_first same_bare has_angle (marked bs ts)
  kept-texts = kept-texts_by has_angle

  -- how many places are kept, for a count that asks no preference or another
  pub kept_number : (preferred : ℕ → Bool) (other : Text → Bool) → length (kept (classes_of ts bs) preferred) ≡ length (keep_first same_bare other (marked bs ts))
  kept_number preferred other =
      let by_text : ℕ → Bool = λ i. other (text_at ts i) in
      length-kept_any (classes_of ts bs) preferred by_text
      ∙ sym (length-map (kept (classes_of ts bs) by_text) (text_at ts))
      ∙ ap length (kept-texts_by other)

module _ (r : Candidates) (m : Mail) (l : Mailboxes) (short : length r.takes.now ≤ length (roll_texts r m l)) where
  pub mailed-spellings : mailed r m l ≡ map trimmed (keep_first same_bare has_angle (marked r.takes.now (roll_texts r m l)))
  unfolding kept_places
  mailed-spellings =
      sym (map-map trimmed (text_at (roll_texts r m l)) (kept_places r m l))
      ∙ ap (map trimmed) (kept-texts (roll_texts r m l) r.takes.now short)
