-- No text of a roll is longer than two bytes can say.
use Rattle.std.proofs.Common.{ℕ, ◌+◌, ◌-◌, ◌<◌, ◌≤◌, List, [], ◌++◌, length, take, drop, refl, ap, inl, inr, arith}
use Rattle.std.proofs.lemmas.List.{length-take, length-drop, get_or_append_left, get_or-append_right}
use Rattle.std.proofs.lemmas.Bool.{cases_lt}
use Rattle.address.specs.Text.{Text, blank, unindented, trimmed}
use Rattle.std.specs.List.{prefix_len, suffix_len}
use Rattle.mail.specs.declared.list.Mailboxes.{Mailboxes}
use Rattle.mail.specs.declared.letter.Mail.{Mail}
use Rattle.mail.specs.declared.candidate_roll.Candidates.{Candidates}
use Rattle.mail.specs.Letters.{people, texts, candidates}
use Rattle.mail.specs.Rolls.{text_at, roll_texts}
use Rattle.mail.proofs.Numbered.{text_of_roll, no_text_of_roll}

pub length-trimmed : (t : Text) → length (trimmed t) ≤ length t
length-trimmed t =
    let a = length-drop (prefix_len blank t) t in
    let b = length-take (length (unindented t) - suffix_len blank (unindented t)) (unindented t) in
    omega arith

abbrev pub Short : List Text → Type 0
Short ts = (k : ℕ) → length (text_at ts k) < 65536

pub short_append : (ts us : List Text) → Short ts → Short us → Short (ts ++ us)
short_append ts us a b k = elim (cases_lt k (length ts)) [
  | inl h ↦ rw (get_or_append_left ts us [] k h) (a k)
  | inr h ↦ rw (get_or-append_right ts us (length ts) k [] refl h) (b (k - length ts))
]

short_part : (ts : List Text) (start n : ℕ) → Short ts → Short (take n (drop start ts))
short_part ts start n a i = elim (cases_lt i n) [
  | inl h ↦ let e = ap length (text_of_roll ts start n i h) in omega (arith, a (start + i))
  | inr h ↦ let e = ap length (no_text_of_roll ts start n i h) in omega arith
]

module _ (r : Candidates) (m : Mail) (l : Mailboxes) (i : ℕ) where
  pub text_short : length (text_at (roll_texts r m l) i) < 65536
  unfolding roll_texts
  text_short = short_part (candidates m l) r.start (length r.takes.now) (short_append (people m) (texts l) m.short l.short) i

  pub mailed_short : length (trimmed (text_at (roll_texts r m l) i)) < 65536
  mailed_short = omega (arith, text_short, length-trimmed (text_at (roll_texts r m l) i))
