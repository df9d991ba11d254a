-- Candidates by their numbers.
use Rattle.std.proofs.Common.{◌≡◌, ℕ, ◌+◌, ◌<◌, ◌≤◌, List, [], take, drop, sym, ◌∙◌, arith}
use Rattle.std.proofs.lemmas.List.{get_or_past, get_or-take, get_or-drop, length-take}
use Rattle.address.specs.Text.{Text}
use Rattle.mail.specs.Rolls.{text_at}

-- the texts of a roll, from a number on
module _ (ts : List Text) (start n i : ℕ) where
  pub text_of_roll : i < n → text_at ts (start + i) ≡ text_at (take n (drop start ts)) i
  text_of_roll h = sym (get_or-take n (drop start ts) i [] h ∙ get_or-drop start ts i [])

  pub no_text_of_roll : n ≤ i → [] ≡ text_at (take n (drop start ts)) i
  no_text_of_roll h = sym (get_or_past (take n (drop start ts)) i [] (omega (arith, length-take n (drop start ts))))
