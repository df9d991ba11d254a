-- A mail's people by their numbers: the author, To, and then Cc.
use Rattle.std.proofs.Common.{◌≡◌, ℕ, ◌+◌, ◌-◌, ◌<◌, List, [], ◌∷◌, map, length, get_or, take, drop, sym, ap, ◌∙◌, one-add, arith}
use Rattle.std.proofs.lemmas.List.{length-take-le, length-drop, length-map, take_all, take-map, drop-map}
use Rattle.address.specs.Text.{Text}
use Rattle.audience.specs.Mail.{incoming}
use Rattle.mail.specs.declared.letter.Mail.{Mail}
use Rattle.mail.specs.Parts.{text_in}
use Rattle.mail.specs.Letters.{letter, people}
use Rattle.grants.proofs.Addressed.{incoming_is}

first_then : (ts : List Text) (n : ℕ) → n < length ts → get_or ts 0 [] ∷ take n (drop 1 ts) ≡ take (1 + n) ts
first_then [] n h = absurd (omega arith)
first_then (t ∷ ts) n h = ap (λ k. take k (t ∷ ts)) (sym (one-add n))

module _ (m : Mail) where
  pub length-people : length (people m) ≡ length m.people.now
  length-people = length-map m.people.now text_in

  pub counted : m.to < length (people m)
  counted = omega (arith, m.counted, length-people)

  -- the author and To
  pub front_is : (letter m).author ∷ (letter m).to ≡ take (1 + m.to) (people m)
  unfolding letter
  front_is = first_then (people m) m.to counted

  -- To and Cc
  pub incoming_behind : incoming (letter m) ≡ drop 1 (people m)
  incoming_behind = incoming_is m ∙ sym (drop-map text_in 1 m.people.now)

  pub length_to : length (letter m).to ≡ m.to
  unfolding letter
  length_to = length-take-le m.to (drop 1 (people m)) (omega (arith, counted, length-drop 1 (people m)))

  pub length_cc : length (letter m).cc ≡ length (people m) - (1 + m.to)
  unfolding letter
  length_cc = length-drop (1 + m.to) (people m)

  pub length-incoming : length (incoming (letter m)) ≡ length (people m) - 1
  length-incoming = ap length incoming_behind ∙ length-drop 1 (people m)

-- the texts of the author and of To, as a slice has them
pub front_texts : (m : Mail) (n : ℕ) → n ≡ 1 + m.to → map text_in (take n m.people.now) ≡ (letter m).author ∷ (letter m).to
front_texts m n e = sym (take-map text_in n m.people.now) ∙ ap (λ k. take k (people m)) e ∙ sym (front_is m)

-- the texts of Cc, as a slice has them
pub behind_texts : (m : Mail) (n : ℕ) → n ≡ length m.people.now - (1 + m.to) → map text_in (take n (drop (1 + m.to) m.people.now)) ≡ (letter m).cc
unfolding letter
behind_texts m n e = ap (map text_in) (take_all n (drop (1 + m.to) m.people.now) (omega (arith, length-drop (1 + m.to) m.people.now))) ∙ sym (drop-map text_in (1 + m.to) m.people.now)

module _ (m : Mail) where
  pub incoming_texts : map text_in (take (length m.people.now - 1) (drop 1 m.people.now)) ≡ incoming (letter m)
  incoming_texts = ap (map text_in) (take_all (length m.people.now - 1) (drop 1 m.people.now) (omega (arith, length-drop 1 m.people.now))) ∙ sym (incoming_is m)

  pub to_texts_behind : (n : ℕ) → n ≡ m.to → map text_in (take n (drop 1 m.people.now)) ≡ (letter m).to
  unfolding letter
  to_texts_behind n e = sym (take-map text_in n (drop 1 m.people.now)) ∙ ap (λ k. take k (map text_in (drop 1 m.people.now))) e ∙ ap (take m.to) (sym (drop-map text_in 1 m.people.now))
