-- The questions on a record's texts, asked one text after another.
use Rattle.std.proofs.Common.{◌≡◌, ℕ, ◌+◌, ◌-◌, ◌<◌, ◌≤◌, min, true, false, cond, List, [], length, drop, Some, None, Option, sym, refl, ap, ◌∙◌, ⊎_elim, arith}
use Rattle.std.specs.Str.{bytes_eq}
use Rattle.std.proofs.lemmas.List.{drop-drop, get_or_past}
use Rattle.std.proofs.lemmas.Bool.{cases_lt}
use Rattle.address.specs.Text.{Text}
use Rattle.address.specs.Address.{bare}
use Rattle.roll.specs.Reading.{read_text, texts_from, texts_fault}
use Rattle.roll.proofs.Readings.{text_read, Walked, walk_room, left_some, left_none, left_all}
use Rattle.email_policy.specs.Questions.{own_place, SaysTheSame}

pub own_none : (own : Text) (at : ℕ) (ts : List Text) → ts ≡ [] → None ≡ own_place own at ts
unfolding own_place
own_none own at ts e = rw e

-- past the end of the bytes a record leaves all out
pub past_end : (bs : List ℕ) (here at : ℕ) → here ≡ min at (length bs) → SaysTheSame bs here bs at
unfolding own_place texts_fault
past_end bs here at e =
    ⊎_elim
    (λ h. let k : here ≡ at = omega arith in rw k (record { policy = refl; texts = refl; own = λ key. refl }))
    (λ h.
    let m = get_or_past bs here 0 (omega arith) in
    let n = get_or_past bs at 0 h in
    record { policy = rw (m, n); texts = rw (m, n); own = λ key. rw (m, n) })
    (cases_lt at (length bs))

-- the walk stands at `here`, and the texts that are left begin there
pub record Sought (own : Text) (n i : ℕ) (bs : List ℕ) (here : ℕ) (rest : List ℕ) (all : Option ℕ) : Type 0 where
  pub at : rest ≡ drop here bs
  pub within : here ≤ length bs
  pub left : own_place own here (texts_from (n - i) rest) ≡ all

module _ {own : Text} {n i : ℕ} {bs : List ℕ} {here : ℕ} {rest : List ℕ} {all : Option ℕ} (w : Sought own n i bs here rest all) where
  module _ (t more : List ℕ) (h : i < n) (e : Some (t, more) ≡ read_text rest) where
    pub seek_room : here + (2 + length t) ≤ length bs
    seek_room =
        let v : Walked n i bs here rest (texts_fault here (texts_from (n - i) rest)) = record { at = w.at; within = w.within; left = refl } in
        walk_room v t more h e

    seek_turn : cond (bytes_eq (bare t) own) (Some here) (own_place own (here + (2 + length t)) (texts_from (n - (i + 1)) more)) ≡ all
    unfolding own_place
    seek_turn = sym (ap (own_place own here) (left_some n i rest t more h e)) ∙ w.left

    pub seek_goes : bytes_eq (bare t) own ≡ false → Sought own n (i + 1) bs (here + (2 + length t)) more all
    seek_goes f =
        record {
          at = (text_read rest t more e).past ∙ ap (drop (2 + length t)) w.at ∙ drop-drop (2 + length t) here bs;
          within = seek_room;
          left = rw f at seek_turn;
        }

    pub seek_hits : bytes_eq (bare t) own ≡ true → Some here ≡ all
    seek_hits s = rw s at seek_turn

  pub seek_stops : i < n → None ≡ read_text rest → None ≡ all
  seek_stops h e = own_none own here (texts_from (n - i) rest) (left_none n i rest h e) ∙ w.left

  pub seek_ends : n ≤ i → None ≡ all
  seek_ends h = own_none own here (texts_from (n - i) rest) (left_all n i rest h) ∙ w.left
