-- The lines of a roll's texts, text by text.
use Rattle.std.proofs.Common.{◌≡◌, ℕ, ◌+◌, ◌-◌, ◌<◌, ◌≤◌, true, false, Bool, List, [], ◌∷◌, ◌++◌, length, take, drop, Some, None, sym, refl, ap, ◌∙◌, arith}
use Rattle.std.proofs.lemmas.Bool.{cond-true, cond-false, false≢true}
use Rattle.std.proofs.lemmas.List.{append_assoc, append-nil, length-append, length-drop, take_rest}
use Rattle.address.specs.Text.{Text}
use Rattle.roll.specs.Packing.{pack_text, pack_texts}
use Rattle.roll.specs.Reading.{read_text, texts_from}
use Rattle.roll.proofs.Readings.{text_read, left_some, left_none, left_all, texts_counted}
use Rattle.roll.proofs.Sized.{pack_texts_none}
use Rattle.roll.specs.Ends.{read_word}
use Rattle.email_policy.specs.Numbers.{has_bit}
use Rattle.email_policy.specs.Packing.{pack_part}
use Rattle.email_policy.specs.Reading.{part_at}
use Rattle.audience.specs.Answers.{mute, send}
use Rattle.grants.specs.declared.pass.Pass.{Pass}
use Rattle.grants.specs.declared.pass.Pass.TheVariants.{First}
use Rattle.email_router.specs.Opened.{opened, opened_map, opened_rank}
use Rattle.replay.specs.People.{text_line, roll_lines, recipient_lines, rank_line, opened_recipients, answer_lines}

pub packed_more : (t : Text) (ts : List Text) → length (pack_texts (t ∷ ts)) ≡ 2 + length t + length (pack_texts ts)
unfolding pack_texts
packed_more t ts = omega (arith, length-append (pack_text t) (pack_texts ts))

-- i of n texts have their lines, and `rest` is what follows them
pub record Listed (word : List ℕ) (n i : ℕ) (bytes rest before lines : List ℕ) (size : ℕ) : Type 0 where
  pub added : lines ++ roll_lines word (texts_from (n - i) rest) ≡ before ++ roll_lines word (texts_from n bytes)
  pub taken : size + length (pack_texts (texts_from (n - i) rest)) ≡ length (pack_texts (texts_from n bytes))
  pub within : size + length rest ≤ length bytes

pub record AllListed (word : List ℕ) (n : ℕ) (bytes before lines : List ℕ) (size : ℕ) : Type 0 where
  pub added : lines ≡ before ++ roll_lines word (texts_from n bytes)
  pub taken : size ≡ length (pack_texts (texts_from n bytes))
  pub within : size ≤ length bytes

module _ {word : List ℕ} {n i : ℕ} {bytes rest before lines : List ℕ} {size : ℕ} (w : Listed word n i bytes rest before lines size) where
  module _ (t more lines' : List ℕ) (h : i < n) (e : Some (t, more) ≡ read_text rest) (pushed : lines' ≡ lines ++ text_line word t) where
    shorter : length more + (2 + length t) ≡ length rest
    shorter =
        let r = text_read rest t more e in
        let l : length more ≡ length rest - (2 + length t) = ap length r.past ∙ length-drop (2 + length t) rest in
        let k = r.within in
        omega arith

    pub listed_more : Listed word n (i + 1) bytes more before lines' (size + (2 + length t))
    listed_more =
        let s = left_some n i rest t more h e in
        let ts : List Text = texts_from (n - (i + 1)) more in
        let k = packed_more t (texts_from (n - (i + 1)) more) in
        let c : length (pack_texts (texts_from (n - i) rest)) ≡ length (pack_texts (t ∷ texts_from (n - (i + 1)) more)) = ap (λ (us : List Text). length (pack_texts us)) s in
        let a = w.taken in
        let b = w.within in
        let d = shorter in
        record {
          added =
              ap (λ (l : List ℕ). l ++ roll_lines word (texts_from (n - (i + 1)) more)) pushed
              ∙ append_assoc lines (text_line word t) (roll_lines word (texts_from (n - (i + 1)) more))
              ∙ ap (λ (us : List Text). lines ++ roll_lines word us) (sym s)
              ∙ w.added;
          taken = omega arith;
          within = omega arith;
        }

  listed_end : texts_from (n - i) rest ≡ [] → AllListed word n bytes before lines size
  listed_end e =
      let z : length (pack_texts (texts_from (n - i) rest)) ≡ 0 = ap (λ (us : List Text). length (pack_texts us)) e ∙ ap length pack_texts_none in
      let a = w.taken in
      let b = w.within in
      record {
        added = sym (append-nil lines) ∙ ap (λ (us : List Text). lines ++ roll_lines word us) (sym e) ∙ w.added;
        taken = omega arith;
        within = omega arith;
      }

  pub listed_stop : i < n → None ≡ read_text rest → AllListed word n bytes before lines size
  listed_stop h e = listed_end (left_none n i rest h e)

  pub listed_all : n ≤ i → AllListed word n bytes before lines size
  listed_all h = listed_end (left_all n i rest h)

-- a roll without a text has no bytes
part_none : (ts : List Text) → length (pack_texts ts) ≡ 0 → length (pack_part ts) ≡ 0
part_none [] e = refl
part_none (t ∷ ts) e = absurd (omega (arith, packed_more t ts))

part_some : (ts : List Text) → 0 < length (pack_texts ts) → length (pack_part ts) ≡ 2 + length (pack_texts ts)
part_some [] h = absurd (omega (arith, ap length pack_texts_none))
part_some (t ∷ ts) h = omega arith

part_is : (stands : Bool) (bs : List ℕ) (at n : ℕ) → stands ≡ true → Some n ≡ read_word bs at → part_at stands bs at ≡ texts_from n (drop (at + 2) bs)
part_is true bs at n s e = texts_counted bs at n e
part_is false bs at n s e = absurd (false≢true s)

module _ (stands : Bool) (bs : List ℕ) (at n size : ℕ) (s : stands ≡ true) (e : Some n ≡ read_word bs at) (size_is : size ≡ length (pack_texts (texts_from n (take (length bs - (at + 2)) (drop (at + 2) bs))))) where
  k : size ≡ length (pack_texts (texts_from n (drop (at + 2) bs)))
  k = size_is ∙ ap (λ (l : List ℕ). length (pack_texts (texts_from n l))) (take_rest bs (at + 2))

  part_end : length (pack_part (part_at stands bs at)) ≡ length (pack_part (texts_from n (drop (at + 2) bs)))
  part_end = ap (λ (ts : List Text). length (pack_part ts)) (part_is stands bs at n s e)

  pub part_end_none : size ≡ 0 → at ≡ at + length (pack_part (part_at stands bs at))
  part_end_none z =
      let p = part_end in
      let l = k in
      let q = part_none (texts_from n (drop (at + 2) bs)) (omega arith) in
      omega arith

  pub part_end_some : 0 < size → at + 2 + size ≡ at + length (pack_part (part_at stands bs at))
  part_end_some z =
      let p = part_end in
      let l = k in
      let q = part_some (texts_from n (drop (at + 2) bs)) (omega arith) in
      omega arith

-- an answer as it opens, by its first bit
pub opened_send : (bs : List ℕ) → has_bit (opened_map bs) 1 ≡ true → opened bs ≡ send (opened_recipients bs) (opened_rank bs)
unfolding opened
opened_send bs e = cond-true _ _ _ e

pub opened_mute : (bs : List ℕ) → has_bit (opened_map bs) 1 ≡ false → opened bs ≡ mute
unfolding opened
opened_mute bs e = cond-false _ _ _ e

pub ranked : (pass : Pass) (bs before lines after : List ℕ) → pass ≡ First → has_bit (opened_map bs) 1 ≡ true → lines ≡ before ++ recipient_lines (opened_recipients bs) → after ≡ lines ++ rank_line (opened_rank bs) → after ≡ before ++ answer_lines pass (opened bs)
ranked pass bs before lines after p b l e =
    e
    ∙ ap (λ (x : List ℕ). x ++ rank_line (opened_rank bs)) l
    ∙ append_assoc before (recipient_lines (opened_recipients bs)) (rank_line (opened_rank bs))
    ∙ sym (λ i. before ++ answer_lines (p i) (opened_send bs b i))
