-- An answer is read back from its bytes.
use Rattle.std.proofs.Common.{◌≡◌, ℕ, ◌+◌, ◌/◌, Bool, true, false, List, [], ◌∷◌, ◌++◌, length, drop, Some, None, sym, refl, ap, ◌∙◌, arith}
use Rattle.std.proofs.lemmas.List.{drop_at, length-append}
use Rattle.std.proofs.lemmas.Bool.{cond-true, cond-false, le-ltb}
use Rattle.address.specs.Text.{Text}
use Rattle.roll.specs.Laws.{Stands}
use Rattle.roll.specs.Packing.{pack_texts}
use Rattle.roll.specs.declared.limits.Limits.{Limits}
use Rattle.roll.proofs.Standing.{front, back}
use Rattle.roll.proofs.Parts.{packs_byte, packs_roll}
use Rattle.email_policy.specs.Numbers.{has_bit, rank_of}
use Rattle.email_policy.specs.Packing.{some_text, pack_part}
use Rattle.email_policy.specs.Reading.{part_at}
use Rattle.email_policy.specs.declared.policy.PositiveReviewPolicy.{PositiveReviewPolicy}
use Rattle.email_policy.specs.declared.policy.PositiveReviewPolicy.TheVariants.{None as to_none, Author as to_author, All as to_all}
use Rattle.email_policy.proofs.Parts.{texts_short}
use Rattle.audience.specs.Answers.{Recipients, mute, send}
use Rattle.email_router.specs.Envelope.{send_map, pack_send, pack_answer}
use Rattle.email_router.specs.Given.{Given, answered}
use Rattle.email_router.specs.Opened.{opened_map, opened_to, opened_cc, opened_rank, opened, Opens, OpensPositive, TrayTells, AnswersApart}

-- the bits of a Send
record Bits (b : ℕ) (p q : Bool) (k : PositiveReviewPolicy) : Type 0 where
  sends : has_bit b 1 ≡ true
  to : has_bit b 2 ≡ p
  cc : has_bit b 4 ≡ q
  rank : rank_of (b / 8) ≡ k

bits : (p q : Bool) (k : PositiveReviewPolicy) → Bits (send_map p q k) p q k
bits true true to_none = record { sends = refl; to = refl; cc = refl; rank = refl }
bits true true to_author = record { sends = refl; to = refl; cc = refl; rank = refl }
bits true true to_all = record { sends = refl; to = refl; cc = refl; rank = refl }
bits true false to_none = record { sends = refl; to = refl; cc = refl; rank = refl }
bits true false to_author = record { sends = refl; to = refl; cc = refl; rank = refl }
bits true false to_all = record { sends = refl; to = refl; cc = refl; rank = refl }
bits false true to_none = record { sends = refl; to = refl; cc = refl; rank = refl }
bits false true to_author = record { sends = refl; to = refl; cc = refl; rank = refl }
bits false true to_all = record { sends = refl; to = refl; cc = refl; rank = refl }
bits false false to_none = record { sends = refl; to = refl; cc = refl; rank = refl }
bits false false to_author = record { sends = refl; to = refl; cc = refl; rank = refl }
bits false false to_all = record { sends = refl; to = refl; cc = refl; rank = refl }

-- a roll that stands there is read, where its bit stands; a reading asks no limits
part_read : (bs : List ℕ) (a e : ℕ) (ts : List Text) → Stands bs a (pack_part ts) e → part_at (some_text ts) bs a ≡ ts
part_read bs a e [] s = refl
part_read bs a e (t ∷ ts) s =
    let limits : Limits = record { least = 0; most = length (t ∷ ts); longest = length (pack_texts (t ∷ ts)) } in
    (packs_roll limits bs a e (t ∷ ts) (record { least = omega arith; most = omega arith; longest = texts_short (length (pack_texts (t ∷ ts))) (t ∷ ts) (omega arith) }) s).1

front_stands : (p rest : List ℕ) → Stands (p ++ rest) 0 p (length p)
front_stands p rest = record {
  here = ap (λ l. p ++ l) (sym (drop_at p rest (length p) refl));
  long = omega arith;
  within = omega (arith, length-append p rest);
}

module _ (r : Recipients) (rank : PositiveReviewPolicy) (rest : List ℕ) where
  abbrev bs : List ℕ
  bs = pack_send r rank ++ rest

  abbrev map_byte : ℕ
  map_byte = send_map (some_text r.to) (some_text r.cc) rank

  all_stands : Stands bs 0 ((map_byte ∷ []) ++ (pack_part r.to ++ pack_part r.cc)) (length (pack_send r rank))
  unfolding pack_send
  all_stands = front_stands (pack_send r rank) rest

  rolls_stand : Stands bs 1 (pack_part r.to ++ pack_part r.cc) (length (pack_send r rank))
  rolls_stand = back bs 0 (length (pack_send r rank)) (map_byte ∷ []) (pack_part r.to ++ pack_part r.cc) all_stands

  map_read : opened_map bs ≡ map_byte
  map_read = (packs_byte bs 0 1 map_byte (front bs 0 (length (pack_send r rank)) (map_byte ∷ []) (pack_part r.to ++ pack_part r.cc) all_stands)).0

  to_read : opened_to bs ≡ r.to
  to_read =
      ap (λ b. part_at (has_bit b 2) bs 1) map_read
      ∙ ap (λ b. part_at b bs 1) (bits (some_text r.to) (some_text r.cc) rank).to
      ∙ part_read bs 1 (1 + length (pack_part r.to)) r.to (front bs 1 (length (pack_send r rank)) (pack_part r.to) (pack_part r.cc) rolls_stand)

  cc_read : opened_cc bs ≡ r.cc
  cc_read =
      ap (λ b. part_at (has_bit b 4) bs (1 + length (pack_part (opened_to bs)))) map_read
      ∙ ap (λ b. part_at b bs (1 + length (pack_part (opened_to bs)))) (bits (some_text r.to) (some_text r.cc) rank).cc
      ∙ ap (λ ts. part_at (some_text r.cc) bs (1 + length (pack_part ts))) to_read
      ∙ part_read bs (1 + length (pack_part r.to)) (length (pack_send r rank)) r.cc (back bs 1 (length (pack_send r rank)) (pack_part r.to) (pack_part r.cc) rolls_stand)

  rank_read : opened_rank bs ≡ rank
  rank_read = ap (λ b. rank_of (b / 8)) map_read ∙ (bits (some_text r.to) (some_text r.cc) rank).rank

  send_opens : opened bs ≡ send r rank
  unfolding opened
  send_opens =
      let t = to_read in
      let c = cc_read in
      let k = rank_read in
      let is_send = ap (λ b. has_bit b 1) map_read ∙ (bits (some_text r.to) (some_text r.cc) rank).sends in
      cond-true _ _ _ is_send ∙ (λ i. send (record { to = t i; cc = c i }) (k i))

pub opens : Opens
unfolding opened
opens mute rest = refl
opens (send r rank) rest = send_opens r rank rest

pub opens_positive : OpensPositive
unfolding opened
opens_positive None rest = refl
opens_positive (Some r) rest = send_opens r to_none rest

pub tray_tells : TrayTells
unfolding answered
tray_tells a scratch tray room =
    ap (λ (g : Given). opened g.tray) (cond-false _ _ _ (le-ltb (length tray) (length (pack_answer a)) room)) ∙ opens a (drop (length (pack_answer a)) tray)

pub answers_apart : AnswersApart
answers_apart a b rest more e = sym (opens a rest) ∙ ap opened e ∙ opens b more
