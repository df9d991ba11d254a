-- The places of a roll that are kept, as the slots hold them, and the roll that is written from them.
use Rattle.std.proofs.Common.{◌≡◌, ℕ, ◌+◌, ◌-◌, ◌<◌, ◌≤◌, Bool, ltb, List, length, take, Some, None, ap, ◌∙◌, arith}
use Rattle.address.specs.Text.{Text, trimmed}
use Rattle.roll.specs.Packing.{word}
use Rattle.roll.specs.Written.{written, put, put_end}
use Rattle.email_policy.specs.Packing.{pack_part}
use Rattle.keep_first.specs.Model.{Classes, kept_count, kept_slots}
use Rattle.keep_first.proofs.KeptPlaces.{length-kept}
use Rattle.keep_first.proofs.Slots.{answered-some, slots_front}
use Rattle.mail.specs.declared.list.Mailboxes.{Mailboxes}
use Rattle.mail.specs.declared.letter.Mail.{Mail}
use Rattle.mail.specs.declared.candidate_roll.Candidates.{Candidates}
use Rattle.mail.specs.Rolls.{text_at, roll_texts, classes_of, preferred_of, kept_places, mailed}
use Rattle.email_router.proofs.Rows.{rows, part_left_out, count_accepted, texts_room, part_wrote}

module _ (r : Candidates) (m : Mail) (l : Mailboxes) where
  abbrev classes : Classes
  classes = classes_of (roll_texts r m l) r.takes.now

  abbrev preferred : ℕ → Bool
  preferred = preferred_of (roll_texts r m l)

  abbrev text : ℕ → Text
  text i = trimmed (text_at (roll_texts r m l) i)

  few-places : length (kept_places r m l) ≤ 9249
  unfolding kept_places
  few-places = omega (arith, r.few, length-kept classes preferred)

  module _ (slots : List ℕ) (k : ℕ) (answer : Some k ≡ kept_count classes preferred slots) where
    counted : k ≡ length (kept_places r m l)
    unfolding kept_places
    counted = (answered-some classes slots preferred k answer).1

    -- the first k slots, as the code cuts them out
    pub places_held : (after : List ℕ) → after ≡ kept_slots classes preferred slots → take (k - 0) after ≡ kept_places r m l
    unfolding kept_places
    places_held after e =
        let from : k - 0 ≡ k = omega arith in
        ap (λ n. take n after) from ∙ ap (take k) e ∙ slots_front classes slots preferred k answer

    module _ (d : List ℕ) (at : ℕ) (room : at + length (pack_part (mailed r m l)) ≤ length d) where
      pub roll_left_out : k ≡ 0 → (at ≡ at + length (pack_part (mailed r m l))) × (d ≡ written d at (pack_part (mailed r m l)))
      roll_left_out = part_left_out text (kept_places r m l) few-places d at k counted room

      module _ (some : 0 < k) where
        pub roll_accepted : None ≡ put_end (ltb k 65536) d at (word k) → ⊥
        roll_accepted = count_accepted text (kept_places r m l) few-places d at k counted room some

        module _ (first : ℕ) (next : Some first ≡ put_end (ltb k 65536) d at (word k)) where
          pub roll_room : first + length (rows text (kept_places r m l)) ≤ length d
          roll_room = texts_room text (kept_places r m l) few-places d at k counted room some first next

          pub roll_wrote : (mid tray : List ℕ) (end : ℕ) → mid ≡ put (ltb k 65536) d at (word k) → end ≡ first + length (rows text (kept_places r m l)) → tray ≡ written mid first (rows text (kept_places r m l)) → (end ≡ at + length (pack_part (mailed r m l))) × (tray ≡ written d at (pack_part (mailed r m l)))
          roll_wrote = part_wrote text (kept_places r m l) few-places d at k counted room some first next
