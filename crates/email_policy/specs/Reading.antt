-- The policy that is read at a place, from any bytes.
use Rattle.std.specs.Prelude.{ℕ, ◌+◌, Bool, true, false, List, [], Some, None, Ok, Err, Option, slice_index}
use Rattle.std.specs.Option.{unwrap_or}
use Rattle.address.specs.Text.{Text}
use Rattle.roll.specs.Reading.{texts_at}
use Rattle.email_policy.specs.Policy.{ListPolicy, DefaultPolicy}
use Rattle.email_policy.specs.Numbers.{has_bit, reply_of, rank_of, mute_of}
use Rattle.email_policy.specs.Ends.{RecordEnd, part_end, if_bit}

-- a field byte, where its bit stands
abbrev pub field_at : {X : Type 0} → (ℕ → X) → Bool → List ℕ → ℕ → Option X
field_at value true bs at = Some (value (slice_index bs at))
field_at value false bs at = None

abbrev pub part_at : Bool → List ℕ → ℕ → List Text
part_at true bs at = texts_at bs at
part_at false bs at = []

abbrev pub past : Bool → ℕ → ℕ
past true at = at + 1
past false at = at

abbrev pub end_or : ℕ → RecordEnd → ℕ
end_or at (Ok e) = e
end_or at (Err f) = at

-- where each field of the record at a place stands, or would stand
module _ (bs : List ℕ) (at : ℕ) where
  abbrev pub rank_place : ℕ
  rank_place = past (has_bit (slice_index bs at) 1) (at + 1)

  abbrev pub mute_place : ℕ
  mute_place = past (has_bit (slice_index bs at) 2) rank_place

  abbrev pub cc_place : ℕ
  cc_place = past (has_bit (slice_index bs at) 4) mute_place

  abbrev pub ignored_place : ℕ
  ignored_place = end_or cc_place (if_bit (has_bit (slice_index bs at) 8) part_end bs cc_place)

  abbrev pub read_policy : ListPolicy
  read_policy = record {
    reply_to = field_at reply_of (has_bit (slice_index bs at) 1) bs (at + 1);
    positive_review = field_at rank_of (has_bit (slice_index bs at) 2) bs rank_place;
    mute_all = field_at mute_of (has_bit (slice_index bs at) 4) bs mute_place;
    cc = part_at (has_bit (slice_index bs at) 8) bs cc_place;
    ignored_emails = part_at (has_bit (slice_index bs at) 16) bs ignored_place;
  }

-- the defaults that are read: what is left out is read as the byte 0
abbrev pub as_defaults : ListPolicy → DefaultPolicy
as_defaults p = record {
  reply_to = unwrap_or p.reply_to (reply_of 0);
  positive_review = unwrap_or p.positive_review (rank_of 0);
  mute_all = unwrap_or p.mute_all (mute_of 0);
  cc = p.cc;
  ignored_emails = p.ignored_emails;
}
