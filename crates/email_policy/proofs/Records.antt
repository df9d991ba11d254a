-- The law of records, both ways.
use Rattle.std.proofs.Common.{◌≡◌, ℕ, ◌+◌, ◌%◌, ◌≤◌, Bool, true, false, cond, ◌&&◌, ltb, leb, List, [], ◌∷◌, ◌++◌, length, get_or, is_some, Some, None, Ok, Err, Option, unwrap_or, sym, refl, ap, ◌∙◌, subst, arith}
use Rattle.std.proofs.lemmas.List.{length-append}
use Rattle.std.proofs.lemmas.Bool.{le-leb, leb-true, cond-true}
use Rattle.address.specs.Text.{Text}
use Rattle.roll.specs.Ends.{after, filled}
use Rattle.roll.specs.Laws.{Bytes, Stands}
use Rattle.roll.proofs.Standing.{join, front, back, one, stands_whole, whole_stands}
use Rattle.roll.proofs.Parts.{passed, went, ok_same}
use Rattle.roll.proofs.Wholes.{filled_read, filled_whole}
use Rattle.email_policy.specs.declared.policy.ReplyTo.{ReplyTo}
use Rattle.email_policy.specs.declared.policy.PositiveReviewPolicy.{PositiveReviewPolicy}
use Rattle.email_policy.specs.declared.fault.RecordFault.TheVariants.{TooLong, LeftOver}
use Rattle.email_policy.specs.Policy.{ListPolicy}
use Rattle.email_policy.specs.Numbers.{reply_number, rank_number, mute_number, has_bit, reply_of, rank_of, mute_of}
use Rattle.email_policy.specs.Packing.{pack_field, pack_part, some_text, bit_map, pack_policy}
use Rattle.email_policy.specs.Ends.{RecordEnd, byte_end, part_end, if_bit, fields_end, record_place, longest_record, capped, record_end}
use Rattle.email_policy.specs.Reading.{field_at, past, end_or, rank_place, mute_place, cc_place, ignored_place, read_policy}
use Rattle.email_policy.specs.Law.{Within, Complete, ReadsPolicies, PacksPolicies, ReadsWhole, PacksWhole, DefaultsReadBack}
use Rattle.email_policy.proofs.Numbers.{Numbered, replies, ranks, mutes, Bits, bits_of_sum, low_bits, sum_of_bits, full_bits}
use Rattle.email_policy.proofs.Parts.{reads_field, packs_field, ReadPart, reads_part, packs_part, reads_map, packs_map}

field_there : {X : Type 0} (value : ℕ → X) (on : Bool) (bs : List ℕ) (a : ℕ) → is_some (field_at value on bs a) ≡ on
field_there value true bs a = refl
field_there value false bs a = refl

-- what follows the bit map, read

module _ (bs : List ℕ) where
  field : {X : Type 0} (number : X → ℕ) (value : ℕ → X) (max : ℕ) → Numbered number value max → (on : Bool) (a e : ℕ) (next : ℕ → RecordEnd) → a ≤ length bs → after (if_bit on (byte_end max) bs a) next ≡ Ok e → Stands bs a (pack_field number (field_at value on bs a)) (past on a) × (next (past on a) ≡ Ok e)
  field number value max n on a e next l h =
      let w = went _ _ e h in
      let x = reads_field number value max n bs a w.0 on l w.1 in
      (subst (λ (k : ℕ). Stands bs a (pack_field number (field_at value on bs a)) k) x.1 x.0, subst (λ (k : ℕ). next k ≡ Ok e) x.1 w.2)

  module _ (s t : Bool) (a e : ℕ) where
    abbrev between : ℕ
    between = end_or a (if_bit s part_end bs a)

    rolls : Bytes bs → a ≤ length bs → after (if_bit s part_end bs a) (λ x. if_bit t part_end bs x) ≡ Ok e → ReadPart bs a between s × ReadPart bs between e t
    rolls b l h =
        let w = went _ _ e h in
        let x = reads_part bs a w.0 s b l w.1 in
        let y = reads_part bs w.0 e t b x.stands.within w.2 in
        let k : w.0 ≡ between = ap (end_or a) (sym w.1) in
        (subst (λ (m : ℕ). ReadPart bs a m s) k x, subst (λ (m : ℕ). ReadPart bs m e t) k y)

-- a record that stands at a place, but for its length

pub record StandsPolicy (full : Bool) (bs : List ℕ) (a e : ℕ) : Type 0 where
  pub stands : Stands bs a (pack_policy (read_policy bs a)) e
  pub copied : length (read_policy bs a).cc ≤ 32
  pub ignored : length (read_policy bs a).ignored_emails ≤ 32
  pub complete : full ≡ true → Complete (read_policy bs a)

pub reads_fields : (full : Bool) (bs : List ℕ) (a e : ℕ) → Bytes bs → fields_end full bs a ≡ Ok e → StandsPolicy full bs a e
unfolding pack_policy
reads_fields full bs a e b h =
    let w = went _ _ e h in
    let m = reads_map full bs a w.0 w.1 in
    let l = m.there in
    let h1 = rw m.ends at w.2 in
    let reply = field bs reply_number reply_of 7 replies (has_bit (get_or bs a 0) 1) (a + 1) e _ (omega arith) h1 in
    let rank = field bs rank_number rank_of 2 ranks (has_bit (get_or bs a 0) 2) (rank_place bs a) e _ reply.0.within reply.1 in
    let mute = field bs mute_number mute_of 1 mutes (has_bit (get_or bs a 0) 4) (mute_place bs a) e _ rank.0.within rank.1 in
    let both = rolls bs (has_bit (get_or bs a 0) 8) (has_bit (get_or bs a 0) 16) (cc_place bs a) e b mute.0.within mute.1 in
    let i = field_there reply_of (has_bit (get_or bs a 0) 1) bs (a + 1) in
    let j = field_there rank_of (has_bit (get_or bs a 0) 2) bs (rank_place bs a) in
    let k = field_there mute_of (has_bit (get_or bs a 0) 4) bs (mute_place bs a) in
    let sum : bit_map (read_policy bs a) ≡ get_or bs a 0 = rw (i, j, k, both.0.some, both.1.some) (sum_of_bits (get_or bs a 0) m.known) in
    record {
      stands = rw sum
          (join bs a (a + 1) e _ _ (one bs a l)
          (join bs (a + 1) (rank_place bs a) e _ _ reply.0
          (join bs (rank_place bs a) (mute_place bs a) e _ _ rank.0
          (join bs (mute_place bs a) (cc_place bs a) e _ _ mute.0
          (join bs (cc_place bs a) (ignored_place bs a) e _ _ both.0.stands both.1.stands)))));
      copied = both.0.few;
      ignored = both.1.few;
      complete = λ t. let f = full_bits (get_or bs a 0) (m.filled t) in (i ∙ f.0, j ∙ f.1, k ∙ f.2);
    }

-- and back

module _ (bs : List ℕ) where
  field_back : {X : Type 0} (number : X → ℕ) (value : ℕ → X) (max : ℕ) → Numbered number value max → (o : Option X) (a e : ℕ) (q : List ℕ) → Stands bs a (pack_field number o ++ q) e → (if_bit (is_some o) (byte_end max) bs a ≡ Ok (past (is_some o) a)) × (field_at value (is_some o) bs a ≡ o) × Stands bs (past (is_some o) a) q e
  field_back number value max n o a e q s =
      let p = packs_field number value max n bs a (a + length (pack_field number o)) o (front bs a e (pack_field number o) q s) in
      (p.0 ∙ ap Ok p.2, p.1, subst (λ (k : ℕ). Stands bs k q e) p.2 (back bs a e (pack_field number o) q s))

fields_same : (p : ListPolicy) {reply : Option ReplyTo} {rank : Option PositiveReviewPolicy} {mute : Option Bool} {copied ignored : List Text} → reply ≡ p.reply_to → rank ≡ p.positive_review → mute ≡ p.mute_all → copied ≡ p.cc → ignored ≡ p.ignored_emails → ◌≡◌ {A = ListPolicy} (record { reply_to = reply; positive_review = rank; mute_all = mute; cc = copied; ignored_emails = ignored }) p
fields_same p i j k l m = rw (i, j, k, l, m)

-- each roll is shorter than its record
rolls_short : (p : ListPolicy) → (length (pack_part p.cc) ≤ length (pack_policy p)) × (length (pack_part p.ignored_emails) ≤ length (pack_policy p))
unfolding pack_policy
rolls_short p = (simp length-append (omega arith), simp length-append (omega arith))

module _ (full : Bool) (bs : List ℕ) (a e : ℕ) (p : ListPolicy) (i : Within full p) (s : Stands bs a (pack_policy p) e) where
  bits : Bits (bit_map p) (is_some p.reply_to) (is_some p.positive_review) (is_some p.mute_all) (some_text p.cc) (some_text p.ignored_emails)
  bits = bits_of_sum (is_some p.reply_to) (is_some p.positive_review) (is_some p.mute_all) (some_text p.cc) (some_text p.ignored_emails)

  low : full ≡ true → bit_map p % 8 ≡ 7
  low t =
      let k = i.complete t in
      low_bits (is_some p.reply_to) (is_some p.positive_review) (is_some p.mute_all) (some_text p.cc) (some_text p.ignored_emails) k.0 k.1 k.2

  pub packs_fields : (fields_end full bs a ≡ Ok e) × (read_policy bs a ≡ p)
  unfolding pack_policy
  packs_fields =
      let h = packs_map full bs a (bit_map p) (front bs a e (bit_map p ∷ []) _ s) bits.small low in
      let m = h.0 in
      let b0 : has_bit (get_or bs a 0) 1 ≡ is_some p.reply_to = ap (λ x. has_bit x 1) m ∙ bits.reply in
      let b1 : has_bit (get_or bs a 0) 2 ≡ is_some p.positive_review = ap (λ x. has_bit x 2) m ∙ bits.rank in
      let b2 : has_bit (get_or bs a 0) 4 ≡ is_some p.mute_all = ap (λ x. has_bit x 4) m ∙ bits.mute in
      let b3 : has_bit (get_or bs a 0) 8 ≡ some_text p.cc = ap (λ x. has_bit x 8) m ∙ bits.copied in
      let b4 : has_bit (get_or bs a 0) 16 ≡ some_text p.ignored_emails = ap (λ x. has_bit x 16) m ∙ bits.ignored in
      let s0 = back bs a e (bit_map p ∷ []) _ s in
      let r = field_back bs reply_number reply_of 7 replies p.reply_to (a + 1) e _ s0 in
      let k = field_back bs rank_number rank_of 2 ranks p.positive_review (past (is_some p.reply_to) (a + 1)) e _ r.2 in
      let u = field_back bs mute_number mute_of 1 mutes p.mute_all (past (is_some p.positive_review) (past (is_some p.reply_to) (a + 1))) e _ k.2 in
      let at = past (is_some p.mute_all) (past (is_some p.positive_review) (past (is_some p.reply_to) (a + 1))) in
      let n = rolls_short p in
      let short = i.short in
      let c = packs_part bs at (at + length (pack_part p.cc)) p.cc i.cc (omega (arith, n.0)) (front bs at e (pack_part p.cc) (pack_part p.ignored_emails) u.2) in
      let g = packs_part bs (at + length (pack_part p.cc)) e p.ignored_emails i.ignored (omega (arith, n.1)) (back bs at e (pack_part p.cc) (pack_part p.ignored_emails) u.2) in
      rw (h.1, b0, b1, b2, b3, b4, r.0, k.0, u.0, c.0) (g.0, fields_same p r.1 k.1 u.1 c.1 g.1)

-- with the limit

pub capped_read : (size limit e : ℕ) (r : RecordEnd) → capped size limit r ≡ Ok e → (r ≡ Ok e) × (e ≤ limit)
capped_read size limit e (Ok x) h =
    let p = passed _ _ _ e h in
    let k : x ≡ e = ok_same p.1 in
    (p.1, subst (λ (y : ℕ). y ≤ limit) k (leb-true x limit p.0))
capped_read size limit e (Err f) h = absurd (never (ltb limit size && leb limit (record_place f)) h)
  where
    never : (b : Bool) → ◌≡◌ {A = RecordEnd} (cond b (Err (TooLong limit)) (Err f)) (Ok e) → ⊥
    never true k = let z : ◌≡◌ {A = ℕ} 0 1 = cc in omega arith
    never false k = let z : ◌≡◌ {A = ℕ} 0 1 = cc in omega arith

pub reads_policy : ReadsPolicies
reads_policy full bs a e b h =
    let c = capped_read (length bs) (a + longest_record) e (fields_end full bs a) h in
    let r = reads_fields full bs a e b c.0 in
    let m = c.1 in
    let l = r.stands.long in
    (r.stands, record { cc = r.copied; ignored = r.ignored; short = omega arith; complete = r.complete })

pub packs_policy : PacksPolicies
packs_policy full bs a e p i s =
    let r = packs_fields full bs a e p i s in
    let l = s.long in
    let m = i.short in
    let k : e ≤ a + longest_record = omega arith in
    (ap (capped (length bs) (a + longest_record)) r.0 ∙ cond-true _ _ _ (le-leb _ _ k), r.1)

-- all of the slice

pub reads_whole : ReadsWhole
reads_whole full bs b h =
    let p = went (record_end full bs 0) (filled LeftOver bs) tt h in
    let r = reads_policy full bs 0 p.0 b p.1 in
    let e : p.0 ≡ length bs = omega (arith, filled_read LeftOver bs p.0 p.2, r.0.within) in
    record { within = r.1; packed = stands_whole bs (pack_policy (read_policy bs 0)) (subst (λ (x : ℕ). Stands bs 0 (pack_policy (read_policy bs 0)) x) e r.0) }

pub packs_whole : PacksWhole
packs_whole full bs p k =
    let s : Stands bs 0 (pack_policy p) (length bs) = rw k.packed (whole_stands bs) in
    let r = packs_policy full bs 0 (length bs) p k.within s in
    (ap (λ e. after e (filled LeftOver bs)) r.0 ∙ filled_whole LeftOver bs, r.1)

-- the defaults

value_back : {X : Type 0} (o : Option X) (d : X) → is_some o ≡ true → Some (unwrap_or o d) ≡ o
value_back None d h = let z : ◌≡◌ {A = ℕ} 0 1 = cc in absurd (omega arith)
value_back (Some x) d h = refl

pub defaults_back : DefaultsReadBack
defaults_back = (
  λ d. refl,
  λ p c. fields_same p (value_back p.reply_to (reply_of 0) c.0) (value_back p.positive_review (rank_of 0) c.1) (value_back p.mute_all (mute_of 0) c.2) refl refl,
)
