-- Worked examples: records, keys and their faults.
use Rattle.std.specs.Prelude.{◌≡◌, ℕ, true, false, List, [], ◌∷◌, ◌++◌, replicate, Some, None, Ok, Err, codes}
use Rattle.address.specs.Text.{Text}
use Rattle.address.specs.Address.{bare}
use Rattle.roll.specs.declared.fault.RollFault.TheVariants.{Count, Length, InText}
use Rattle.email_policy.specs.declared.fault.RecordFault.TheVariants.{Field, InRoll, TooLong, LeftOver}
use Rattle.email_policy.specs.declared.fault.KeyFault.TheVariants.{TooLong as KeyTooLong, InText as KeyInText, NoAt, Sides, NoBare}
use Rattle.email_policy.specs.declared.policy.PositiveReviewPolicy.TheVariants.{All}
use Rattle.email_policy.specs.Policy.{ListPolicy}
use Rattle.email_policy.specs.Packing.{pack_policy}
use Rattle.email_policy.specs.Ends.{record_end, whole_record}
use Rattle.email_policy.specs.Reading.{read_policy}
use Rattle.email_policy.specs.Questions.{bytes_fault, own_place}
use Rattle.email_policy.specs.Keys.{key_fault, rises}

-- defaults that reply to nobody
abbrev pub nobody : List ℕ
nobody = 7 ∷ 0 ∷ 0 ∷ 0 ∷ []

-- a policy with these cc texts and nothing else
abbrev pub copies : List Text → ListPolicy
copies ts = record { reply_to = None; positive_review = None; mute_all = None; cc = ts; ignored_emails = [] }

-- its record with one cc text of n bytes
abbrev pub long : ℕ → List ℕ
long n = pack_policy (copies (replicate n 97 ∷ []))

abbrev pub full_policy : ListPolicy
full_policy = record {
  reply_to = Some (record { author = true; list = false; recipients = true });
  positive_review = Some All;
  mute_all = Some false;
  cc = codes "s@x.test" ∷ codes "T <t@x.test>" ∷ [];
  ignored_emails = codes "bot@x.test" ∷ [];
}

pub record Records : Type 0 where
  pub defaults_of_zeros : whole_record true nobody ≡ Ok tt
  pub all_left_out : whole_record false (0 ∷ []) ≡ Ok tt
  pub no_bytes : whole_record false [] ≡ Err (Field 0)
  pub unknown_bit : whole_record false (32 ∷ []) ≡ Err (Field 0)
  pub defaults_without_mute : whole_record true (3 ∷ 0 ∷ 0 ∷ []) ≡ Err (Field 0)
  pub reply_byte_too_large : whole_record false (1 ∷ 8 ∷ []) ≡ Err (Field 1)
  pub field_byte_missing : whole_record false (3 ∷ 7 ∷ []) ≡ Err (Field 2)
  pub roll_of_no_text : whole_record false (8 ∷ 0 ∷ 0 ∷ []) ≡ Err (InRoll (Count 1))
  pub most_texts : whole_record false (pack_policy (copies (replicate 32 []))) ≡ Ok tt
  pub one_text_more : whole_record false (pack_policy (copies (replicate 33 []))) ≡ Err (InRoll (Count 1))
  pub text_past_the_end : whole_record false (8 ∷ 0 ∷ 1 ∷ 0 ∷ 9 ∷ 97 ∷ []) ≡ Err (InRoll (Length 3))
  pub bytes_left_over : whole_record true (nobody ++ replicate 2000 0) ≡ Err (LeftOver 4)
  pub longest : whole_record false (long 1019) ≡ Ok tt
  pub one_byte_longer : whole_record false (long 1020) ≡ Err (TooLong 1024)
  pub fault_before_the_limit : whole_record false (8 ∷ 0 ∷ 1 ∷ 9 ∷ 0 ∷ replicate 1100 97) ≡ Err (InRoll (Length 3))
  pub longest_before_others : record_end false (long 1019 ++ (1 ∷ 2 ∷ [])) 0 ≡ Ok 1024
  -- at the limit itself a missing byte is the roll's fault, and a byte that stands there is the limit's
  pub cut_at_the_limit : record_end false (16 ∷ 0 ∷ 2 ∷ 3 ∷ 251 ∷ replicate 1019 97) 0 ≡ Err (InRoll (Length 1024))
  pub byte_at_the_limit : record_end false (16 ∷ 0 ∷ 2 ∷ 3 ∷ 251 ∷ replicate 1020 97) 0 ≡ Err (TooLong 1024)
  pub past_the_end : record_end false nobody 9 ≡ Err (Field 9)
  pub read_back : read_policy (nobody ++ pack_policy full_policy) 4 ≡ full_policy
  pub bad_byte : bytes_fault (copies (codes "a" ∷ (98 ∷ 10 ∷ []) ∷ [])) 1 9 ≡ Err (InRoll (InText (record { place = 9 })))
  pub own_address : own_place (bare (codes "T@X.test")) 6 full_policy.cc ≡ Some 16

pub record Keys : Type 0 where
  pub fine : key_fault 4 6 (codes "l@x.test") ≡ None
  pub fine_with_a_name : key_fault 4 6 (codes " \"L@l\"<l@x.test>") ≡ None
  pub no_at : key_fault 4 6 (codes "x.test") ≡ Some (NoAt 4)
  pub no_dot : key_fault 4 6 (codes "l@x") ≡ Some (Sides 4)
  pub blank_inside : key_fault 4 6 (codes "L <l@x.test>") ≡ Some (Sides 4)
  pub no_bare : key_fault 4 6 (codes "<>@x.y") ≡ Some (NoBare 4)
  pub bad_byte : key_fault 4 6 (codes "l@x.te" ++ (10 ∷ [])) ≡ Some (KeyInText (record { place = 12 }))
  pub longest : key_fault 4 6 (codes "l@x." ++ replicate 250 97) ≡ None
  pub one_byte_longer : key_fault 4 6 (codes "l@x." ++ replicate 251 97) ≡ Some (KeyTooLong 260)
  pub length_before_a_bad_byte : key_fault 4 6 (replicate 254 97 ++ (10 ∷ [])) ≡ Some (KeyTooLong 260)
  pub by_bare : rises (codes "z <a@x.test>") (codes "b@x.test") ≡ true
  pub by_bytes : rises (codes "A@x.test") (codes "a@x.test") ≡ true
  pub not_after_itself : rises (codes "a@x.test") (codes "a@x.test") ≡ false
