-- How a policy is packed as a record: a bit map, then only the fields whose bit stands.
use Rattle.std.specs.Prelude.{ℕ, ◌+◌, Bool, true, false, List, [], ◌∷◌, ◌++◌, is_some, Some, None, Option}
use Rattle.address.specs.Text.{Text}
use Rattle.roll.specs.Packing.{pack_roll}
use Rattle.email_policy.specs.Policy.{ListPolicy, DefaultPolicy}
use Rattle.email_policy.specs.Numbers.{weighed, reply_number, rank_number, mute_number}

abbrev pub pack_field : {X : Type 0} → (X → ℕ) → Option X → List ℕ
pack_field number None = []
pack_field number (Some x) = number x ∷ []

abbrev pub some_text : List Text → Bool
some_text [] = false
some_text (t ∷ ts) = true

-- an empty roll is left out
abbrev pub pack_part : List Text → List ℕ
pack_part [] = []
pack_part (t ∷ ts) = pack_roll (t ∷ ts)

abbrev pub bit_map : ListPolicy → ℕ
bit_map p =
    weighed (is_some p.reply_to) 1
    + (weighed (is_some p.positive_review) 2
    + (weighed (is_some p.mute_all) 4
    + (weighed (some_text p.cc) 8
    + weighed (some_text p.ignored_emails) 16)))

unfoldable pub pack_policy : ListPolicy → List ℕ
pack_policy p =
    (bit_map p ∷ [])
    ++ (pack_field reply_number p.reply_to
    ++ (pack_field rank_number p.positive_review
    ++ (pack_field mute_number p.mute_all
    ++ (pack_part p.cc
    ++ pack_part p.ignored_emails))))

-- the defaults are packed as a policy that leaves none of the three out
abbrev pub as_list : DefaultPolicy → ListPolicy
as_list d = record {
  reply_to = Some d.reply_to;
  positive_review = Some d.positive_review;
  mute_all = Some d.mute_all;
  cc = d.cc;
  ignored_emails = d.ignored_emails;
}
