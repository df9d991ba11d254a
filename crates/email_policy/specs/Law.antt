-- The law of packed records, both ways, at any place.
use Rattle.std.specs.Prelude.{◌≡◌, ℕ, ◌≤◌, Bool, true, List, length, is_some, Ok}
use Rattle.roll.specs.Laws.{Bytes, Stands}
use Rattle.email_policy.specs.Policy.{ListPolicy, DefaultPolicy}
use Rattle.email_policy.specs.Packing.{pack_policy, as_list}
use Rattle.email_policy.specs.Ends.{record_end, whole_record, longest_record}
use Rattle.email_policy.specs.Reading.{read_policy, as_defaults}

-- what a record can hold; in the defaults (`full`) none of the three is left out
pub record Within (full : Bool) (p : ListPolicy) : Type 0 where
  pub cc : length p.cc ≤ 32
  pub ignored : length p.ignored_emails ≤ 32
  pub short : length (pack_policy p) ≤ longest_record
  pub complete : full ≡ true → (is_some p.reply_to ≡ true) × (is_some p.positive_review ≡ true) × (is_some p.mute_all ≡ true)

abbrev pub ReadsPolicies : Type 0
ReadsPolicies = (full : Bool) (bs : List ℕ) (a e : ℕ) → Bytes bs → record_end full bs a ≡ Ok e → Stands bs a (pack_policy (read_policy bs a)) e × Within full (read_policy bs a)

abbrev pub PacksPolicies : Type 0
PacksPolicies = (full : Bool) (bs : List ℕ) (a e : ℕ) (p : ListPolicy) → Within full p → Stands bs a (pack_policy p) e → (record_end full bs a ≡ Ok e) × (read_policy bs a ≡ p)

-- the bytes are the packed record of this policy
pub record Packed (full : Bool) (bs : List ℕ) (p : ListPolicy) : Type 0 where
  pub within : Within full p
  pub packed : pack_policy p ≡ bs

-- a record that fills its slice is accepted exactly when some policy packs to it, and that policy is read
abbrev pub ReadsWhole : Type 0
ReadsWhole = (full : Bool) (bs : List ℕ) → Bytes bs → whole_record full bs ≡ Ok tt → Packed full bs (read_policy bs 0)

abbrev pub PacksWhole : Type 0
PacksWhole = (full : Bool) (bs : List ℕ) (p : ListPolicy) → Packed full bs p → (whole_record full bs ≡ Ok tt) × (read_policy bs 0 ≡ p)

-- none of the three is left out
abbrev pub Complete : ListPolicy → Type 0
Complete p = (is_some p.reply_to ≡ true) × (is_some p.positive_review ≡ true) × (is_some p.mute_all ≡ true)

-- defaults are policies that leave none of the three out
abbrev pub DefaultsReadBack : Type 0
DefaultsReadBack = ((d : DefaultPolicy) → as_defaults (as_list d) ≡ d) × ((p : ListPolicy) → Complete p → as_list (as_defaults p) ≡ p)
