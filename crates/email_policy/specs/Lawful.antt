-- Which policies are lawful: each record and each key passes its questions, and the keys rise.
use Rattle.std.specs.Prelude.{◌≡◌, ℕ, ◌≤◌, Bool, true, false, List, [], ◌∷◌, ◌++◌, length, None, Ok}
use Rattle.std.specs.List.{flat_map}
use Rattle.address.specs.Text.{Text}
use Rattle.address.specs.Address.{bare}
use Rattle.roll.specs.Packing.{word, pack_text}
use Rattle.email_policy.specs.Policy.{ListPolicy, Entry, Policy}
use Rattle.email_policy.specs.Packing.{pack_policy, as_list}
use Rattle.email_policy.specs.Keys.{key_fault, rises}
use Rattle.email_policy.specs.Questions.{bytes_fault, own_place}
use Rattle.email_policy.specs.Law.{Within}

-- a record that passes its questions; where it stands does not matter
pub record Fine (full : Bool) (p : ListPolicy) : Type 0 where
  pub within : Within full p
  pub bytes : bytes_fault p 0 0 ≡ Ok tt

pub record FineEntry (e : Entry) : Type 0 where
  pub key : key_fault 0 0 e.key ≡ None
  pub policy : Fine false e.policy
  -- no cc text has the key's bare
  pub own : own_place (bare e.key) 0 e.policy.cc ≡ None

-- each entry is fine, and its key comes after the one before it; before the first stands the empty text
abbrev pub Rising : Text → List Entry → Type 0
Rising last [] = Unit {0}
Rising last (e ∷ es) = (rises last e.key ≡ true) × FineEntry e × Rising e.key es

-- a packed book: the defaults, the number of lists, and for each its key and its record
abbrev pub pack_entry : Entry → List ℕ
pack_entry e = pack_text e.key ++ pack_policy e.policy

unfoldable pub pack_book : Policy → List ℕ
pack_book p = pack_policy (as_list p.defaults) ++ (word (length p.lists) ++ flat_map pack_entry p.lists)

abbrev pub most_lists : ℕ
most_lists = 256

abbrev pub longest_book : ℕ
longest_book = 65535

pub record Lawful (p : Policy) : Type 0 where
  pub defaults : Fine true (as_list p.defaults)
  pub few : length p.lists ≤ most_lists
  pub rising : Rising [] p.lists
  pub small : length (pack_book p) ≤ longest_book

-- what passes a question at one place passes it at every place
pub record PlaceFree : Type 0 where
  pub bytes : (p : ListPolicy) (a b c d : ℕ) → bytes_fault p a b ≡ Ok tt → bytes_fault p c d ≡ Ok tt
  pub own : (own : Text) (ts : List Text) (a b : ℕ) → own_place own a ts ≡ None → own_place own b ts ≡ None
  pub key : (key : Text) (at first at' first' : ℕ) → key_fault at first key ≡ None → key_fault at' first' key ≡ None
