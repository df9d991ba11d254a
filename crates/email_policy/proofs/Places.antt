-- What passes a question at one place passes it at every place.
use Rattle.std.proofs.Common.{◌≡◌, ℕ, ◌+◌, Bool, true, false, cond, not, ◌&&◌, ltb, List, [], ◌∷◌, length, take, Some, None, Ok, Err, Option, Result, refl, ◌∙◌, arith}
use Rattle.std.specs.Str.{bytes_eq}
use Rattle.std.proofs.lemmas.Bool.{cond-false}
use Rattle.std.specs.List.{list_any}
use Rattle.address.specs.Text.{Text, blank, trimmed, empty, text_fault}
use Rattle.address.specs.Address.{bare, sides}
use Rattle.address.specs.declared.text.TextFault.{TextFault}
use Rattle.roll.specs.Reading.{texts_fault}
use Rattle.roll.specs.declared.fault.RollFault.{RollFault}
use Rattle.roll.proofs.Clean.{text_anywhere, texts_anywhere}
use Rattle.email_policy.specs.declared.fault.KeyFault.{KeyFault}
use Rattle.email_policy.specs.declared.fault.KeyFault.TheVariants.{NoBare, Sides}
use Rattle.email_policy.specs.declared.fault.RecordFault.{RecordFault}
use Rattle.email_policy.specs.Policy.{ListPolicy}
use Rattle.email_policy.specs.Keys.{longest_key, key_length, key_text, good_sides, key_form, or_else, key_fault}
use Rattle.email_policy.specs.Questions.{then_texts, bytes_fault, own_place}
use Rattle.email_policy.specs.Lawful.{PlaceFree}

-- texts

then_parts : (r : Result (Unit {0}) RollFault) (next : Result (Unit {0}) RecordFault) → then_texts r next ≡ Ok tt → (r ≡ Ok tt) × (next ≡ Ok tt)
then_parts (Ok u) next h = (refl, h)
then_parts (Err f) next h = let z : ◌≡◌ {A = ℕ} 0 1 = cc in absurd (omega arith)

pub bytes_pass : (p : ListPolicy) (a b c d : ℕ) → bytes_fault p a b ≡ Ok tt → bytes_fault p c d ≡ Ok tt
bytes_pass p a b c d h =
    let i = then_parts (texts_fault (a + 2) p.cc) (then_texts (texts_fault (b + 2) p.ignored_emails) (Ok tt)) h in
    let j = then_parts (texts_fault (b + 2) p.ignored_emails) (Ok tt) i.1 in
    rw (texts_anywhere (a + 2) (c + 2) p.cc i.0, texts_anywhere (b + 2) (d + 2) p.ignored_emails j.0)

-- a text that has the key's bare

missed : {X : Type 0} (b : Bool) (x : X) (o : Option X) → cond b (Some x) o ≡ None → (b ≡ false) × (o ≡ None)
missed true x o h = let z : ◌≡◌ {A = ℕ} 0 1 = cc in absurd (omega arith)
missed false x o h = (refl, h)

pub own_passes : (own : Text) (ts : List Text) (a b : ℕ) → own_place own a ts ≡ None → own_place own b ts ≡ None
unfolding own_place
own_passes own [] a b h = refl
own_passes own (t ∷ ts) a b h =
    let p = missed (bytes_eq (bare t) own) a (own_place own (a + (2 + length t)) ts) h in
    cond-false _ _ _ p.0 ∙ own_passes own ts (a + (2 + length t)) (b + (2 + length t)) p.1

-- keys

pub else_parts : {X : Type 0} (o next : Option X) → or_else o next ≡ None → (o ≡ None) × (next ≡ None)
else_parts None next h = (refl, h)
else_parts (Some x) next h = let z : ◌≡◌ {A = ℕ} 0 1 = cc in absurd (omega arith)

length_passes : (r s : Result (Unit {0}) TextFault) (n a b : ℕ) → (r ≡ Ok tt → s ≡ Ok tt) → key_length a r n ≡ None → key_length b s n ≡ None
length_passes (Ok u) s n a b m h =
    let p = missed (ltb longest_key n) _ None h in
    rw (m refl) (cond-false _ _ _ p.0)
length_passes (Err f) s n a b m h = let z : ◌≡◌ {A = ℕ} 0 1 = cc in absurd (omega arith)

form_passes : (t : Text) (s : Option (Text × Text)) (own : Text) (a b : ℕ) → key_form a t s own ≡ None → key_form b t s own ≡ None
form_passes t None own a b h = let z : ◌≡◌ {A = ℕ} 0 1 = cc in absurd (omega arith)
form_passes t (Some s) own a b h = both (good_sides s && not (list_any blank t)) (empty own) h
  where
    both : (x y : Bool) → ◌≡◌ {A = Option KeyFault} (cond x (cond y (Some (NoBare a)) None) (Some (Sides a))) None → ◌≡◌ {A = Option KeyFault} (cond x (cond y (Some (NoBare b)) None) (Some (Sides b))) None
    both true true k = let z : ◌≡◌ {A = ℕ} 0 1 = cc in absurd (omega arith)
    both true false k = refl
    both false y k = let z : ◌≡◌ {A = ℕ} 0 1 = cc in absurd (omega arith)

pub key_passes : (key : Text) (at first at' first' : ℕ) → key_fault at first key ≡ None → key_fault at' first' key ≡ None
unfolding key_fault
key_passes key at first at' first' h =
    let p = else_parts (key_text first key) (key_form at (trimmed key) (sides (trimmed key)) (bare key)) h in
    let i = length_passes (text_fault first (take longest_key key)) (text_fault first' (take longest_key key)) (length key) first first' (text_anywhere first first' (take longest_key key)) p.0 in
    let j = form_passes (trimmed key) (sides (trimmed key)) (bare key) at at' p.1 in
    rw i j

pub place_free : PlaceFree
place_free = record { bytes = bytes_pass; own = own_passes; key = key_passes }
