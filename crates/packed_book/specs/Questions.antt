-- The questions of a list one after another, over what they answer.
use Rattle.std.specs.Prelude.{◌≡◌, ℕ, ◌+◌, Bool, true, false, cond, List, Some, None, Ok, Err, Option, Result, refl}
use Rattle.std.proofs.Common.{◌∙◌, ap, arith}
use Rattle.std.specs.Option.{option_map}
use Rattle.address.specs.Text.{Text}
use Rattle.address.specs.Address.{bare}
use Rattle.roll.specs.Ends.{after}
use Rattle.roll.specs.declared.fault.RollFault.{RollFault}
use Rattle.roll.proofs.Parts.{went, ok_same}
use Rattle.email_policy.specs.Keys.{key_fault, rises}
use Rattle.email_policy.specs.Questions.{own_place}
use Rattle.email_policy.specs.Reading.{read_policy, cc_place}
use Rattle.email_policy.specs.declared.fault.KeyFault.{KeyFault}
use Rattle.email_policy.specs.declared.fault.PolicyFault.TheVariants.{Key, OwnAddress}
use Rattle.email_policy.specs.declared.fault.RecordFault.{RecordFault}
use Rattle.packed_book.specs.declared.fault.OpenFault.{OpenFault}
use Rattle.packed_book.specs.declared.fault.OpenFault.TheVariants.{InPolicy, Order}
use Rattle.packed_book.specs.Ends.{BookEnd, all_there, key_end, key_at, asked, in_policy, bytes_question, policy_end, list_end}

pub told : (o : Option OpenFault) (next : BookEnd) (e : ℕ) → asked o next ≡ Ok e → (o ≡ None) × (next ≡ Ok e)
told None next e h = (refl, h)
told (Some f) next e h = let z : ◌≡◌ {A = ℕ} 0 1 = cc in absurd (omega arith)

pub none_back : {X : Type 0} (f : X → OpenFault) (o : Option X) → option_map f o ≡ None → o ≡ None
none_back f None h = refl
none_back f (Some x) h = let z : ◌≡◌ {A = ℕ} 0 1 = cc in absurd (omega arith)

pub there_back : (at e : ℕ) (r : Result ℕ RollFault) → all_there at r ≡ Ok e → r ≡ Ok e
there_back at e (Ok x) h = ap Ok (ok_same h)
there_back at e (Err f) h = let z : ◌≡◌ {A = ℕ} 0 1 = cc in absurd (omega arith)

pub policy_back : (e : ℕ) (r : Result ℕ RecordFault) → in_policy r ≡ Ok e → r ≡ Ok e
policy_back e (Ok x) h = ap Ok (ok_same h)
policy_back e (Err f) h = let z : ◌≡◌ {A = ℕ} 0 1 = cc in absurd (omega arith)

pub bytes_back : (r : Result (Unit {0}) RecordFault) → bytes_question r ≡ None → r ≡ Ok tt
bytes_back (Ok u) h = refl
bytes_back (Err f) h = let z : ◌≡◌ {A = ℕ} 0 1 = cc in absurd (omega arith)

rise_back : (b : Bool) (at : ℕ) → ◌≡◌ {A = Option OpenFault} (cond b None (Some (Order at))) None → b ≡ true
rise_back true at h = refl
rise_back false at h = let z : ◌≡◌ {A = ℕ} 0 1 = cc in absurd (omega arith)

-- a key, its question, a record at the place after it, the question of its cc texts, and whether the key rises
abbrev pub chain : BookEnd → Option KeyFault → (ℕ → BookEnd) → (ℕ → Option ℕ) → Bool → ℕ → BookEnd
chain k q f o rise at =
    after k (λ r. asked (option_map (λ x. InPolicy (Key x)) q) (after (f r) (λ e. asked (option_map (λ p. InPolicy (OwnAddress p)) (o r)) (asked (cond rise None (Some (Order at))) (Ok e)))))

pub record Passed (k : BookEnd) (q : Option KeyFault) (f : ℕ → BookEnd) (o : ℕ → Option ℕ) (rise : Bool) (e : ℕ) : Type 0 where
  pub place : ℕ
  pub key : k ≡ Ok place
  pub fine : q ≡ None
  pub policy : f place ≡ Ok e
  pub other : o place ≡ None
  pub rising : rise ≡ true

pub chain_passed : (k : BookEnd) (q : Option KeyFault) (f : ℕ → BookEnd) (o : ℕ → Option ℕ) (rise : Bool) (at e : ℕ) → chain k q f o rise at ≡ Ok e → Passed k q f o rise e
chain_passed k q f o rise at e h =
    let w = went k _ e h in
    let a = told (option_map (λ x. InPolicy (Key x)) q) _ e w.2 in
    let b = went (f w.0) _ e a.1 in
    let c = told (option_map (λ p. InPolicy (OwnAddress p)) (o w.0)) _ e b.2 in
    let d = told (cond rise None (Some (Order at))) (Ok b.0) e c.1 in
    record {
      place = w.0;
      key = w.1;
      fine = none_back (λ x. InPolicy (Key x)) q a.0;
      policy = b.1 ∙ d.1;
      other = none_back (λ p. InPolicy (OwnAddress p)) (o w.0) c.0;
      rising = rise_back rise at d.0;
    }

pub passed_chain : (k : BookEnd) (q : Option KeyFault) (f : ℕ → BookEnd) (o : ℕ → Option ℕ) (rise : Bool) (at e : ℕ) → Passed k q f o rise e → chain k q f o rise at ≡ Ok e
passed_chain k q f o rise at e p = rw (p.key, p.fine, p.policy, p.other, p.rising)

-- the same of a list
module _ (last : Text) (bs : List ℕ) (at e : ℕ) where
  abbrev pub PassedList : Text → Type 0
  PassedList key =
      Passed (key_end bs at) (key_fault at (at + 2) key) (policy_end false bs) (λ r. own_place (bare key) (cc_place bs r + 2) (read_policy bs r).cc) (rises last key) e

  pub list_passed : list_end last bs at ≡ Ok e → PassedList (key_at bs at)
  unfolding list_end
  list_passed h =
      chain_passed (key_end bs at) (key_fault at (at + 2) (key_at bs at)) (policy_end false bs) (λ r. own_place (bare (key_at bs at)) (cc_place bs r + 2) (read_policy bs r).cc) (rises last (key_at bs at)) at e h

  pub passed_list : PassedList (key_at bs at) → list_end last bs at ≡ Ok e
  unfolding list_end
  passed_list p =
      passed_chain (key_end bs at) (key_fault at (at + 2) (key_at bs at)) (policy_end false bs) (λ r. own_place (bare (key_at bs at)) (cc_place bs r + 2) (read_policy bs r).cc) (rises last (key_at bs at)) at e p
