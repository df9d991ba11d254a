-- The packed book of a lawful policy is accepted, and read back as it.
use Rattle.std.proofs.Common.{◌≡◌, ℕ, ◌+◌, ◌≤◌, Bool, true, false, ltb, List, [], ◌∷◌, ◌++◌, length, Some, None, Ok, Err, Option, Result, sym, refl, ap, ◌∙◌, subst, arith}
use Rattle.std.proofs.lemmas.Bool.{le-leb, ltb-false, and_from, cond-true, cond_both}
use Rattle.std.specs.List.{flat_map}
use Rattle.address.specs.Text.{Text}
use Rattle.address.specs.Address.{bare}
use Rattle.address.specs.declared.text.TextFault.{TextFault}
use Rattle.roll.specs.Ends.{after, word_at, filled}
use Rattle.roll.specs.Laws.{Stands}
use Rattle.roll.specs.Packing.{word, pack_text}
use Rattle.roll.proofs.Standing.{front, back, taken, whole_stands}
use Rattle.roll.proofs.Parts.{packs_word, packs_text, text_ended}
use Rattle.roll.proofs.Wholes.{filled_whole}
use Rattle.email_policy.specs.Ends.{record_end}
use Rattle.email_policy.specs.Keys.{longest_key, key_length, key_text, key_fault, rises}
use Rattle.email_policy.specs.Lawful.{Fine, FineEntry, Rising, pack_entry, pack_book, Lawful, longest_book}
use Rattle.email_policy.specs.Packing.{pack_policy, as_list}
use Rattle.email_policy.specs.Policy.{ListPolicy, DefaultPolicy, Entry, Policy}
use Rattle.email_policy.specs.Questions.{bytes_fault, own_place}
use Rattle.email_policy.specs.Reading.{read_policy, cc_place, ignored_place, as_defaults, end_or}
use Rattle.email_policy.specs.declared.fault.KeyFault.{KeyFault}
use Rattle.email_policy.specs.declared.fault.KeyFault.TheVariants.{TooLong}
use Rattle.email_policy.specs.declared.fault.RecordFault.{RecordFault}
use Rattle.email_policy.proofs.Records.{packs_policy}
use Rattle.email_policy.proofs.Places.{bytes_pass, own_passes, key_passes, else_parts}
use Rattle.packed_book.specs.declared.fault.OpenFault.TheVariants.{LeftOver}
use Rattle.packed_book.specs.Ends.{BookEnd, any_text, all_there, asked, in_policy, bytes_question, key_at, policy_end, list_end, lists_end, count_end, whole_book}
use Rattle.packed_book.specs.Reading.{policy_place, next_place, entry_at, entries_at, count_place, read_book}
use Rattle.packed_book.specs.Laws.{PacksBooks}
use Rattle.packed_book.specs.Questions.{passed_list}

-- a key that passes its question is short
length_short : (first n : ℕ) (r : Result (Unit {0}) TextFault) → key_length first r n ≡ None → n ≤ longest_key
length_short first n (Ok u) =
    let P : Option KeyFault → Type 0 = λ o. o ≡ None → n ≤ longest_key in
    cond_both (ltb longest_key n) (Some (TooLong (first + longest_key))) None P
    (λ t k. let z : ◌≡◌ {A = ℕ} 0 1 = cc in absurd (omega arith))
    (λ t k. ltb-false longest_key n t)
length_short first n (Err f) = λ h. let z : ◌≡◌ {A = ℕ} 0 1 = cc in absurd (omega arith)

pub key_short : (at first : ℕ) (key : Text) → key_fault at first key ≡ None → length key ≤ longest_key
unfolding key_fault
key_short at first key h = length_short first (length key) _ (else_parts (key_text first key) _ h).0

key_stands : (bs : List ℕ) (at e : ℕ) (t : Text) → Stands bs at (pack_text t) e → key_at bs at ≡ t
key_stands bs at e t s =
    let w = packs_word bs at (at + 2) (length t) (front bs at e (word (length t)) t s) in
    rw w.0 (taken bs (at + 2) e t (back bs at e (word (length t)) t s))

policy_chain : (r : Result ℕ RecordFault) (b : Result (Unit {0}) RecordFault) (e : ℕ) → r ≡ Ok e → b ≡ Ok tt → after (in_policy r) (λ x. asked (bytes_question b) (Ok x)) ≡ Ok e
policy_chain r b e p q = rw (p, q)

pub record PackedPolicy (full : Bool) (bs : List ℕ) (at e : ℕ) (p : ListPolicy) : Type 0 where
  pub passes : policy_end full bs at ≡ Ok e
  pub ends : record_end full bs at ≡ Ok e
  pub read : read_policy bs at ≡ p

pub policy_packed : (full : Bool) (bs : List ℕ) (at e : ℕ) (p : ListPolicy) → Fine full p → Stands bs at (pack_policy p) e → PackedPolicy full bs at e p
policy_packed full bs at e p f s =
    let r = packs_policy full bs at e p f.within s in
    let t : bytes_fault (read_policy bs at) (cc_place bs at) (ignored_place bs at) ≡ Ok tt =
    subst (λ (x : ListPolicy). bytes_fault x (cc_place bs at) (ignored_place bs at) ≡ Ok tt) (sym r.1) (bytes_pass p 0 0 (cc_place bs at) (ignored_place bs at) f.bytes) in
    record { passes = policy_chain (record_end full bs at) _ e r.0 t; ends = r.0; read = r.1 }

entry_same : (l : Entry) (key : Text) (p : ListPolicy) → key ≡ l.key → p ≡ l.policy → ◌≡◌ {A = Entry} (record { key = key; policy = p }) l
entry_same l key p i j = rw (i, j)

pub record PackedList (last : Text) (bs : List ℕ) (at e : ℕ) (l : Entry) : Type 0 where
  pub passes : list_end last bs at ≡ Ok e
  pub key : key_at bs at ≡ l.key
  pub read : entry_at bs at ≡ l
  pub next : next_place bs at ≡ e

pub list_packed : (last : Text) (bs : List ℕ) (at e : ℕ) (l : Entry) → FineEntry l → rises last l.key ≡ true → Stands bs at (pack_entry l) e → PackedList last bs at e l
list_packed last bs at e l i t s =
    let s0 = front bs at e (pack_text l.key) (pack_policy l.policy) s in
    let m = at + length (pack_text l.key) in
    let short = key_short 0 0 l.key i.key in
    let k = (packs_text any_text bs at (at + length (pack_text l.key)) l.key (omega arith) s0).0 in
    let n = key_stands bs at (at + length (pack_text l.key)) l.key s0 in
    let p : at + length (pack_text l.key) ≡ policy_place bs at = (text_ended any_text bs at (at + length (pack_text l.key)) k).ends in
    let f = subst (λ (x : ℕ). PackedPolicy false bs x e l.policy) p (policy_packed false bs (at + length (pack_text l.key)) e l.policy i.policy (back bs at e (pack_text l.key) (pack_policy l.policy) s)) in
    let o : own_place (bare l.key) (cc_place bs (policy_place bs at) + 2) (read_policy bs (policy_place bs at)).cc ≡ None =
    subst (λ (x : ListPolicy). own_place (bare l.key) (cc_place bs (policy_place bs at) + 2) x.cc ≡ None) (sym f.read) (own_passes (bare l.key) l.policy.cc 0 (cc_place bs (policy_place bs at) + 2) i.own) in
    record {
      passes = passed_list last bs at e (rw n (record { place = policy_place bs at; key = ap (all_there at) (k ∙ ap Ok p); fine = key_passes l.key 0 0 at (at + 2) i.key; policy = f.passes; other = o; rising = t }));
      key = n;
      read = entry_same l (key_at bs at) (read_policy bs (policy_place bs at)) n f.read;
      next = ap (end_or at) f.ends;
    }

pub lists_packed : (ls : List Entry) (last : Text) (bs : List ℕ) (at e : ℕ) → Rising last ls → Stands bs at (flat_map pack_entry ls) e → (lists_end (length ls) last bs at ≡ Ok e) × (entries_at (length ls) bs at ≡ ls)
unfolding lists_end entries_at
lists_packed [] last bs at e i s = let n = s.long in let z : at ≡ e = omega arith in (ap Ok z, refl)
lists_packed (l ∷ ls) last bs at e i s =
    let m = at + length (pack_entry l) in
    let x = list_packed last bs at (at + length (pack_entry l)) l i.1 i.0 (front bs at e (pack_entry l) (flat_map pack_entry ls) s) in
    let r = lists_packed ls l.key bs (at + length (pack_entry l)) e i.2 (back bs at e (pack_entry l) (flat_map pack_entry ls) s) in (
      ap (λ (y : BookEnd). after y (lists_end (length ls) (key_at bs at) bs)) x.passes ∙ ap (λ (y : Text). lists_end (length ls) y bs (at + length (pack_entry l))) x.key ∙ r.0,
      ap (λ (y : Entry). y ∷ entries_at (length ls) bs (next_place bs at)) x.read ∙ ap (λ (y : ℕ). l ∷ entries_at (length ls) bs y) x.next ∙ ap (λ (y : List Entry). l ∷ y) r.1,
    )

-- the parts of a book, each accepted, are a book
book_chain : (bs : List ℕ) (c : ℕ) → length bs ≤ longest_book → policy_end true bs 0 ≡ Ok c → count_end bs c ≡ Ok (c + 2) → lists_end (word_at bs c) [] bs (c + 2) ≡ Ok (length bs) → whole_book bs ≡ Ok tt
book_chain bs c l f k s =
    cond-true _ _ _ (le-leb _ _ l)
    ∙ ap (λ (y : BookEnd). after y (λ c. after (count_end bs c) (λ at. after (lists_end (word_at bs c) [] bs at) (filled LeftOver bs)))) f
    ∙ ap (λ (y : BookEnd). after y (λ at. after (lists_end (word_at bs c) [] bs at) (filled LeftOver bs))) k
    ∙ ap (λ (y : BookEnd). after y (filled LeftOver bs)) s
    ∙ filled_whole LeftOver bs

policy_same : (p : Policy) (d : DefaultPolicy) (ls : List Entry) → d ≡ p.defaults → ls ≡ p.lists → ◌≡◌ {A = Policy} (record { defaults = d; lists = ls }) p
policy_same p d ls i j = rw (i, j)

module _ (bs : List ℕ) (p : Policy) (i : Lawful p) (small : length bs ≤ longest_book) where
  book_packed : Stands bs 0 (pack_policy (as_list p.defaults) ++ (word (length p.lists) ++ flat_map pack_entry p.lists)) (length bs) → (whole_book bs ≡ Ok tt) × (read_book bs ≡ p)
  unfolding read_book
  book_packed s =
      let d = pack_policy (as_list p.defaults) in
      let rest = word (length p.lists) ++ flat_map pack_entry p.lists in
      let z : 0 + length (pack_policy (as_list p.defaults)) ≡ length (pack_policy (as_list p.defaults)) = omega arith in
      let f0 = policy_packed true bs 0 (0 + length (pack_policy (as_list p.defaults))) (as_list p.defaults) i.defaults (front bs 0 (length bs) (pack_policy (as_list p.defaults)) (word (length p.lists) ++ flat_map pack_entry p.lists) s) in
      let q : 0 + length (pack_policy (as_list p.defaults)) ≡ count_place bs = sym (ap (end_or 0) f0.ends) in
      let f = subst (λ (x : ℕ). PackedPolicy true bs 0 x (as_list p.defaults)) q f0 in
      let s1 = subst (λ (x : ℕ). Stands bs x (word (length p.lists) ++ flat_map pack_entry p.lists) (length bs)) q (back bs 0 (length bs) (pack_policy (as_list p.defaults)) (word (length p.lists) ++ flat_map pack_entry p.lists) s) in
      let w = packs_word bs (count_place bs) (count_place bs + 2) (length p.lists) (front bs (count_place bs) (length bs) (word (length p.lists)) (flat_map pack_entry p.lists) s1) in
      let x = lists_packed p.lists [] bs (count_place bs + 2) (length bs) i.rising (back bs (count_place bs) (length bs) (word (length p.lists)) (flat_map pack_entry p.lists) s1) in
      let n = w.0 in
      let few = i.few in
      let k : count_end bs (count_place bs) ≡ Ok (count_place bs + 2) = cond-true _ _ _ (and_from _ _ (le-leb _ _ w.1) (le-leb _ _ (omega arith))) in (
        book_chain bs (count_place bs) small f.passes k (rw n x.0),
        policy_same p (as_defaults (read_policy bs 0)) (entries_at (word_at bs (count_place bs)) bs (count_place bs + 2)) (ap as_defaults f.read) (rw n x.1),
      )

pub packs_book : PacksBooks
unfolding pack_book
packs_book bs p k =
    let e = k.packed in
    let small = k.lawful.small in
    book_packed bs p k.lawful (omega (arith, ap length e)) (subst (λ (x : List ℕ). Stands bs 0 x (length bs)) (sym e) (whole_stands bs))
