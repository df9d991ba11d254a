-- A packed book that is accepted is the packed book of the policy that is read from it.
use Rattle.std.specs.Prelude.{◌≡◌, ℕ, zero, suc, ◌+◌, ◌≤◌, Bool, true, false, List, [], ◌++◌, length, None, Ok, nat_le, refl}
use Rattle.std.proofs.Common.{sym, ◌∙◌, ap, subst, arith}
use Rattle.std.proofs.lemmas.Bool.{leb-true, and_parts}
use Rattle.std.specs.List.{flat_map}
use Rattle.address.specs.Text.{Text}
use Rattle.address.specs.Address.{bare}
use Rattle.roll.specs.Ends.{word_at, text_end, filled}
use Rattle.roll.specs.Laws.{Bytes, Stands}
use Rattle.roll.specs.Packing.{word, pack_text}
use Rattle.roll.proofs.Standing.{join, nothing, stands_whole}
use Rattle.roll.proofs.Parts.{passed, went, ok_same, text_ended, reads_word, reads_text}
use Rattle.roll.proofs.Wholes.{filled_read}
use Rattle.email_policy.specs.Ends.{record_end}
use Rattle.email_policy.specs.Keys.{rises}
use Rattle.email_policy.specs.Lawful.{Fine, FineEntry, Rising, pack_entry, pack_book, most_lists, longest_book}
use Rattle.email_policy.specs.Packing.{pack_policy, as_list}
use Rattle.email_policy.specs.Policy.{ListPolicy}
use Rattle.email_policy.specs.Questions.{bytes_fault, own_place}
use Rattle.email_policy.specs.Reading.{read_policy, cc_place, ignored_place, as_defaults, end_or}
use Rattle.email_policy.proofs.Records.{reads_policy, defaults_back}
use Rattle.email_policy.proofs.Places.{bytes_pass, own_passes, key_passes}
use Rattle.packed_book.specs.declared.fault.OpenFault.TheVariants.{LeftOver}
use Rattle.packed_book.specs.Ends.{any_text, in_policy, bytes_question, key_at, policy_end, list_end, lists_end, count_end, whole_book}
use Rattle.packed_book.specs.Reading.{policy_place, next_place, entry_at, entries_at, count_place, read_book}
use Rattle.packed_book.specs.Laws.{ReadsBooks}
use Rattle.packed_book.specs.Questions.{told, there_back, policy_back, bytes_back, list_passed}

pub record ReadPolicy (full : Bool) (bs : List ℕ) (at e : ℕ) : Type 0 where
  pub ends : record_end full bs at ≡ Ok e
  pub stands : Stands bs at (pack_policy (read_policy bs at)) e
  pub fine : Fine full (read_policy bs at)

pub policy_read : (full : Bool) (bs : List ℕ) (at e : ℕ) → Bytes bs → policy_end full bs at ≡ Ok e → ReadPolicy full bs at e
policy_read full bs at e b h =
    let w = went (in_policy (record_end full bs at)) _ e h in
    let t = told (bytes_question (bytes_fault (read_policy bs at) (cc_place bs at) (ignored_place bs at))) (Ok w.0) e w.2 in
    let k : record_end full bs at ≡ Ok e = policy_back w.0 (record_end full bs at) w.1 ∙ ap Ok (ok_same t.1) in
    let r = reads_policy full bs at e b k in
    record {
      ends = k;
      stands = r.0;
      fine = record { within = r.1; bytes = bytes_pass (read_policy bs at) (cc_place bs at) (ignored_place bs at) 0 0 (bytes_back _ t.0) };
    }

pub record ReadList (last : Text) (bs : List ℕ) (at e : ℕ) : Type 0 where
  pub stands : Stands bs at (pack_entry (entry_at bs at)) e
  pub above : rises last (key_at bs at) ≡ true
  pub fine : FineEntry (entry_at bs at)
  pub next : e ≡ next_place bs at

pub list_read : (last : Text) (bs : List ℕ) (at e : ℕ) → Bytes bs → list_end last bs at ≡ Ok e → ReadList last bs at e
list_read last bs at e b h =
    let w = list_passed last bs at e h in
    let k : text_end any_text bs at ≡ Ok w.place = there_back at w.place (text_end any_text bs at) w.key in
    let t = reads_text any_text bs at w.place b k in
    let p : w.place ≡ policy_place bs at = (text_ended any_text bs at w.place k).ends in
    let f = subst (λ (x : ℕ). ReadPolicy false bs x e) p (policy_read false bs w.place e b w.policy) in
    let o = subst (λ (x : ℕ). own_place (bare (key_at bs at)) (cc_place bs x + 2) (read_policy bs x).cc ≡ None) p w.other in
    record {
      stands = join bs at (policy_place bs at) e (pack_text (key_at bs at)) (pack_policy (read_policy bs (policy_place bs at))) (subst (λ (x : ℕ). Stands bs at (pack_text (key_at bs at)) x) p t.stands) f.stands;
      above = w.rising;
      fine = record {
        key = key_passes (key_at bs at) at (at + 2) 0 0 w.fine;
        policy = f.fine;
        own = own_passes (bare (key_at bs at)) (read_policy bs (policy_place bs at)).cc (cc_place bs (policy_place bs at) + 2) 0 o;
      };
      next = ap (end_or at) (sym f.ends);
    }

pub record ReadLists (n : ℕ) (last : Text) (bs : List ℕ) (at e : ℕ) : Type 0 where
  pub stands : Stands bs at (flat_map pack_entry (entries_at n bs at)) e
  pub rising : Rising last (entries_at n bs at)
  pub count : length (entries_at n bs at) ≡ n

pub lists_read : (n : ℕ) (last : Text) (bs : List ℕ) (at e : ℕ) → Bytes bs → at ≤ length bs → lists_end n last bs at ≡ Ok e → ReadLists n last bs at e
unfolding lists_end entries_at
lists_read zero last bs at e b l h = let s : at ≡ e = ok_same h in record { stands = subst (λ (x : ℕ). Stands bs at [] x) s (nothing bs at l); rising = tt; count = refl }
lists_read (suc n) last bs at e b l h =
    let w = went (list_end last bs at) (lists_end n (key_at bs at) bs) e h in
    let x = list_read last bs at w.0 b w.1 in
    let p = x.next in
    let s = subst (λ (y : ℕ). Stands bs at (pack_entry (entry_at bs at)) y) p x.stands in
    let i = subst (λ (y : ℕ). ReadLists n (key_at bs at) bs y e) p (lists_read n (key_at bs at) bs w.0 e b x.stands.within w.2) in
    record {
      stands = join bs at (next_place bs at) e (pack_entry (entry_at bs at)) (flat_map pack_entry (entries_at n bs (next_place bs at))) s i.stands;
      rising = (x.above, x.fine, i.rising);
      count = ap suc i.count;
    }

pub record ReadCount (bs : List ℕ) (c e : ℕ) : Type 0 where
  pub there : c + 2 ≤ length bs
  pub few : word_at bs c ≤ most_lists
  pub ends : e ≡ c + 2

pub count_read : (bs : List ℕ) (c e : ℕ) → count_end bs c ≡ Ok e → ReadCount bs c e
count_read bs c e h =
    let p = passed _ _ _ e h in
    let q = and_parts _ _ p.0 in
    record { there = leb-true _ _ q.0; few = leb-true _ _ q.1; ends = sym (ok_same p.1) }

-- what an accepted book says of its bytes
pub record Opened (bs : List ℕ) : Type 0 where
  pub small : length bs ≤ longest_book
  pub defaults : ReadPolicy true bs 0 (count_place bs)
  pub count : ReadCount bs (count_place bs) (count_place bs + 2)
  pub lists : lists_end (word_at bs (count_place bs)) [] bs (count_place bs + 2) ≡ Ok (length bs)

pub opened : (bs : List ℕ) → Bytes bs → whole_book bs ≡ Ok tt → Opened bs
opened bs b h =
    let a = passed (nat_le (length bs) longest_book) _ _ tt h in
    let w = went (policy_end true bs 0) _ tt a.1 in
    let d = policy_read true bs 0 w.0 b w.1 in
    let v = went (count_end bs w.0) _ tt w.2 in
    let k = count_read bs w.0 v.0 v.1 in
    let u = went (lists_end (word_at bs w.0) [] bs v.0) (filled LeftOver bs) tt v.2 in
    let ks = subst (λ (x : ℕ). ReadCount bs w.0 x) k.ends k in
    let us = subst (λ (x : ℕ). lists_end (word_at bs w.0) [] bs x ≡ Ok u.0) k.ends u.1 in
    let ls = lists_read (word_at bs w.0) [] bs (w.0 + 2) u.0 b k.there us in
    let e : u.0 ≡ length bs = omega (arith, filled_read LeftOver bs u.0 u.2, ls.stands.within) in
    let p : w.0 ≡ count_place bs = ap (end_or 0) (sym d.ends) in
    record {
      small = leb-true _ _ a.0;
      defaults = subst (λ (x : ℕ). ReadPolicy true bs 0 x) p d;
      count = subst (λ (x : ℕ). ReadCount bs x (x + 2)) p ks;
      lists = subst (λ (x : ℕ). lists_end (word_at bs x) [] bs (x + 2) ≡ Ok (length bs)) p (us ∙ ap Ok e);
    }

pub reads_book : ReadsBooks
unfolding read_book pack_book
reads_book bs b h =
    let o = opened bs b h in
    let c = count_place bs in
    let n = word_at bs (count_place bs) in
    let es = entries_at (word_at bs (count_place bs)) bs (count_place bs + 2) in
    let f = o.defaults.fine in
    let same : as_list (as_defaults (read_policy bs 0)) ≡ read_policy bs 0 = defaults_back.1 (read_policy bs 0) (f.within.complete refl) in
    let ls = lists_read (word_at bs (count_place bs)) [] bs (count_place bs + 2) (length bs) b o.count.there o.lists in
    let k = ls.count in
    let s = join bs (count_place bs) (count_place bs + 2) (length bs) (word (word_at bs (count_place bs))) (flat_map pack_entry (entries_at (word_at bs (count_place bs)) bs (count_place bs + 2))) (reads_word bs (count_place bs) b o.count.there) ls.stands in
    let p : pack_policy (as_list (as_defaults (read_policy bs 0))) ++ (word (length (entries_at (word_at bs (count_place bs)) bs (count_place bs + 2))) ++ flat_map pack_entry (entries_at (word_at bs (count_place bs)) bs (count_place bs + 2))) ≡ bs =
    rw (same, k) (stands_whole bs _ (join bs 0 (count_place bs) (length bs) _ _ o.defaults.stands s)) in
    record {
      lawful = record {
        defaults = subst (λ (x : ListPolicy). Fine true x) (sym same) f;
        few = omega (arith, o.count.few);
        rising = ls.rising;
        small = omega (arith, ap length p, o.small);
      };
      packed = p;
    }
