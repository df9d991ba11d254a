-- The rows of a policy: how many texts, and how long.
use Rattle.std.proofs.Common.{◌≡◌, ℕ, zero, suc, ◌+◌, ◌<◌, ◌≤◌, Bool, List, [], ◌∷◌, ◌++◌, length, drop, is_some, Some, None, Ok, Option, sym, refl, ap, ◌∙◌, subst, arith}
use Rattle.std.proofs.lemmas.List.{length-append}
use Rattle.std.proofs.lemmas.Bool.{cond-true, le-leb}
use Rattle.std.specs.List.{flat_map, slice_get}
use Rattle.std.specs.Option.{option_map}
use Rattle.address.specs.Text.{Text}
use Rattle.roll.specs.Packing.{word, pack_text, pack_texts}
use Rattle.roll.proofs.Writes.{written_is}
use Rattle.email_policy.specs.Lawful.{pack_entry, pack_book}
use Rattle.email_policy.specs.Numbers.{weighed, reply_number, rank_number, mute_number}
use Rattle.email_policy.specs.Packing.{pack_field, some_text, pack_part, bit_map, pack_policy, as_list}
use Rattle.email_policy.specs.Policy.{ListPolicy, Entry, Policy}
use Rattle.email_policy.specs.Texts.{listed}
use Rattle.email_policy.proofs.Nth.{nth_some}
use Rattle.packed_book.specs.Rows.{byte_row, list_row, Puts}
use Rattle.packed_book.specs.Writing.{write_answer, write_tray}
use Rattle.packed_book.proofs.Puts.{puts_then, Left, left_room, left_more}

-- a roll with its count

pub part_none : (ts : List Text) (n : ℕ) → n ≡ length ts → n ≡ 0 → pack_part ts ≡ []
part_none [] n e z = refl
part_none (t ∷ ts) n e z = absurd (omega arith)

pub part_some : (ts : List Text) (n : ℕ) → n ≡ length ts → (n ≡ 0 → ⊥) → pack_part ts ≡ word n ++ pack_texts ts
part_some [] n e ne = absurd (ne e)
part_some (t ∷ ts) n e ne = rw e

pub part_length : (ts : List Text) (n : ℕ) → n ≡ length ts → (n ≡ 0 → ⊥) → length (pack_part ts) ≡ 2 + length (pack_texts ts)
part_length ts n e ne = ap length (part_some ts n e ne) ∙ length-append (word n) (pack_texts ts)

pub mapped_some : {X Y : Type 0} (f : X → Y) (o : Option X) → is_some (option_map f o) ≡ is_some o
mapped_some f None = refl
mapped_some f (Some x) = refl

-- a field byte and its number
pub byte_field : {X : Type 0} (number : X → ℕ) (o : Option X) (b : Option ℕ) → b ≡ option_map number o → byte_row b ≡ pack_field number o
byte_field number None b e = ap byte_row e
byte_field number (Some x) b e = ap byte_row e

-- the bit map from its bits
pub map_is : (p : ListPolicy) (i j k l m : ℕ) → i ≡ weighed (is_some p.reply_to) 1 → j ≡ weighed (is_some p.positive_review) 2 → k ≡ weighed (is_some p.mute_all) 4 → l ≡ weighed (some_text p.cc) 8 → m ≡ weighed (some_text p.ignored_emails) 16 → i + (j + (k + (l + m))) ≡ bit_map p
map_is p i j k l m a b c d e = rw (a, b, c, d, e)

-- the bit of a field that is told by its byte
pub bit_is : {X : Type 0} (number : X → ℕ) (o : Option X) (b : Option ℕ) (t : Bool) (w r : ℕ) → b ≡ option_map number o → t ≡ is_some b → r ≡ weighed t w → r ≡ weighed (is_some o) w
bit_is number o b t w r e f g = g ∙ ap (λ (x : Bool). weighed x w) (f ∙ ap is_some e ∙ mapped_some number o)

-- a packed policy from the bytes of its fields

module _ (p : ListPolicy) (reply rank mute : Option ℕ) (hr : reply ≡ option_map reply_number p.reply_to) (hk : rank ≡ option_map rank_number p.positive_review) (hm : mute ≡ option_map mute_number p.mute_all) where
  abbrev rolls : List ℕ
  rolls = pack_part p.cc ++ pack_part p.ignored_emails

  row : pack_policy p ≡ byte_row (Some (bit_map p)) ++ (byte_row reply ++ (byte_row rank ++ (byte_row mute ++ rolls)))
  unfolding pack_policy
  row =
      rw (byte_field reply_number p.reply_to reply hr, byte_field rank_number p.positive_review rank hk, byte_field mute_number p.mute_all mute hm)

  pub policy_size : length (pack_policy p) ≡ 1 + (length (byte_row reply) + (length (byte_row rank) + (length (byte_row mute) + (length (pack_part p.cc) + length (pack_part p.ignored_emails)))))
  policy_size = ap length row ∙ simp length-append (omega arith)

  module _ (d t0 t1 t2 t3 t4 t5 : List ℕ) (at m e0 e1 e2 e3 e4 e5 : ℕ) where
    pub policy_puts : m ≡ bit_map p → Puts d at (byte_row (Some m)) t0 → e0 ≡ at + length (byte_row (Some m)) → Puts t0 e0 (byte_row reply) t1 → e1 ≡ e0 + length (byte_row reply) → Puts t1 e1 (byte_row rank) t2 → e2 ≡ e1 + length (byte_row rank) → Puts t2 e2 (byte_row mute) t3 → e3 ≡ e2 + length (byte_row mute) → Puts t3 e3 (pack_part p.cc) t4 → e4 ≡ e3 + length (pack_part p.cc) → Puts t4 e4 (pack_part p.ignored_emails) t5 → e5 ≡ e4 + length (pack_part p.ignored_emails) → (e5 ≡ at + length (pack_policy p)) × Puts d at (pack_policy p) t5
    policy_puts hb w0 n0 w1 n1 w2 n2 w3 n3 w4 n4 w5 n5 =
        let a4 = puts_then t3 t4 t5 (pack_part p.cc) (pack_part p.ignored_emails) e3 e4 w4 n4 w5 in
        let a3 = puts_then t2 t3 t5 (byte_row mute) rolls e2 e3 w3 n3 a4 in
        let a2 = puts_then t1 t2 t5 (byte_row rank) _ e1 e2 w2 n2 a3 in
        let a1 = puts_then t0 t1 t5 (byte_row reply) _ e0 e1 w1 n1 a2 in
        let a0 = puts_then d t0 t5 (byte_row (Some m)) _ at e0 w0 n0 a1 in
        (omega (arith, policy_size), rw (row, sym hb) a0)

-- a packed list, from its key and its record

pub list_none : (o : Option Entry) → None ≡ option_map (λ e. e.key) o → list_row o ≡ []
list_none None h = refl
list_none (Some e) h = let z : ◌≡◌ {A = ℕ} 0 1 = cc in absurd (omega arith)

pub list_some : (o : Option Entry) (key : Text) → Some key ≡ option_map (λ e. e.key) o → list_row o ≡ pack_text key ++ pack_policy (listed o)
list_some None key h = let z : ◌≡◌ {A = ℕ} 0 1 = cc in absurd (omega arith)
list_some (Some e) key h = let k : e.key ≡ key = cc in rw k

pub list_size : (o : Option Entry) (key : Text) → Some key ≡ option_map (λ e. e.key) o → length (list_row o) ≡ 2 + length key + length (pack_policy (listed o))
list_size o key h = ap length (list_some o key h) ∙ length-append (pack_text key) (pack_policy (listed o)) ∙ ap (λ (n : ℕ). n + length (pack_policy (listed o))) (length-append (word (length key)) key)

list_at : (es : List Entry) (n : ℕ) → n < length es → (e : Entry) × (Some e ≡ slice_get es n)
list_at [] n h = absurd (omega arith)
list_at (e ∷ es) zero h = (e, refl)
list_at (x ∷ es) (suc n) h = list_at es n (omega arith)

-- a turn of the walk over the lists
module _ (es : List Entry) (n : ℕ) (start tray : List ℕ) (at end : ℕ) (l : Left pack_entry es (drop n es) start tray at end) (h : n < length es) where
  pub list_room : end + length (list_row (slice_get es n)) ≤ at + length (flat_map pack_entry es)
  list_room =
      let x = list_at es n h in
      subst (λ (o : Option Entry). end + length (list_row o) ≤ at + length (flat_map pack_entry es)) x.1 (left_room pack_entry es (drop n es) start tray at end l x.0 (drop (n + 1) es) (nth_some es n x.0 x.1).0)

  pub list_more : (tray' : List ℕ) (end' : ℕ) → Puts tray end (list_row (slice_get es n)) tray' → end' ≡ end + length (list_row (slice_get es n)) → length tray' ≡ length tray → Left pack_entry es (drop (n + 1) es) start tray' at end'
  list_more tray' end' p e k =
      let x = list_at es n h in
      left_more pack_entry es (drop n es) start tray at end l x.0 (drop (n + 1) es) (nth_some es n x.0 x.1).0 tray' end'
      (subst (λ (o : Option Entry). Puts tray end (list_row o) tray') (sym x.1) p)
      (subst (λ (o : Option Entry). end' ≡ end + length (list_row o)) (sym x.1) e)
      k

-- a packed book and its parts
pub book_size : (p : Policy) → length (pack_book p) ≡ length (pack_policy (as_list p.defaults)) + (2 + length (flat_map pack_entry p.lists))
unfolding pack_book
book_size p = simp length-append

pub book_puts : (p : Policy) (d t0 t1 t2 : List ℕ) (place n end : ℕ) → n ≡ length p.lists → Puts d 0 (pack_policy (as_list p.defaults)) t0 → place ≡ 0 + length (pack_policy (as_list p.defaults)) → Puts t0 place (word n) t1 → Puts t1 (place + 2) (flat_map pack_entry p.lists) t2 → end ≡ place + 2 + length (flat_map pack_entry p.lists) → (end ≡ length (pack_book p)) × Puts d 0 (pack_book p) t2
unfolding pack_book
book_puts p d t0 t1 t2 place n end c w0 e0 w1 w2 e2 =
    let a1 = puts_then t0 t1 t2 (word n) (flat_map pack_entry p.lists) place (place + 2) w1 refl w2 in
    let a0 = puts_then d t0 t2 (pack_policy (as_list p.defaults)) (word n ++ flat_map pack_entry p.lists) 0 place w0 e0 a1 in
    (omega (arith, book_size p), subst (λ (x : ℕ). Puts d 0 (pack_policy (as_list p.defaults) ++ (word x ++ flat_map pack_entry p.lists)) t2) c a0)

-- a tray with the book at its front
pub book_tray : (book d d' : List ℕ) → length book ≤ length d → Puts d 0 book d' → d' ≡ write_tray book d
book_tray book d d' h p =
    let z : 0 + length book ≡ length book = omega arith in
    p (omega arith) ∙ written_is book d 0 (omega arith) ∙ ap (λ (n : ℕ). book ++ drop n d) z ∙ sym (cond-true _ _ _ (le-leb _ _ h))

pub book_answer : (book d : List ℕ) (n : ℕ) → n ≡ length book → length book ≤ length d → Ok n ≡ write_answer book d
book_answer book d n e h = ap Ok e ∙ sym (cond-true _ _ _ (le-leb _ _ h))
