-- What a lawful policy adds is short and little.
use Rattle.std.proofs.Common.{◌≡◌, ℕ, zero, suc, ◌*◌, ◌<◌, ◌≤◌, Bool, true, false, ◌⊎◌, List, [], ◌∷◌, ◌++◌, map, length, get_or, sym, refl, ap, subst, inl, inr, arith}
use Rattle.std.specs.List.{flat_map}
use Rattle.std.proofs.lemmas.List.{length-append}
use Rattle.address.specs.Text.{Text}
use Rattle.roll.specs.Packing.{word, pack_text, pack_texts}
use Rattle.email_policy.specs.Policy.{ListPolicy, DefaultPolicy, Entry, Policy}
use Rattle.email_policy.specs.Packing.{pack_policy, pack_part, pack_field, bit_map, as_list}
use Rattle.email_policy.specs.Numbers.{reply_number, rank_number, mute_number}
use Rattle.email_policy.specs.Lawful.{Lawful, Rising, pack_entry, pack_book}
use Rattle.email_policy.specs.declared.policy.PositiveReviewPolicy.{PositiveReviewPolicy}
use Rattle.email_policy.specs.declared.policy.PositiveReviewPolicy.TheVariants.{None as to_none, Author as to_author, All as to_all}
use Rattle.keep_first.proofs.Members.{In, in_either, map_in}
use Rattle.audience.specs.Rules.{Named, rule_of, unless_named, by_defaults, by_lists}
use Rattle.audience.specs.Answers.{positive_rule}
use Rattle.audience.proofs.Members.{joined_in}
use Rattle.mail.specs.Marks.{marked}
use Rattle.grants.specs.declared.pass.Pass.{Pass}
use Rattle.grants.specs.declared.pass.Pass.TheVariants.{First, Positive}
use Rattle.grants.specs.Rules.{rule_in, named_in, named_by, grant_by, keys_of}

-- ---- each part of a packing is no longer than the whole

module _ {X : Type 0} (f : X → List ℕ) where
  joined_longer : (x : X) (xs : List X) → In x xs → length (f x) ≤ length (flat_map f xs)
  joined_longer x [] i = elim i [ ]
  joined_longer x (y ∷ xs) (inl e) = omega (arith, length-append (f y) (flat_map f xs), ap (λ z. length (f z)) e)
  joined_longer x (y ∷ xs) (inr i) = omega (arith, length-append (f y) (flat_map f xs), joined_longer x xs i)

text_in_part : (t : Text) (ts : List Text) → In t ts → length t ≤ length (pack_part ts)
unfolding pack_texts
text_in_part t [] i = elim i [ ]
text_in_part t (u ∷ ts) i =
    let n = joined_longer pack_text t (u ∷ ts) i in
    let a = length-append (word (length t)) t in
    let b = length-append (word (length (u ∷ ts))) (flat_map pack_text (u ∷ ts)) in
    omega arith

cc_in_policy : (t : Text) (p : ListPolicy) → In t p.cc → length t ≤ length (pack_policy p)
unfolding pack_policy
cc_in_policy t p i =
    let n = text_in_part t p.cc i in
    let e = pack_part p.cc ++ pack_part p.ignored_emails in
    let d = pack_field mute_number p.mute_all ++ e in
    let c = pack_field rank_number p.positive_review ++ d in
    let b = pack_field reply_number p.reply_to ++ c in
    let v = length-append (pack_part p.cc) (pack_part p.ignored_emails) in
    let w = length-append (pack_field mute_number p.mute_all) e in
    let x = length-append (pack_field rank_number p.positive_review) d in
    let y = length-append (pack_field reply_number p.reply_to) c in
    let z = length-append (bit_map p ∷ []) b in
    omega arith

module _ (p : Policy) where
  defaults_in_book : length (pack_policy (as_list p.defaults)) ≤ length (pack_book p)
  unfolding pack_book
  defaults_in_book = omega (arith, length-append (pack_policy (as_list p.defaults)) (word (length p.lists) ++ flat_map pack_entry p.lists))

  entry_in_book : (e : Entry) → In e p.lists → length (pack_entry e) ≤ length (pack_book p)
  unfolding pack_book
  entry_in_book e i =
      let n = joined_longer pack_entry e p.lists i in
      let a = length-append (word (length p.lists)) (flat_map pack_entry p.lists) in
      let b = length-append (pack_policy (as_list p.defaults)) (word (length p.lists) ++ flat_map pack_entry p.lists) in
      omega arith

-- ---- the texts of a lawful policy

each_short : (ts : List Text) → ((t : Text) → In t ts → length t < 65536) → (k : ℕ) → length (get_or ts k []) < 65536
each_short [] h k = omega arith
each_short (t ∷ ts) h zero = h t (inl refl)
each_short (t ∷ ts) h (suc k) = each_short ts (λ u i. h u (inr i)) k

module _ (p : Policy) (lawful : Lawful p) where
  pub short_keys : (k : ℕ) → length (get_or (keys_of p) k []) < 65536
  short_keys = each_short (keys_of p) (λ t i.
      let (e, j, same) = map_in (λ e. e.key) t p.lists i in
      let n = entry_in_book p e j in
      let a = length-append (pack_text e.key) (pack_policy e.policy) in
      let b = length-append (word (length e.key)) e.key in
      let s = lawful.small in
      omega (arith, ap length same))

  list_cc : (e : Entry) (t : Text) → In e p.lists → In t e.policy.cc → length t < 65536
  list_cc e t j i =
      let n = entry_in_book p e j in
      let a = length-append (pack_text e.key) (pack_policy e.policy) in
      let s = lawful.small in
      omega (arith, cc_in_policy t e.policy i)

  default_cc : (t : Text) → In t p.defaults.cc → length t < 65536
  default_cc t i = let n = defaults_in_book p in let s = lawful.small in omega (arith, cc_in_policy t (as_list p.defaults) i)

-- ---- what is granted is of the policy

marked_in : {X : Type 0} (x : X) (bs : List Bool) (xs : List X) → In x (marked bs xs) → In x xs
unfolding marked
marked_in x [] xs i = absurd i
marked_in x (b ∷ bs) [] i = absurd i
marked_in x (true ∷ bs) (y ∷ xs) (inl e) = inl e
marked_in x (true ∷ bs) (y ∷ xs) (inr i) = inr (marked_in x bs xs i)
marked_in x (false ∷ bs) (y ∷ xs) i = inr (marked_in x bs xs i)

marked_fewer : {X : Type 0} (bs : List Bool) (xs : List X) → length (marked bs xs) ≤ length xs
unfolding marked
marked_fewer [] xs = omega arith
marked_fewer (b ∷ bs) [] = omega arith
marked_fewer (true ∷ bs) (x ∷ xs) = omega (arith, marked_fewer bs xs)
marked_fewer (false ∷ bs) (x ∷ xs) = omega (arith, marked_fewer bs xs)

-- a rule has the cc texts of its list, or none
rule_cc : (q : Pass) (d : DefaultPolicy) (p : ListPolicy) → ((rule_in q d p).cc ≡ p.cc) ⊎ ((rule_in q d p).cc ≡ [])
rule_cc First d p = inl refl
rule_cc Positive d p = by_rank (rule_of d p).positive_review
  where
    by_rank : (r : PositiveReviewPolicy) → ((positive_rule r (rule_of d p)).cc ≡ p.cc) ⊎ ((positive_rule r (rule_of d p)).cc ≡ [])
    by_rank to_none = inr refl
    by_rank to_author = inr refl
    by_rank to_all = inl refl

module _ (q : Pass) (marks : List Bool) (p : Policy) where
  -- with named lists or without, the cc texts are those of the rules, and then the defaults'
  granted_cc : (grant_by q marks p).cc ≡ flat_map (λ n. n.rule.cc) (named_by q marks p) ++ p.defaults.cc
  granted_cc = elim (named_by q marks p) as (λ ns. (unless_named ns (by_defaults p.defaults) (by_lists p.defaults ns)).cc ≡ flat_map (λ n. n.rule.cc) ns ++ p.defaults.cc) [
    | [] ↦ refl
    | n ∷ ns ↦ refl
  ]

  named_cc : (t : Text) → In t (flat_map (λ n. n.rule.cc) (named_by q marks p)) → (e : Entry) × In e p.lists × In t e.policy.cc
  named_cc t i =
      let (n, j, h) = joined_in (λ n. n.rule.cc) t (named_by q marks p) i in
      let (e, k, same) = map_in (named_in q p.defaults) n (marked marks p.lists) j in
      let u : In t (rule_in q p.defaults e.policy).cc = subst (λ (k : Named). In t k.rule.cc) (sym same) h in
      (e, marked_in e marks p.lists k, own e t u)
    where
      own : (e : Entry) (t : Text) → In t (rule_in q p.defaults e.policy).cc → In t e.policy.cc
      own e t u = elim (rule_cc q p.defaults e.policy) [ inl same ↦ rw same at u | inr none ↦ absurd (rw none at u) ]

  module _ (lawful : Lawful p) where
    pub short_cc : (k : ℕ) → length (get_or (grant_by q marks p).cc k []) < 65536
    short_cc = each_short (grant_by q marks p).cc (λ t i.
        let j : In t (flat_map (λ n. n.rule.cc) (named_by q marks p) ++ p.defaults.cc) = rw granted_cc at i in
        elim (in_either t (flat_map (λ n. n.rule.cc) (named_by q marks p)) p.defaults.cc j) [
          | inl h ↦ let (e, k, u) = named_cc t h in list_cc p lawful e t k u
          | inr h ↦ default_cc p lawful t h
        ])

    joined_few : (bs : List Bool) (last : Text) (es : List Entry) → Rising last es → length (flat_map (λ n. n.rule.cc) (map (named_in q p.defaults) (marked bs es))) ≤ 32 * length es
    unfolding marked
    joined_few [] last es h = omega arith
    joined_few (b ∷ bs) last [] h = omega arith
    joined_few (false ∷ bs) last (e ∷ es) h = omega (arith, joined_few bs e.key es h.2)
    joined_few (true ∷ bs) last (e ∷ es) h =
        let n : length (rule_in q p.defaults e.policy).cc ≤ 32 = elim (rule_cc q p.defaults e.policy) [
          | inl same ↦ omega (arith, ap length same, h.1.policy.within.cc)
          | inr none ↦ omega (arith, ap length none)
        ] in
        let a = length-append (rule_in q p.defaults e.policy).cc (flat_map (λ n. n.rule.cc) (map (named_in q p.defaults) (marked bs es))) in
        omega (arith, joined_few bs e.key es h.2)

    -- 32 texts of each of 256 lists and of the defaults
    pub few_cc : length (grant_by q marks p).cc ≤ 8224
    few_cc =
        let n = joined_few marks [] p.lists lawful.rising in
        let a = length-append (flat_map (λ n. n.rule.cc) (named_by q marks p)) p.defaults.cc in
        let d = lawful.defaults.within.cc in
        let f = lawful.few in
        omega (arith, ap length granted_cc)
