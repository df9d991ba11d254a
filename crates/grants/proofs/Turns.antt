-- One list of a source after another: what the lists that are left say.
use Rattle.std.proofs.Common.{◌≡◌, ℕ, zero, suc, ◌+◌, ◌<◌, ◌≤◌, Bool, true, false, cond, ◌&&◌, ◌||◌, ◌⊎◌, List, [], ◌∷◌, ◌++◌, length, drop, Some, None, unwrap_or, sym, refl, ap, ◌∙◌, inl, inr, arith}
use Rattle.std.specs.List.{slice_get, list_any, range_with_len}
use Rattle.keep_first.specs.Keep.{some}
use Rattle.std.proofs.lemmas.List.{drop_all, drop_more}
use Rattle.std.proofs.lemmas.Bool.{cases_lt}
use Rattle.email_policy.specs.Policy.{Entry, Policy}
use Rattle.email_policy.specs.Texts.{listed, record_of, texts_of}
use Rattle.email_policy.specs.declared.texts.Whose.TheVariants.{List as Listed}
use Rattle.email_policy.specs.declared.texts.TextField.{TextField}
use Rattle.email_policy.specs.declared.texts.TextField.TheVariants.{Cc}
use Rattle.audience.specs.Rules.{rule_of}
use Rattle.grants.specs.declared.pass.Pass.{Pass}
use Rattle.grants.specs.declared.pass.Terms.{Terms}
use Rattle.grants.specs.declared.rule.Rule.{Rule as CodeRule}
use Rattle.grants.specs.Rules.{no_entry, entry_at, rule_in, replying}
use Rattle.grants.specs.Sums.{gives_cc, code_rule, with_rule, sum_from}
use Rattle.grants.proofs.Said.{entry_read}
use Rattle.grants.proofs.Gathered.{gathered, cc_of}

module _ (p : Policy) (n : ℕ) where
  pub list_first : n < length p.lists → drop n p.lists ≡ entry_at p n ∷ drop (n + 1) p.lists
  list_first h = drop_more p.lists n no_entry h ∙ ap (λ e. e ∷ drop (n + 1) p.lists) (entry_read p n)

  -- no list is left, or no mark
  pub Done : List Bool → Type 0
  Done bs = (length p.lists ≤ n) ⊎ (bs ≡ [])

  no_marks : (bs : List Bool) → length bs ≡ 0 → bs ≡ []
  no_marks [] e = refl
  no_marks (b ∷ bs) e = absurd (omega arith)

  pub done : {X : Type 0} (k : ℕ) (bs : List Bool) → n + k ≡ length p.lists → (0 < k → (length bs ≡ 0) × X) → Done bs
  unfolding Done
  done k bs e stop = elim (cases_lt 0 k) [ inl h ↦ inr (no_marks bs (stop h).0) | inr h ↦ inl (omega arith) ]

  -- the texts of list n, which past the last one are none
  pub texts_at : (f : TextField) → texts_of f (record_of p (Listed n)) ≡ texts_of f (entry_at p n).policy
  texts_at f = elim (slice_get p.lists n) as (λ o. texts_of f (listed o) ≡ texts_of f (unwrap_or o no_entry).policy) [ None ↦ refl | Some e ↦ refl ]

-- the terms once the marked ones of the lists are added
module _ (q : Pass) (p : Policy) (t all : Terms) (n : ℕ) where
  module _ (b : Bool) (bs bs' : List Bool) (n' : ℕ) (is_first : bs ≡ b ∷ bs') (next : n' ≡ n + 1) (h : n < length p.lists) (was : sum_from q p.defaults t bs (drop n p.lists) ≡ all) where
    sum_turn : sum_from q p.defaults (cond b (with_rule t (code_rule q p.defaults (entry_at p n).policy)) t) bs' (drop n' p.lists) ≡ all
    unfolding sum_from
    sum_turn = sym (λ i. sum_from q p.defaults t (is_first i) ((list_first p n h ∙ ap (λ k. entry_at p n ∷ drop k p.lists) (sym next)) i)) ∙ was

    pub sum_added : (m : ℕ) (r : CodeRule) (t' : Terms) → b ≡ true → m ≡ n → r ≡ code_rule q p.defaults (entry_at p m).policy → t' ≡ with_rule t r → sum_from q p.defaults t' bs' (drop n' p.lists) ≡ all
    sum_added m r t' mark here is_rule is_sum =
        ap (λ v. sum_from q p.defaults v bs' (drop n' p.lists))
        (is_sum ∙ ap (with_rule t) (is_rule ∙ ap (λ k. code_rule q p.defaults (entry_at p k).policy) here) ∙ ap (λ c. cond c (with_rule t (code_rule q p.defaults (entry_at p n).policy)) t) (sym mark))
        ∙ sum_turn

    pub sum_passed : b ≡ false → sum_from q p.defaults t bs' (drop n' p.lists) ≡ all
    sum_passed mark = ap (λ c. sum_from q p.defaults (cond c (with_rule t (code_rule q p.defaults (entry_at p n).policy)) t) bs' (drop n' p.lists)) (sym mark) ∙ sum_turn

  sum_none : (bs : List Bool) → sum_from q p.defaults t bs [] ≡ t
  unfolding sum_from
  sum_none [] = refl
  sum_none (b ∷ bs) = refl

  sum_unmarked : (es : List Entry) → sum_from q p.defaults t [] es ≡ t
  unfolding sum_from
  sum_unmarked es = refl

  pub sum_done : (bs : List Bool) → Done p n bs → sum_from q p.defaults t bs (drop n p.lists) ≡ all → t ≡ all
  unfolding Done
  sum_done bs (inl h) was = sym (ap (sum_from q p.defaults t bs) (drop_all n p.lists h) ∙ sum_none bs) ∙ was
  sum_done bs (inr e) was = sym (ap (λ l. sum_from q p.defaults t l (drop n p.lists)) e ∙ sum_unmarked (drop n p.lists)) ∙ was

-- the lists whose addresses are replied to
module _ (q : Pass) (p : Policy) (n : ℕ) where
  pub replying_first : (b : Bool) (bs bs' : List Bool) (n' : ℕ) → bs ≡ b ∷ bs' → n' ≡ n + 1 → n < length p.lists → replying q p.defaults bs (drop n p.lists) ≡ (b && (rule_in q p.defaults (entry_at p n).policy).reply_to.list) ∷ replying q p.defaults bs' (drop n' p.lists)
  unfolding replying
  replying_first b bs bs' n' is_first next h = (λ i. replying q p.defaults (is_first i) ((list_first p n h ∙ ap (λ k. entry_at p n ∷ drop k p.lists) (sym next)) i))

  replying_none : (bs : List Bool) → replying q p.defaults bs [] ≡ []
  unfolding replying
  replying_none [] = refl
  replying_none (b ∷ bs) = refl

  replying_unmarked : (es : List Entry) → replying q p.defaults [] es ≡ []
  unfolding replying
  replying_unmarked es = refl

  pub replying_done : (bs : List Bool) → Done p n bs → replying q p.defaults bs (drop n p.lists) ≡ []
  unfolding Done
  replying_done bs (inl h) = ap (replying q p.defaults bs) (drop_all n p.lists h) ∙ replying_none bs
  replying_done bs (inr e) = ap (λ l. replying q p.defaults l (drop n p.lists)) e ∙ replying_unmarked (drop n p.lists)

  -- the cc texts that the lists add
  pub gathered_first : (b : Bool) (bs bs' : List Bool) (n' : ℕ) → bs ≡ b ∷ bs' → n' ≡ n + 1 → n < length p.lists → gathered q p.defaults bs (drop n p.lists) ≡ cc_of q p.defaults b (entry_at p n) ++ gathered q p.defaults bs' (drop n' p.lists)
  unfolding gathered
  gathered_first b bs bs' n' is_first next h = (λ i. gathered q p.defaults (is_first i) ((list_first p n h ∙ ap (λ k. entry_at p n ∷ drop k p.lists) (sym next)) i))

  -- what list n adds, where it is asked by its number
  module _ (b : Bool) (m : ℕ) (here : m ≡ n) where
    gives_at : (b && gives_cc q (rule_of p.defaults (entry_at p m).policy).positive_review) ≡ (b && gives_cc q (rule_of p.defaults (entry_at p n).policy).positive_review)
    gives_at = ap (λ k. b && gives_cc q (rule_of p.defaults (entry_at p k).policy).positive_review) here

    pub cc_given : true ≡ (b && gives_cc q (rule_of p.defaults (entry_at p m).policy).positive_review) → texts_of Cc (record_of p (Listed m)) ≡ cc_of q p.defaults b (entry_at p n)
    cc_given gives = ap (λ k. texts_of Cc (record_of p (Listed k))) here ∙ texts_at p n Cc ∙ ap (λ c. cond c (entry_at p n).policy.cc []) (gives ∙ gives_at)

    pub no_cc_given : false ≡ (b && gives_cc q (rule_of p.defaults (entry_at p m).policy).positive_review) → cc_of q p.defaults b (entry_at p n) ≡ []
    no_cc_given none = ap (λ c. cond c (entry_at p n).policy.cc []) (sym (none ∙ gives_at))

  gathered_none : (bs : List Bool) → gathered q p.defaults bs [] ≡ []
  unfolding gathered
  gathered_none [] = refl
  gathered_none (b ∷ bs) = refl

  gathered_unmarked : (es : List Entry) → gathered q p.defaults [] es ≡ []
  unfolding gathered
  gathered_unmarked es = refl

  pub gathered_done : (bs : List Bool) → Done p n bs → gathered q p.defaults bs (drop n p.lists) ≡ []
  unfolding Done
  gathered_done bs (inl h) = ap (gathered q p.defaults bs) (drop_all n p.lists h) ∙ gathered_none bs
  gathered_done bs (inr e) = ap (λ l. gathered q p.defaults l (drop n p.lists)) e ∙ gathered_unmarked (drop n p.lists)

-- whether some list passes, asked number by number
module _ (p : Policy) (f : Entry → Bool) (by : ℕ → Bool) (same : (n : ℕ) → by n ≡ f (entry_at p n)) where
  some_from : (n k : ℕ) → n + k ≡ length p.lists → list_any by (range_with_len n k) ≡ some f (drop n p.lists)
  unfolding some
  some_from n zero e = ap (some f) (sym (drop_all n p.lists (omega arith)))
  some_from n (suc k) e =
      (λ i. same n i || some_from (n + 1) k (omega arith) i) ∙ ap (some f) (sym (list_first p n (omega arith)))

  pub some_list : list_any by (range_with_len 0 (length p.lists)) ≡ some f p.lists
  some_list = some_from 0 (length p.lists) (omega arith)
