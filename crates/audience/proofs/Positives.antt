-- A smaller grant makes fewer due, and the positive grant is smaller.
use Rattle.std.proofs.Common.{◌≡◌, Bool, true, false, cond, not, ◌&&◌, ◌||◌, List, [], ◌∷◌, map, Some, filter, Option, sym, refl, ap, ◌∙◌, subst, inl, inr, le_trans}
use Rattle.std.specs.List.{flat_map}
use Rattle.std.proofs.lemmas.Bool.{both_ways, and_parts, and_from, not-true, true≢false, leb-true, le-leb}
use Rattle.address.specs.Text.{Text}
use Rattle.address.specs.Address.{same_bare}
use Rattle.keep_first.specs.Keep.{some}
use Rattle.keep_first.proofs.Members.{In, has_in, in_has, in_left, in_right, in_either, in_kept, kept_in, in_some, some_in, map_in}
use Rattle.email_policy.specs.Policy.{DefaultPolicy, Policy}
use Rattle.email_policy.specs.declared.policy.PositiveReviewPolicy.{PositiveReviewPolicy}
use Rattle.email_policy.specs.declared.policy.PositiveReviewPolicy.TheVariants.{None as to_none, Author as to_author, All as to_all}
use Rattle.audience.specs.Mail.{Mail, incoming, nobody}
use Rattle.audience.specs.Rules.{Rule, Named, named, unless_named, Grant, by_defaults, by_lists, grant, shut_out, muted, merged_rank, list_address}
use Rattle.audience.specs.Due.{max_relayed_recipients, counts, few, qualifies, Candidate, Due}
use Rattle.audience.specs.Answers.{Recipients, everyone, somebody, granted, sent, mute, send_or_mute, positive_rule, positive_named, positive_grant, positive_by_rank, positive_of, positive_answer, bares}
use Rattle.audience.specs.Promises.{EveryPositiveWithinDue}
use Rattle.audience.proofs.Members.{some_grows, in_joined, joined_in}
use Rattle.audience.proofs.Bares.{by_bares}
use Rattle.audience.proofs.Counted.{kept_grows}
use Rattle.audience.proofs.Granted.{mailed_due}
use Rattle.audience.proofs.First.{bares-sent}

-- h grants no more than g
pub record Smaller (h g : Grant) : Type 0 where
  pub author : h.author ≡ true → g.author ≡ true
  pub recipients : h.recipients ≡ true → g.recipients ≡ true
  pub list : (t : Text) → h.list t ≡ true → g.list t ≡ true
  pub cc : (t : Text) → In t h.cc → In t g.cc

-- what fails a weaker test fails a stronger one
not_weaker : (x y : Bool) → (x ≡ true → y ≡ true) → not y ≡ true → not x ≡ true
not_weaker true y w n = absurd (both_ways y (not-true y n) (w refl))
not_weaker false y w n = refl

and_grows : (x y x' y' : Bool) → (x ≡ true → x' ≡ true) → (y ≡ true → y' ≡ true) → (x && y) ≡ true → (x' && y') ≡ true
and_grows x y x' y' f g e = let (a, b) = and_parts x y e in and_from x' y' (f a) (g b)

cond_grows : (b x y x' y' : Bool) → (x ≡ true → x' ≡ true) → (y ≡ true → y' ≡ true) → cond b x y ≡ true → cond b x' y' ≡ true
cond_grows true x y x' y' f g = f
cond_grows false x y x' y' f g = g

module _ (listed : Text → Bool) (m : Mail) (h g : Grant) (s : Smaller h g) where
  -- who is mailed anyhow is not counted, so a smaller grant counts more
  counts_more : (t : Text) → counts listed m g t ≡ true → counts listed m h t ≡ true
  counts_more t =
      and_grows (not (listed t)) _ (not (listed t)) _ (λ e. e)
      (and_grows (not (nobody t)) _ (not (nobody t)) _ (λ e. e)
      (and_grows (not (same_bare m.bot t)) _ (not (same_bare m.bot t)) _ (λ e. e)
      (and_grows _ _ _ _
      (not_weaker _ _ (and_grows h.author _ g.author _ s.author (λ e. e)))
      (not_weaker _ _ (some_grows (same_bare t) (same_bare t) h.cc g.cc (λ u i e. (s.cc u i, e)))))))

  few_grows : few listed m h ≡ true → few listed m g ≡ true
  few_grows e =
      let more : (t : Text) → In t (filter (counts listed m g) (incoming m)) → In t (filter (counts listed m h) (incoming m)) =
      λ t i. let (j, c) = kept_in (counts listed m g) t (incoming m) i in in_kept (counts listed m h) t (incoming m) j (counts_more t c) in
      le-leb _ max_relayed_recipients (le_trans (kept_grows same_bare by_bares (λ t. false) _ _ more) (leb-true _ max_relayed_recipients e))

  qualifies_grows : (t : Text) → qualifies listed m h t ≡ true → qualifies listed m g t ≡ true
  qualifies_grows t = cond_grows (listed t) _ _ _ _ (s.list t) (and_grows h.recipients _ g.recipients _ s.recipients few_grows)

  candidate_grows : (c : Text) → Candidate listed m h c → Candidate listed m g c
  candidate_grows c (inl a) = inl (s.author a.0, a.1)
  candidate_grows c (inr (inl q)) = inr (inl (q.0, qualifies_grows c q.1))
  candidate_grows c (inr (inr h)) = inr (inr (in_has _ c (s.cc c (has_in _ c h))))

  pub due_grows : (b : Text) → Due listed m h b → Due listed m g b
  due_grows b d = let (c, k, e, f) = d.candidate in record { somebody = d.somebody; candidate = (c, candidate_grows c k, e, f) }

-- the rule of a list grants no more to a review without findings
positive_author : (q : PositiveReviewPolicy) (r : Rule) → (positive_rule q r).reply_to.author ≡ true → r.reply_to.author ≡ true
positive_author to_none r e = absurd (true≢false (sym e))
positive_author to_author r e = e
positive_author to_all r e = e

positive-recipients : (q : PositiveReviewPolicy) (r : Rule) → (positive_rule q r).reply_to.recipients ≡ true → r.reply_to.recipients ≡ true
positive-recipients to_none r e = absurd (true≢false (sym e))
positive-recipients to_author r e = absurd (true≢false (sym e))
positive-recipients to_all r e = e

positive_list : (q : PositiveReviewPolicy) (r : Rule) → (positive_rule q r).reply_to.list ≡ true → r.reply_to.list ≡ true
positive_list to_none r e = absurd (true≢false (sym e))
positive_list to_author r e = absurd (true≢false (sym e))
positive_list to_all r e = e

positive_cc : (q : PositiveReviewPolicy) (r : Rule) (t : Text) → In t (positive_rule q r).cc → In t r.cc
positive_cc to_none r t i = absurd i
positive_cc to_author r t i = absurd i
positive_cc to_all r t i = i

module _ {X : Type 0} (f : X → X) where
  some_of_map : (p q : X → Bool) → ((x : X) → p (f x) ≡ true → q x ≡ true) → (xs : List X) → some p (map f xs) ≡ true → some q xs ≡ true
  some_of_map p q w xs e = let (y, i, t) = some_in p (map f xs) e in let (x, j, r) = map_in f y xs i in in_some q x xs j (w x (ap p r ∙ t))

  joined_of_map : {Y : Type 0} (k : X → List Y) → ((x : X) (y : Y) → In y (k (f x)) → In y (k x)) → (xs : List X) (y : Y) → In y (flat_map k (map f xs)) → In y (flat_map k xs)
  joined_of_map k w xs y h =
      let (z, i, j) = joined_in k y (map f xs) h in
      let (x, l, e) = map_in f z xs i in
      in_joined k x y xs l (w x y (subst (λ a. In y (k a)) (sym e) j))

positive_smaller : (d : DefaultPolicy) (ns : List Named) → Smaller (by_lists d (map positive_named ns)) (by_lists d ns)
positive_smaller d ns = record {
  author = some_of_map positive_named _ _ (λ n. positive_author n.rule.positive_review n.rule) ns;
  recipients = some_of_map positive_named _ _ (λ n. positive-recipients n.rule.positive_review n.rule) ns;
  list = λ t. some_of_map positive_named _ _ (λ n. and_grows _ _ _ _ (positive_list n.rule.positive_review n.rule) (λ e. e)) ns;
  cc = λ t i. elim (in_either t (flat_map (λ n. n.rule.cc) (map positive_named ns)) d.cc i) [
    | inl j ↦ in_left t (flat_map (λ n. n.rule.cc) ns) d.cc (joined_of_map positive_named (λ n. n.rule.cc) (λ n. positive_cc n.rule.positive_review n.rule) ns t j)
    | inr j ↦ in_right t (flat_map (λ n. n.rule.cc) ns) d.cc j
  ];
}

module _ (known : Text → Bool) (p : Policy) (m : Mail) where
  abbrev listed : Text → Bool
  listed = list_address known p

  of_send : (b : Text) (barred : Bool) (ts : List Text) (r : Recipients) (rank : PositiveReviewPolicy)
      → In b (bares (positive_of known p m (cond barred mute (send_or_mute (somebody ts r) rank)))) → In b (bares (positive_by_rank known p m r rank))
  of_send b true ts r rank i = absurd i
  of_send b false [] r rank i = absurd i
  of_send b false (t ∷ ts) r rank i = i

  -- a positive answer is what its rank makes of the first one's recipients
  pub positive_by : (b : Text) → In b (bares (positive_answer known p m)) → In b (bares (positive_by_rank known p m (granted listed m (grant p m)) (merged_rank p m)))
  positive_by b = of_send b (shut_out p m || muted p m) (everyone (granted listed m (grant p m))) (granted listed m (grant p m)) (merged_rank p m)

  pub sent_due : (g : Grant) (b : Text) → In b (bares (sent listed m g)) → Due listed m g b
  sent_due g b i = mailed_due listed m g b (subst (In b) (bares-sent listed m g) i)

  -- what goes to all is due: the first answer's recipients, or those of the smaller grant
  to_all_due : (ns : List Named) (b : Text) (first : Recipients) (again : Option Recipients)
      → (In b (bares (Some first)) → Due listed m (unless_named ns (by_defaults p.defaults) (by_lists p.defaults ns)) b)
      → (In b (bares again) → Due listed m (by_lists p.defaults (map positive_named ns)) b)
      → In b (bares (unless_named ns (Some first) again))
      → Due listed m (unless_named ns (by_defaults p.defaults) (by_lists p.defaults ns)) b
  to_all_due [] b first again f g i = f i
  to_all_due (n ∷ ns) b first again f g i = due_grows listed m _ _ (positive_smaller p.defaults (n ∷ ns)) b (g i)

pub every_positive_within_due : EveryPositiveWithinDue
every_positive_within_due known p m all b h =
    let first = granted (list_address known p) m (grant p m) in
    to_all_due known p m (named p m) b first (sent (list_address known p) m (positive_grant p m))
    (mailed_due (list_address known p) m (grant p m) b)
    (sent_due known p m (positive_grant p m) b)
    (subst (λ q. In b (bares (positive_by_rank known p m first q))) all (positive_by known p m b (has_in _ b h)))
