-- Under a grant exactly the bares due are mailed, each once; and there are few individuals exactly when they are covered.
use Rattle.std.proofs.Common.{◌≡◌, Bool, true, false, cond, not, ◌&&◌, ◌⊎◌, List, [], ◌∷◌, ◌++◌, map, filter, sym, refl, ap, ◌∙◌, subst, inl, inr, le_trans}
use Rattle.std.proofs.lemmas.List.{map-append}
use Rattle.std.proofs.lemmas.Bool.{cases_Bool, and_parts, and_from, not-true, not_from_false, leb-true, le-leb}
use Rattle.address.specs.Text.{Text, trimmed, empty}
use Rattle.address.specs.Address.{bare, same_bare}
use Rattle.address.proofs.Inside.{bare-trimmed}
use Rattle.keep_first.specs.Keep.{some, keep_first}
use Rattle.keep_first.specs.Laws.{Apart}
use Rattle.keep_first.proofs.Members.{In, has_in, in_has, in_left, in_right, in_either, in_kept, kept_in, in_some, some_in, none_in, in_map, map_in}
use Rattle.keep_first.proofs.StandsIn.{some-keep_first}
use Rattle.audience.specs.Mail.{Mail, incoming, nobody, free, mailable}
use Rattle.audience.specs.Rules.{Grant}
use Rattle.audience.specs.Due.{has_angle, max_relayed_recipients, spellings, counts, individuals, few, Covered, qualifies, Candidate, Due, to_candidates, cc_candidates, to_texts, cc_texts}
use Rattle.audience.specs.Answers.{everyone, granted}
use Rattle.audience.specs.Promises.{Distinct, FewIsCovered}
use Rattle.audience.proofs.Bares.{bares_same, same_bares, by_bares, bare-kept, kept_within, kept-apart}
use Rattle.audience.proofs.Counted.{kept_no_longer}

distinct_append : (xs ys : List Text) → Distinct xs → Distinct ys → ((x : Text) → In x xs → In x ys → ⊥) → Distinct (xs ++ ys)
distinct_append [] ys a b n = b
distinct_append (x ∷ xs) ys a b n = (
  λ h. elim (in_either x xs ys (has_in _ x h)) [ inl i ↦ a.0 (in_has xs x i) | inr i ↦ n x (inl refl) i ],
  distinct_append xs ys a.1 b (λ z i j. n z (inr i) j),
)

distinct_bares : (ts : List Text) → Apart same_bare ts → Distinct (map bare (map trimmed ts))
distinct_bares [] a = tt
distinct_bares (t ∷ ts) a = (
  λ h. let (u, i, e) = map_in bare (bare (trimmed t)) (map trimmed ts) (has_in _ _ h) in
      let (v, j, f) = map_in trimmed u ts i in
      none_in (same_bare t) v ts a.0 j (same_bares t v (sym (bare-trimmed t) ∙ sym e ∙ ap bare (sym f) ∙ bare-trimmed v)),
  distinct_bares ts a.1,
)

-- the bares of the spellings are those of the texts that pass, each once
module _ (passes : Text → Bool) (ts : List Text) where
  abbrev kept : List Text
  kept = keep_first same_bare has_angle (filter passes ts)

  pub spelled : (c : Text) → In c ts → passes c ≡ true → In (bare c) (map bare (spellings passes ts))
  spelled c i e =
      let (t, j, f) = bare-kept has_angle (filter passes ts) c (in_kept passes c ts i e) in
      subst (λ b. In b (map bare (spellings passes ts))) (bare-trimmed t ∙ f) (in_map bare (trimmed t) (map trimmed kept) (in_map trimmed t kept j))

  pub spelling_of : (b : Text) → In b (map bare (spellings passes ts)) → (c : Text) × In c ts × (passes c ≡ true) × (bare c ≡ b)
  spelling_of b i =
      let (u, j, e) = map_in bare b (map trimmed kept) i in
      let (t, k, f) = map_in trimmed u kept j in
      let (l, q) = kept_in passes t ts (kept_within has_angle (filter passes ts) t k) in
      (t, l, q, sym (bare-trimmed t) ∙ ap bare f ∙ e)

  pub spelled_once : Distinct (map bare (spellings passes ts))
  spelled_once = distinct_bares kept (kept-apart has_angle (filter passes ts))

one_in : (c t : Text) (b : Bool) → In c (cond b (t ∷ []) []) → (b ≡ true) × (t ≡ c)
one_in c t true i = (refl, elim i [ inl e ↦ e | inr n ↦ absurd n ])
one_in c t false i = absurd i

module _ (listed : Text → Bool) (m : Mail) (g : Grant) where
  abbrev tos : List Text
  tos = to_candidates listed m g

  abbrev ccs : List Text
  ccs = cc_candidates listed m g

  abbrev author_first : List Text
  author_first = cond g.author (m.author ∷ []) []

  abbrev qualifying : List Text → List Text
  qualifying ts = filter (qualifies listed m g) ts

  in_candidates : (c : Text) → Candidate listed m g c → In c tos ⊎ In c ccs
  in_candidates c (inl (granted, e)) = inl (in_left c author_first (qualifying m.to) (subst (λ b. In c (cond b (m.author ∷ []) [])) (sym granted) (inl e)))
  in_candidates c (inr (inl (h, q))) = elim (in_either c m.to m.cc (has_in _ c h)) [
    | inl i ↦ inl (in_right c author_first (qualifying m.to) (in_kept (qualifies listed m g) c m.to i q))
    | inr i ↦ inr (in_left c (qualifying m.cc) g.cc (in_kept (qualifies listed m g) c m.cc i q))
  ]
  in_candidates c (inr (inr h)) = inr (in_right c (qualifying m.cc) g.cc (has_in _ c h))

  to_candidate : (c : Text) → In c tos → Candidate listed m g c
  to_candidate c i = elim (in_either c author_first (qualifying m.to) i) [
    | inl j ↦ inl (one_in c m.author g.author j)
    | inr j ↦ let (k, q) = kept_in (qualifies listed m g) c m.to j in inr (inl (in_has _ c (in_left c m.to m.cc k), q))
  ]

  cc_candidate : (c : Text) → In c ccs → Candidate listed m g c
  cc_candidate c i = elim (in_either c (qualifying m.cc) g.cc i) [
    | inl j ↦ let (k, q) = kept_in (qualifies listed m g) c m.cc j in inr (inl (in_has _ c (in_right c m.to m.cc k), q))
    | inr j ↦ inr (inr (in_has _ c j))
  ]

  abbrev to : List Text
  to = to_texts listed m g

  abbrev cc : List Text
  cc = cc_texts listed m g

  abbrev cc_passes : Text → Bool
  cc_passes t = mailable m t && not (some (same_bare t) to)

  abbrev pub mailed : List Text
  mailed = map bare (everyone (granted listed m g))

  mailed-parts : mailed ≡ map bare to ++ map bare cc
  mailed-parts = map-append bare to cc

  candidate_mailed : (c : Text) → In c tos ⊎ In c ccs → mailable m c ≡ true → In (bare c) (map bare to ++ map bare cc)
  candidate_mailed c (inl i) e = in_left (bare c) (map bare to) (map bare cc) (spelled (mailable m) tos c i e)
  candidate_mailed c (inr i) e = elim (cases_Bool (some (same_bare c) to)) [
    | inl s ↦ let (t, j, f) = some_in (same_bare c) to s in
        in_left (bare c) (map bare to) (map bare cc) (subst (λ b. In b (map bare to)) (sym (bares_same c t f)) (in_map bare t to j))
    | inr s ↦ in_right (bare c) (map bare to) (map bare cc) (spelled cc_passes ccs c i (and_from _ _ e (not_from_false _ s)))
  ]

  mailed_candidate : (b : Text) → In b (map bare to ++ map bare cc) → (c : Text) × Candidate listed m g c × (mailable m c ≡ true) × (bare c ≡ b)
  mailed_candidate b i = elim (in_either b (map bare to) (map bare cc) i) [
    | inl j ↦ let (c, k, e, f) = spelling_of (mailable m) tos b j in (c, to_candidate c k, e, f)
    | inr j ↦ let (c, k, e, f) = spelling_of cc_passes ccs b j in (c, cc_candidate c k, (and_parts (mailable m c) _ e).0, f)
  ]

  pub due_mailed : (b : Text) → Due listed m g b → In b mailed
  due_mailed b d =
      let (c, h, e, f) = d.candidate in
      rw (mailed-parts, ← e) (candidate_mailed c (in_candidates c h) (and_from (free m c) _ f (not_from_false (nobody c) (ap empty e ∙ d.somebody))))

  pub mailed_due : (b : Text) → In b mailed → Due listed m g b
  mailed_due b i =
      let (c, h, e, q) = mailed_candidate b (subst (In b) mailed-parts i) in
      let (f, n) = and_parts (free m c) _ e in
      record { somebody = ap empty (sym q) ∙ not-true (nobody c) n; candidate = (c, h, q, f) }

  -- a bare of Cc is none of To
  cc_new : (b : Text) → In b (map bare to) → In b (map bare cc) → ⊥
  cc_new b i j =
      let (t, k, e) = map_in bare b to i in
      let (c, _, f, q) = spelling_of cc_passes ccs b j in
      none_in (same_bare c) t to (not-true _ (and_parts (mailable m c) _ f).1) k (same_bares c t (q ∙ sym e))

  pub mailed_once : Distinct mailed
  mailed_once = subst Distinct (sym mailed-parts) (distinct_append (map bare to) (map bare cc) (spelled_once (mailable m) tos) (spelled_once cc_passes ccs) cc_new)

  abbrev counted : List Text
  counted = filter (counts listed m g) (incoming m)

  few_covers : few listed m g ≡ true → Covered listed m g
  few_covers e = (
    individuals listed m g,
    leb-true _ max_relayed_recipients e,
    λ t h c. some-keep_first same_bare (λ t. false) by_bares t counted ∙ in_some (same_bare t) t counted (in_kept (counts listed m g) t (incoming m) (has_in _ t h) c) (same_bares t t refl),
  )

  covered_few : Covered listed m g → few listed m g ≡ true
  covered_few (ys, l, covers) =
      let shorter = kept_no_longer same_bare by_bares (λ t. false) counted ys (λ t i. let (j, c) = kept_in (counts listed m g) t (incoming m) i in covers t (in_has _ t j) c) in
      le-leb _ max_relayed_recipients (le_trans shorter l)

pub few_is_covered : FewIsCovered
few_is_covered listed m g = (few_covers listed m g, covered_few listed m g)
