-- Of the lists only those that the mail names are heard, and what all ignore.
use Rattle.std.proofs.Common.{◌≡◌, Bool, false, cond, not, ◌&&◌, ◌||◌, leb, List, [], ◌∷◌, ◌++◌, map, length, Some, filter, sym, refl, ap, ◌∙◌, subst, ap₂, inl, inr}
use Rattle.std.specs.List.{flat_map, ContainsAt as Has}
use Rattle.std.proofs.lemmas.Bool.{cond-false}
use Rattle.address.specs.Text.{Text, small, holds}
use Rattle.address.specs.Address.{bare, same_bare, domain}
use Rattle.keep_first.specs.Keep.{some, keep_first}
use Rattle.keep_first.proofs.Members.{In, has_in, in_has, in_left, in_right, in_some, some-both}
use Rattle.keep_first.proofs.Alike.{kept_by_agrees}
use Rattle.email_policy.specs.Policy.{Entry, Policy}
use Rattle.email_policy.specs.declared.policy.PositiveReviewPolicy.TheVariants.{None as to_none, Author as to_author, All as to_all}
use Rattle.audience.specs.Mail.{Mail, incoming, nobody, mailable}
use Rattle.audience.specs.Rules.{names, named, rule_of, unless_named, Grant, by_defaults, by_lists, at_known, list_address, highest, ignored_texts, shut_out}
use Rattle.audience.specs.Due.{max_relayed_recipients, spellings, counts, few, qualifies, to_candidates, cc_candidates}
use Rattle.audience.specs.Answers.{everyone, somebody, granted, sent, Answer, mute, send, send_or_mute, positive_named, positive_of, first_answer}
use Rattle.audience.specs.Promises.{AlikeLists, Alike, SameHeard, UnnamedListsUnheard, OnlyTheNamedAreHeard}
use Rattle.audience.proofs.Members.{some_grows, some_of_kept}

-- only of the mail's addresses does it matter whether they are a list's
module _ (l k : Text → Bool) (m : Mail) (g : Grant) (same : (t : Text) → In t (incoming m) → l t ≡ k t) where
  few_same : few l m g ≡ few k m g
  few_same = ap (λ ts. leb (length (keep_first same_bare (λ t. false) ts)) max_relayed_recipients)
      (kept_by_agrees (counts l m g) (counts k m g) (incoming m)
      (λ t i. ap (λ b. not b && (not (nobody t) && (not (same_bare m.bot t) && (not (g.author && same_bare m.author t) && not (some (same_bare t) g.cc))))) (same t i)))

  qualifies_same : (t : Text) → In t (incoming m) → qualifies l m g t ≡ qualifies k m g t
  qualifies_same t i = ap₂ (λ b f. cond b (g.list t) (g.recipients && f)) (same t i) few_same

  tos_same : to_candidates l m g ≡ to_candidates k m g
  tos_same = ap (λ ts. cond g.author (m.author ∷ []) [] ++ ts) (kept_by_agrees (qualifies l m g) (qualifies k m g) m.to (λ t i. qualifies_same t (in_left t m.to m.cc i)))

  ccs_same : cc_candidates l m g ≡ cc_candidates k m g
  ccs_same = ap (λ ts. ts ++ g.cc) (kept_by_agrees (qualifies l m g) (qualifies k m g) m.cc (λ t i. qualifies_same t (in_right t m.to m.cc i)))

  granted_same : granted l m g ≡ granted k m g
  granted_same = ap₂ (λ ts cs. record { to = spellings (mailable m) ts; cc = spellings (λ t. mailable m t && not (some (same_bare t) (spellings (mailable m) ts))) cs }) tos_same ccs_same

  sent_same : sent l m g ≡ sent k m g
  sent_same = ap (λ r. somebody (everyone r) r) granted_same

module _ (known : Text → Bool) (m : Mail) (p q : Policy) (a : SameHeard m p q) where
  keyed_by_named : (es : List Entry) (t : Text) → In t (incoming m) → some (λ e. same_bare e.key t) es ≡ some (λ e. same_bare e.key t) (filter (names m) es)
  keyed_by_named es t i = some_of_kept (λ e. same_bare e.key t) (names m) (λ e s. in_some (same_bare e.key) t (incoming m) i s) es

  listed_same : (t : Text) → In t (incoming m) → list_address known p t ≡ list_address known q t
  listed_same t i = ap (λ b. b || at_known known (domain (bare t)))
      (keyed_by_named p.lists t i ∙ ap (some (λ e. same_bare e.key t)) a.named ∙ sym (keyed_by_named q.lists t i))

  sent_by : (g h : Grant) → g ≡ h → sent (list_address known p) m g ≡ sent (list_address known q) m h
  sent_by g h e = sent_same (list_address known p) (list_address known q) m g listed_same ∙ ap (sent (list_address known q) m) e

  ns : named p m ≡ named q m
  ns = λ i. map (λ e. record { key = e.key; rule = rule_of (a.defaults i) e.policy }) (a.named i)

  shut_same : shut_out p m ≡ shut_out q m
  shut_same =
      let ignores : Text → Bool = λ t. holds (small m.author) (small t) in
      ap (λ b. b || (not (nobody m.bot) && (not (nobody m.author) && holds (small m.author) (bare m.bot))))
      (some-both ignores ignores (ignored_texts p) (ignored_texts q)
      (some_grows ignores ignores (ignored_texts p) (ignored_texts q) (λ t i e. (has_in _ t ((a.ignored t).0 (in_has _ t i)), e)))
      (some_grows ignores ignores (ignored_texts q) (ignored_texts p) (λ t i e. (has_in _ t ((a.ignored t).1 (in_has _ t i)), e))))

  first_same : first_answer known p m ≡ first_answer known q m
  first_same = λ i. cond (shut_same i || unless_named (ns i) (a.defaults i).mute_all (some (λ n. n.rule.mute_all) (ns i))) mute
      (send_or_mute (sent_by _ _ (λ j. unless_named (ns j) (by_defaults (a.defaults j)) (by_lists (a.defaults j) (ns j))) i)
      (unless_named (ns i) (a.defaults i).positive_review (highest (map (λ n. n.rule.positive_review) (ns i)))))

  positive_same : (f : Answer) → positive_of known p m f ≡ positive_of known q m f
  positive_same mute = refl
  positive_same (send r to_none) = refl
  positive_same (send r to_author) = refl
  positive_same (send r to_all) = λ i. unless_named (ns i) (Some r) (sent_by _ _ (λ j. by_lists (a.defaults j) (map positive_named (ns j))) i)

pub only_the_named_are_heard : OnlyTheNamedAreHeard
only_the_named_are_heard known m p q a =
    (first_same known m p q a, ap (positive_of known p m) (first_same known m p q a) ∙ positive_same known m p q a (first_answer known q m))

module _ (m : Mail) where
  named_alike : (es fs : List Entry) → AlikeLists m es fs → filter (names m) es ≡ filter (names m) fs
  named_alike [] [] a = refl
  named_alike [] (f ∷ fs) a = absurd a
  named_alike (e ∷ es) [] a = absurd a
  named_alike (e ∷ es) (f ∷ fs) (k, r, a) =
      let rest : filter (names m) es ≡ filter (names m) fs = named_alike es fs a in
      let n : names m e ≡ names m f = ap (λ key. some (same_bare key) (incoming m)) k in
      elim r [
        | inl s ↦ (λ i. cond (n i) (record { key = k i; policy = s i } ∷ rest i) (rest i))
        | inr s ↦ cond-false (names m e) _ _ s.0 ∙ rest ∙ sym (cond-false (names m f) _ _ (sym n ∙ s.0))
      ]

  ignored_alike : (es fs : List Entry) → AlikeLists m es fs → flat_map (λ e. e.policy.ignored_emails) es ≡ flat_map (λ e. e.policy.ignored_emails) fs
  ignored_alike [] [] a = refl
  ignored_alike [] (f ∷ fs) a = absurd a
  ignored_alike (e ∷ es) [] a = absurd a
  ignored_alike (e ∷ es) (f ∷ fs) (_, r, a) = ap₂ ◌++◌ (elim r [ inl s ↦ ap (λ x. x.ignored_emails) s | inr s ↦ s.1 ]) (ignored_alike es fs a)

  pub alike_heard : (p q : Policy) → Alike m p q → SameHeard m p q
  alike_heard p q (d, a) =
      let ignored : ignored_texts p ≡ ignored_texts q = ap₂ (λ x xs. x.ignored_emails ++ xs) d (ignored_alike p.lists q.lists a) in
      record {
        defaults = d;
        named = named_alike p.lists q.lists a;
        ignored = λ t. (subst (λ l. Has l t) ignored, subst (λ l. Has l t) (sym ignored));
      }

pub unnamed_lists_unheard : UnnamedListsUnheard
unnamed_lists_unheard known m p q a = only_the_named_are_heard known m p q (alike_heard m p q a)
