-- Those who are marked are the candidates of To and of Cc that pass.
use Rattle.std.proofs.Common.{◌≡◌, Bool, true, false, cond, not, ◌&&◌, List, [], ◌∷◌, ◌++◌, map, filter, sym, refl, ap, ◌∙◌}
use Rattle.std.specs.Str.{bytes_eq}
use Rattle.std.proofs.lemmas.List.Elements.{filter-append}
use Rattle.std.proofs.lemmas.List.{length-map}
use Rattle.address.specs.Text.{Text, trimmed}
use Rattle.address.specs.Address.{bare, same_bare}
use Rattle.address.proofs.Inside.{bare-trimmed}
use Rattle.keep_first.specs.Keep.{some, keep_first}
use Rattle.keep_first.proofs.Alike.{some-map}
use Rattle.keep_first.proofs.StandsIn.{some-keep_first}
use Rattle.audience.specs.Mail.{Mail, mailable}
use Rattle.audience.specs.Rules.{Grant}
use Rattle.audience.specs.Due.{has_angle, few, qualifies, to_candidates, cc_candidates, to_texts, cc_texts}
use Rattle.audience.proofs.Bares.{by_bares}
use Rattle.mail.specs.Marks.{marked}
use Rattle.mail.proofs.Marked.{marked_all, marked_append}
use Rattle.recipients.specs.Choices.{listed_by, to_marks, cc_marks}

module _ {X : Type 0} (p q : X → Bool) where
  kept_twice : (xs : List X) → filter (λ x. q x && p x) xs ≡ filter p (filter q xs)
  kept_twice [] = refl
  kept_twice (x ∷ xs) =
      ap (λ l. cond (q x && p x) (x ∷ l) l) (kept_twice xs)
      ∙ elim (q x) as (λ b. cond (b && p x) (x ∷ filter p (filter q xs)) (filter p (filter q xs)) ≡ filter p (cond b (x ∷ filter q xs) (filter q xs))) [ true ↦ refl | false ↦ refl ]

  marked_twice : (xs : List X) → marked (map (λ x. q x && p x) xs) xs ≡ filter p (filter q xs)
  marked_twice xs = marked_all (λ x. q x && p x) xs ∙ kept_twice xs

  marked-after_one : (b : Bool) (x : X) (xs : List X) → marked ((b && p x) ∷ map (λ y. q y && p y) xs) (x ∷ xs) ≡ filter p (cond b (x ∷ []) [] ++ filter q xs)
  unfolding marked
  marked-after_one true x xs = ap (λ l. cond (p x) (x ∷ l) l) (marked_twice xs)
  marked-after_one false x xs = marked_twice xs

  marked-before_all : (xs ys : List X) → marked (map (λ x. q x && p x) xs ++ map p ys) (xs ++ ys) ≡ filter p (filter q xs ++ ys)
  marked-before_all xs ys =
      marked_append (map (λ x. q x && p x) xs) (map p ys) xs ys (length-map xs (λ x. q x && p x))
      ∙ (λ i. marked_twice xs i ++ marked_all p ys i)
      ∙ sym (filter-append p (filter q xs) ys)

some-trimmed : (t : Text) (ts : List Text) → some (same_bare t) ts ≡ some (same_bare t) (map trimmed ts)
some-trimmed t ts = (λ i. some (λ u. bytes_eq (bare t) (sym (bare-trimmed u) i)) ts) ∙ some-map trimmed (same_bare t) ts

module _ (keys : List Text) (m : Mail) (g : Grant) where
  abbrev pub listed : Text → Bool
  listed = listed_by keys

  -- individuals are granted a reply, and few
  abbrev pub individuals : Bool
  individuals = g.recipients && few listed m g

  -- those who take part in To, and in Cc
  abbrev pub to_marked : List Text
  to_marked = marked (to_marks keys m g individuals) (m.author ∷ m.to)

  abbrev pub cc_marked : List Text
  cc_marked = marked (cc_marks keys m g individuals to_marked) (m.cc ++ g.cc)

  pub to_is : to_marked ≡ filter (mailable m) (to_candidates listed m g)
  unfolding to_marks
  to_is = marked-after_one (mailable m) (qualifies listed m g) g.author m.author m.to

  pub to_texts_are : to_texts listed m g ≡ map trimmed (keep_first same_bare has_angle to_marked)
  to_texts_are = ap (λ ts. map trimmed (keep_first same_bare has_angle ts)) (sym to_is)

  -- who is kept has the bare of all who take part
  pub taken_is : (t : Text) → some (same_bare t) to_marked ≡ some (same_bare t) (to_texts listed m g)
  taken_is t =
      sym (some-keep_first same_bare has_angle by_bares t to_marked)
      ∙ some-trimmed t (keep_first same_bare has_angle to_marked)
      ∙ ap (some (same_bare t)) (sym to_texts_are)

  pub cc_is : cc_marked ≡ filter (λ t. mailable m t && not (some (same_bare t) (to_texts listed m g))) (cc_candidates listed m g)
  unfolding cc_marks
  cc_is =
      marked-before_all (λ t. mailable m t && not (some (same_bare t) to_marked)) (qualifies listed m g) m.cc g.cc
      ∙ (λ i. filter (λ t. mailable m t && not (taken_is t i)) (cc_candidates listed m g))

  pub cc_texts_are : cc_texts listed m g ≡ map trimmed (keep_first same_bare has_angle cc_marked)
  cc_texts_are = ap (λ ts. map trimmed (keep_first same_bare has_angle ts)) (sym cc_is)
