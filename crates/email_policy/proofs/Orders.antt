-- The order of keys.
use Rattle.std.proofs.Common.{◌≡◌, ℕ, ◌<◌, Bool, true, false, cond, not, ◌&&◌, ◌||◌, ltb, ◌⊎◌, [], ◌∷◌, Some, None, Option, sym, refl, ◌∙◌, subst, inl, inr, ⊎_elim, arith}
use Rattle.std.specs.Str.{bytes_eq}
use Rattle.std.proofs.lemmas.Slice.Eq.{bytes_eq-Decides}
use Rattle.std.proofs.lemmas.Bool.{both_ways, le-ltb, lt-ltb, eq-eqb, and_parts, and_from, and_right, or_cases, or_from, or_left, or_right, cases_order}
use Rattle.std.proofs.lemmas.Bool.Decides.{nat_tests}
use Rattle.std.specs.List.{list_any}
use Rattle.address.specs.Text.{Text, blank, trimmed}
use Rattle.address.specs.Address.{bare, sides}
use Rattle.email_policy.specs.declared.fault.KeyFault.{KeyFault}
use Rattle.email_policy.specs.declared.fault.KeyFault.TheVariants.{NoBare, Sides}
use Rattle.email_policy.specs.Keys.{key_text, good_sides, key_form, key_fault, before, rises, RisesOrders}
use Rattle.email_policy.proofs.Places.{else_parts}

pub before_irreflexive : (t : Text) → before t t ≡ false
unfolding before
before_irreflexive [] = refl
before_irreflexive (x ∷ t) = or_from _ _ (le-ltb x x (omega arith)) (and_right _ _ (before_irreflexive t))

pub before_transitive : (t u v : Text) → before t u ≡ true → before u v ≡ true → before t v ≡ true
unfolding before
before_transitive [] [] v h k = absurd (both_ways false refl h)
before_transitive [] (y ∷ u) [] h k = absurd (both_ways false refl k)
before_transitive [] (y ∷ u) (z ∷ v) h k = refl
before_transitive (x ∷ t) [] v h k = absurd (both_ways false refl h)
before_transitive (x ∷ t) (y ∷ u) [] h k = absurd (both_ways false refl k)
before_transitive (x ∷ t) (y ∷ u) (z ∷ v) h k = grind (arith, nat_tests, before_transitive t u v)

pub before_total : (t u : Text) → (before t u ≡ true) ⊎ ((before u t ≡ true) ⊎ (t ≡ u))
unfolding before
before_total [] [] = inr (inr refl)
before_total [] (y ∷ u) = inl refl
before_total (x ∷ t) [] = inr (inl refl)
before_total (x ∷ t) (y ∷ u) = cases (cases_order x y) (before_total t u)
  where
    cases : (x ≡ y) ⊎ ((x < y) ⊎ (y < x)) → (before t u ≡ true) ⊎ ((before u t ≡ true) ⊎ (t ≡ u)) → (before (x ∷ t) (y ∷ u) ≡ true) ⊎ ((before (y ∷ u) (x ∷ t) ≡ true) ⊎ (x ∷ t ≡ y ∷ u))
    cases (inr (inl l)) h = inl (or_left _ _ (lt-ltb x y l))
    cases (inr (inr l)) h = inr (inl (or_left _ _ (lt-ltb y x l)))
    cases (inl e) (inl h) = inl (or_right (ltb x y) _ (and_from _ _ (eq-eqb x y e) h))
    cases (inl e) (inr (inl h)) = inr (inl (or_right (ltb y x) _ (and_from _ _ (eq-eqb y x (sym e)) h)))
    cases (inl e) (inr (inr h)) = inr (inr (rw (e, h)))

-- an order by what f gives, and then by the texts
module _ (f : Text → Text) where
  abbrev by : Text → Text → Bool
  by j k = before (f j) (f k) || (bytes_eq (f j) (f k) && before j k)

  by_irreflexive : (k : Text) → by k k ≡ false
  by_irreflexive k = or_from _ _ (before_irreflexive (f k)) (and_right _ _ (before_irreflexive k))

  -- one stands before the other
  abbrev Apart : Text → Text → Type 0
  Apart j k = (before (f j) (f k) ≡ true) ⊎ ((f j ≡ f k) × (before j k ≡ true))

  by_parts : (j k : Text) → by j k ≡ true → Apart j k
  by_parts j k h = ⊎_elim inl (λ m. let p = and_parts _ _ m in inr ((bytes_eq-Decides (f j) (f k)).0 p.0, p.1)) (or_cases (before (f j) (f k)) _ h)

  by_from : (j k : Text) → Apart j k → by j k ≡ true
  by_from j k (inl h) = or_left _ _ h
  by_from j k (inr h) = or_right _ _ (and_from _ _ ((bytes_eq-Decides (f j) (f k)).1 h.0) h.1)

  apart_transitive : (i j k : Text) → Apart i j → Apart j k → Apart i k
  apart_transitive i j k (inl h) (inl m) = inl (before_transitive (f i) (f j) (f k) h m)
  apart_transitive i j k (inl h) (inr m) = inl (subst (λ (x : Text). before (f i) x ≡ true) m.0 h)
  apart_transitive i j k (inr h) (inl m) = inl (subst (λ (x : Text). before x (f k) ≡ true) (sym h.0) m)
  apart_transitive i j k (inr h) (inr m) = inr (h.0 ∙ m.0, before_transitive i j k h.1 m.1)

  by_transitive : (i j k : Text) → by i j ≡ true → by j k ≡ true → by i k ≡ true
  by_transitive i j k h m = by_from i k (apart_transitive i j k (by_parts i j h) (by_parts j k m))

  by_total : (j k : Text) → (by j k ≡ true) ⊎ ((by k j ≡ true) ⊎ (j ≡ k))
  by_total j k = cases (before_total (f j) (f k)) (before_total j k)
    where
      cases : (before (f j) (f k) ≡ true) ⊎ ((before (f k) (f j) ≡ true) ⊎ (f j ≡ f k)) → (before j k ≡ true) ⊎ ((before k j ≡ true) ⊎ (j ≡ k)) → (by j k ≡ true) ⊎ ((by k j ≡ true) ⊎ (j ≡ k))
      cases (inl h) m = inl (by_from j k (inl h))
      cases (inr (inl h)) m = inr (inl (by_from k j (inl h)))
      cases (inr (inr e)) (inl h) = inl (by_from j k (inr (e, h)))
      cases (inr (inr e)) (inr (inl h)) = inr (inl (by_from k j (inr (sym e, h))))
      cases (inr (inr e)) (inr (inr h)) = inr (inr h)

pub rises_irreflexive : (k : Text) → rises k k ≡ false
unfolding rises
rises_irreflexive k = by_irreflexive bare k

pub rises_transitive : (i j k : Text) → rises i j ≡ true → rises j k ≡ true → rises i k ≡ true
unfolding rises
rises_transitive i j k h m = by_transitive bare i j k h m

pub rises_total : (j k : Text) → (rises j k ≡ true) ⊎ ((rises k j ≡ true) ⊎ (j ≡ k))
unfolding rises
rises_total j k = by_total bare j k

some-bare : (at : ℕ) (t : Text) (s : Option (Text × Text)) (own : Text) → key_form at t s own ≡ None → before [] own ≡ true
unfolding before
some-bare at t None own h = let z : ◌≡◌ {A = ℕ} 0 1 = cc in absurd (omega arith)
some-bare at t (Some s) (b ∷ own) h = refl
some-bare at t (Some s) [] h = absurd (refused (good_sides s && not (list_any blank t)) h)
  where
    refused : (x : Bool) → ◌≡◌ {A = Option KeyFault} (cond x (Some (NoBare at)) (Some (Sides at))) None → ⊥
    refused true k = let z : ◌≡◌ {A = ℕ} 0 1 = cc in omega arith
    refused false k = let z : ◌≡◌ {A = ℕ} 0 1 = cc in omega arith

pub rises-first : (at first : ℕ) (k : Text) → key_fault at first k ≡ None → rises [] k ≡ true
unfolding rises key_fault
rises-first at first k h = or_left _ _ (some-bare at (trimmed k) (sides (trimmed k)) (bare k) (else_parts (key_text first k) (key_form at (trimmed k) (sides (trimmed k)) (bare k)) h).1)

pub rises_orders : RisesOrders
rises_orders = record { irreflexive = rises_irreflexive; transitive = rises_transitive; total = rises_total; first = rises-first }
