-- The order of keys in small letters, told from some place on.
use Rattle.std.proofs.Common.{◌≡◌, Some, Bool, true, false, ◌&&◌, ◌||◌, List, Option, [], ◌∷◌, cond, ◌==◌, nat_lt, refl, ap, ◌∙◌}
use Rattle.std.specs.Cmp.Lexicographic.{slice_cmp, slice_partial_cmp, lists_agrees}
use Rattle.std.specs.declared.cmp.Ordering.{Ordering}
use Rattle.std.specs.declared.cmp.Ordering.TheVariants.{Less, Equal, Greater}
use Rattle.std.specs.Ordering.{ordering_then, is_lt, is_some_and, nat_cmp}
use Rattle.std.specs.Iterator.{ComparesItemsByCmp}
use Rattle.std.proofs.lemmas.Iterator.{YieldsList}
use Rattle.std.proofs.lemmas.Iterator.Search.{cmp_from_yields_List}
use Rattle.address.specs.Text.{Text}
use Rattle.email_policy.specs.Keys.{before}

-- the order of slices
pub before_compared : (a b : Text) → is_lt (slice_cmp nat_cmp a b) ≡ before a b
unfolding before
before_compared [] [] = refl
before_compared [] (c ∷ b) = refl
before_compared (x ∷ a) [] = refl
before_compared (x ∷ a) (y ∷ b) = step (nat_lt x y) (x == y) (slice_cmp nat_cmp a b) (before a b) (before_compared a b)
  where
    step : (less same : Bool) (rest : Ordering) (r : Bool) → is_lt rest ≡ r → is_lt (ordering_then (cond less Less (cond same Equal Greater)) rest) ≡ (less || (same && r))
    step true same rest r e = refl
    step false true rest r e = e
    step false false rest r e = refl

pub before_partly : (a b : Text) → is_some_and is_lt (slice_partial_cmp (λ x y. Some (nat_cmp x y)) a b) ≡ before a b
before_partly a b = ap (is_some_and is_lt) (lists_agrees (λ x y. refl) a b) ∙ before_compared a b

-- `cmp` of two iterators is that of their lists
pub compared : {S T A B : Type 0} {steps : S → Option A → S → Type 0} {others : T → Option A → T → Type 0} {v : A → B} {s : S} {t : T} {cmp : A → A → Ordering} {xs ys : List B} (R : B → B → Ordering) (r : Ordering)
    → ComparesItemsByCmp steps (λ x y. y ≡ x) others s t cmp r → YieldsList steps v s xs → YieldsList others v t ys → ((x y : A) → cmp x y ≡ R (v x) (v y)) → r ≡ slice_cmp R xs ys
compared R r ran p q h = cmp_from_yields_List (λ x y. y ≡ x) _ R r ran p (λ it e. rw e q) h
