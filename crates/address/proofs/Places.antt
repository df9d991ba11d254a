-- The place of the first element that passes, told from some place on.
use Rattle.std.proofs.Common.{◌≡◌, ℕ, suc, ◌+◌, ◌<◌, ◌≤◌, Bool, true, false, List, [], ◌∷◌, length, get_or, drop, Some, None, Option, refl, ap, ◌∙◌, arith}
use Rattle.std.specs.Option.{option_map}
use Rattle.std.proofs.lemmas.List.{at_drop_more, at_drop_all}
use Rattle.std.proofs.lemmas.Bool.{cond-true, cond-false, cond_both}
use Rattle.address.specs.Text.{first_place}

-- a place counted from place i on
abbrev pub from : ℕ → Option ℕ → Option ℕ
from i o = option_map (λ n. i + n) o

pub from_zero : (o : Option ℕ) → o ≡ from 0 o
from_zero None = refl
from_zero (Some n) = ap Some (omega arith)

from_suc : (i : ℕ) (o : Option ℕ) → from i (option_map suc o) ≡ from (i + 1) o
from_suc i None = refl
from_suc i (Some n) = ap Some (omega arith)

module _ {X : Type 0} (p : X → Bool) where
  pub first_place_passed : (i : ℕ) (x : X) (xs : List X) → p x ≡ false → from i (first_place p (x ∷ xs)) ≡ from (i + 1) (first_place p xs)
  first_place_passed i x xs f = ap (from i) (cond-false (p x) (Some 0) (option_map suc (first_place p xs)) f) ∙ from_suc i (first_place p xs)

  pub first_place_here : (i : ℕ) (x : X) (xs : List X) → p x ≡ true → from i (first_place p (x ∷ xs)) ≡ Some i
  first_place_here i x xs t = ap (from i) (cond-true (p x) (Some 0) (option_map suc (first_place p xs)) t) ∙ ap Some (omega arith)

  -- told from place i on: by the element there, or past the end
  module _ (xs : List X) (i : ℕ) where
    pub first_place_more : (d : X) → i < length xs → p (get_or xs i d) ≡ false → from i (first_place p (drop i xs)) ≡ from (i + 1) (first_place p (drop (i + 1) xs))
    first_place_more d h f = at_drop_more (λ l. from i (first_place p l)) xs i d h ∙ first_place_passed i _ _ f

    pub first_place-found : (d : X) → i < length xs → p (get_or xs i d) ≡ true → from i (first_place p (drop i xs)) ≡ Some i
    first_place-found d h t = at_drop_more (λ l. from i (first_place p l)) xs i d h ∙ first_place_here i _ _ t

    pub first_place_none : length xs ≤ i → from i (first_place p (drop i xs)) ≡ None
    first_place_none h = at_drop_all (λ l. from i (first_place p l)) xs i h

  -- what stands at the first place passes
  abbrev Passes : List X → X → Option ℕ → Type 0
  Passes xs d None = Unit {0}
  Passes xs d (Some n) = (n < length xs) × (p (get_or xs n d) ≡ true)

  passes_later : (x : X) (xs : List X) (d : X) (o : Option ℕ) → Passes xs d o → Passes (x ∷ xs) d (option_map suc o)
  passes_later x xs d None h = tt
  passes_later x xs d (Some n) h = (omega arith, h.1)

  pub first_place_passes : (xs : List X) (d : X) → Passes xs d (first_place p xs)
  first_place_passes [] d = tt
  first_place_passes (x ∷ xs) d =
      cond_both (p x) (Some 0) (option_map suc (first_place p xs)) (Passes (x ∷ xs) d)
      (λ t. (omega arith, t))
      (λ f. passes_later x xs d (first_place p xs) (first_place_passes xs d))

  pub first_place_is : (xs : List X) (d : X) (n : ℕ) → first_place p xs ≡ Some n → (n < length xs) × (p (get_or xs n d) ≡ true)
  first_place_is xs d n e = rw e at (first_place_passes xs d)
