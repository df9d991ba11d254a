-- What keep_first gives, for every equivalence. What is said of sameness stands apart from what is said of preference.
use Rattle.std.specs.Prelude.{◌≡◌, Bool, true, false, List, [], ◌∷◌, map}
use Rattle.std.specs.List.{ContainsAt as Has}
use Rattle.keep_first.specs.Keep.{some, firsts, stand_in, keep_first}

-- no two of a list are the same
abbrev pub Apart : {X : Type 0} → (X → X → Bool) → List X → Type 0
Apart same [] = Unit {0}
Apart same (x ∷ xs) = (some (same x) xs ≡ false) × Apart same xs

-- xs with some elements left out
pub data Part {X : Type 0} : List X → List X → Type 0 where
  none : Part [] []
  with_it : {x : X} {ys xs : List X} → Part ys xs → Part (x ∷ ys) (x ∷ xs)
  without : {x : X} {ys xs : List X} → Part ys xs → Part ys (x ∷ xs)

module _ {X : Type 0} (same : X → X → Bool) where
  pub record KeepsFirsts (xs : List X) : Type 0 where
    pub apart : Apart same (firsts same xs)
    pub reached : (x : X) → Has xs x → (y : X) × Has (firsts same xs) y × (same x y ≡ true)
    -- they are of the list, and in its order
    pub ordered : Part (firsts same xs) xs

  module _ (preferred : X → Bool) where
    -- what stands at the place of an x of the list
    pub record StandsIn (xs : List X) (x : X) : Type 0 where
      pub within : Has xs (stand_in same preferred xs x)
      pub alike : same x (stand_in same preferred xs x) ≡ true
      pub liked : (y : X) → Has xs y → same x y ≡ true → preferred y ≡ true → preferred (stand_in same preferred xs x) ≡ true

    pub record Keeps (xs : List X) : Type 0 where
      -- no two that are kept are the same
      pub apart : Apart same (keep_first same preferred xs)
      -- each of the list is the same as one that is kept
      pub reached : (x : X) → Has xs x → (y : X) × Has (keep_first same preferred xs) y × (same x y ≡ true)
      -- each that is kept is of the list
      pub within : (y : X) → Has (keep_first same preferred xs) y → Has xs y
      -- where a class has a preferred one, a preferred one stands for it
      pub liked : (x y : X) → Has xs x → preferred x ≡ true → Has (keep_first same preferred xs) y → same y x ≡ true → preferred y ≡ true

-- keep_first over places is keep_first over what stands there
abbrev pub Commutes : Type 0 → Type 0 → Type 0
Commutes X Y = (f : X → Y) (same : Y → Y → Bool) (preferred : Y → Bool) (xs : List X) → map f (keep_first (λ x y. same (f x) (f y)) (λ x. preferred (f x)) xs) ≡ keep_first same preferred (map f xs)
