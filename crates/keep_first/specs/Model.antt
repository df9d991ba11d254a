-- A roll as the code sees it: so many places, some of which take part, with sameness and preference.
use Rattle.std.specs.Prelude.{◌≡◌, ℕ, ◌-◌, Bool, true, cond, not, ◌&&◌, List, ◌++◌, length, drop, Some, None, filter, Option, nat_le}
use Rattle.std.specs.List.{range_with_len}
use Rattle.keep_first.specs.Keep.{some, first_or, stand_in, keep_first}

-- what sameness alone needs
pub record Classes : Type 0 where
  pub count : ℕ
  pub takes : ℕ → Bool
  pub same : ℕ → ℕ → Bool

pub record Equivalence {X : Type 0} (same : X → X → Bool) : Type 0 where
  pub reflexive : (x : X) → same x x ≡ true
  pub symmetric : (x y : X) → same x y ≡ true → same y x ≡ true
  pub transitive : (x y z : X) → same x y ≡ true → same y z ≡ true → same x z ≡ true

-- the places below n that take part, in order
abbrev pub places_below : Classes → ℕ → List ℕ
places_below c n = filter c.takes (range_with_len 0 n)

-- the places from i up to n that take part, in order
abbrev pub places_between : Classes → ℕ → ℕ → List ℕ
places_between c i n = filter c.takes (range_with_len i (n - i))

abbrev pub places : Classes → List ℕ
places c = places_below c c.count

-- some place before i that takes part is the same
abbrev pub has_earlier : Classes → ℕ → Bool
has_earlier c i = some (λ j. c.same j i) (places_below c i)

-- place i takes part, and none before it that does is the same
abbrev pub is_first : Classes → ℕ → Bool
is_first c i = c.takes i && not (has_earlier c i)

module _ (c : Classes) (preferred : ℕ → Bool) where
  -- the places that stand, in the order of the first places
  abbrev pub kept : List ℕ
  kept = keep_first c.same preferred (places c)

  -- what a search from place i on finds to stand there
  abbrev pub stand_in_from : ℕ → ℕ
  stand_in_from i = first_or (λ j. c.same i j && preferred j) i (places_between c i c.count)

  -- what is kept at place i: nothing, or the place that stands there
  abbrev pub standing_at : ℕ → Option ℕ
  standing_at i = cond (is_first c i) (Some (stand_in c.same preferred (places c) i)) None

-- there are no more places than slots, and none that 16 bits cannot number
abbrev pub fits : Classes → List ℕ → Bool
fits c slots = nat_le c.count (length slots) && nat_le c.count 65536

module _ (c : Classes) (preferred : ℕ → Bool) (slots : List ℕ) where
  -- how many places are kept, where the slots suffice
  abbrev pub kept_count : Option ℕ
  kept_count = cond (fits c slots) (Some (length (kept c preferred))) None

  -- the slots afterwards: what is kept, and then what stood there
  abbrev pub kept_slots : List ℕ
  kept_slots = cond (fits c slots) (kept c preferred ++ drop (length (kept c preferred)) slots) slots
