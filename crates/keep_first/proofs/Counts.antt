-- How many are kept: sameness alone decides.
use Rattle.std.proofs.Common.{◌≡◌, ℕ, zero, suc, ◌+◌, Bool, List, [], ◌∷◌, ◌++◌, length, filter, sym, refl, ap, ◌∙◌, add-one, zero-add}
use Rattle.std.specs.List.{range_with_len}
use Rattle.std.proofs.lemmas.List.Elements.{filter-append}
use Rattle.std.proofs.lemmas.List.{length-map}
use Rattle.keep_first.specs.Keep.{firsts, stand_in, keep_first}
use Rattle.keep_first.specs.Model.{Classes, places_below, places, is_first, kept}
use Rattle.keep_first.proofs.Places.{counting_push, firsts_more}

module _ {X : Type 0} (same : X → X → Bool) where
  pub length-keep_first : (preferred : X → Bool) (xs : List X) → length (keep_first same preferred xs) ≡ length (firsts same xs)
  length-keep_first preferred xs = length-map (firsts same xs) (stand_in same preferred xs)

  -- the number does not depend on the preference
  pub length-keep_first_any : (preferred other : X → Bool) (xs : List X) → length (keep_first same preferred xs) ≡ length (keep_first same other xs)
  length-keep_first_any preferred other xs = length-keep_first preferred xs ∙ sym (length-keep_first other xs)

module _ (c : Classes) where
  pub length-kept_any : (preferred other : ℕ → Bool) → length (kept c preferred) ≡ length (kept c other)
  length-kept_any preferred other = length-keep_first_any c.same preferred other (places c)

  -- the firsts of the places below n are the numbers below n that are first
  firsts_below : (n : ℕ) → firsts c.same (places_below c n) ≡ filter (is_first c) (range_with_len 0 n)
  unfolding firsts
  firsts_below zero = refl
  firsts_below (suc n) =
      let push : range_with_len 0 (n + 1) ≡ range_with_len 0 n ++ n ∷ [] = rw zero-add at (counting_push 0 n) in
      let more : firsts c.same (places_below c (n + 1)) ≡ filter (is_first c) (range_with_len 0 (n + 1)) =
      firsts_more c n
      ∙ ap (λ l. l ++ filter (is_first c) (n ∷ [])) (firsts_below n)
      ∙ sym (ap (filter (is_first c)) push ∙ filter-append (is_first c) (range_with_len 0 n) (n ∷ [])) in
      rw add-one at more

  pub length-kept_firsts : (preferred : ℕ → Bool) → length (filter (is_first c) (range_with_len 0 c.count)) ≡ length (kept c preferred)
  length-kept_firsts preferred = sym (length-keep_first c.same preferred (places c) ∙ ap length (firsts_below c.count))
