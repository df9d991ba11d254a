-- Whether some element of several lists passes.
use Rattle.std.proofs.Common.{◌≡◌, Bool, true, false, ◌||◌, List, [], ◌∷◌, ◌++◌, sym, refl, ap, ◌∙◌}
use Rattle.std.specs.List.{flat_map}
use Rattle.std.proofs.lemmas.Bool.{or_left}
use Rattle.keep_first.specs.Keep.{some}

module _ {X : Type 0} (p : X → Bool) where
  pub some-append : (xs ys : List X) → some p (xs ++ ys) ≡ (some p xs || some p ys)
  unfolding some
  some-append [] ys = refl
  some-append (x ∷ xs) ys = ap (λ b. p x || b) (some-append xs ys) ∙ elim (p x) as (λ b. (b || (some p xs || some p ys)) ≡ ((b || some p xs) || some p ys)) [ true ↦ refl | false ↦ refl ]

module _ {X Y : Type 0} (p : Y → Bool) (F : X → List Y) where
  some_joined : (xs : List X) → some p (flat_map F xs) ≡ some (λ x. some p (F x)) xs
  unfolding some
  some_joined [] = refl
  some_joined (x ∷ xs) = some-append p (F x) (flat_map F xs) ∙ ap (λ b. some p (F x) || b) (some_joined xs)

  -- first some texts are asked, and then those of a list
  pub joined_first : (ys : List Y) (xs : List X) → true ≡ some p ys → true ≡ some p (ys ++ flat_map F xs)
  joined_first ys xs e = sym (some-append p ys (flat_map F xs) ∙ or_left (some p ys) (some p (flat_map F xs)) (sym e))

  pub joined_second : (ys : List Y) (xs : List X) (b : Bool) → false ≡ some p ys → b ≡ some (λ x. some p (F x)) xs → b ≡ some p (ys ++ flat_map F xs)
  joined_second ys xs b f e = e ∙ sym (some-append p ys (flat_map F xs) ∙ ap (λ v. v || some p (flat_map F xs)) (sym f) ∙ some_joined xs)
