-- One text in another: by its front, and by what stands before it and after it.
use Rattle.std.proofs.Common.{◌≡◌, ◌<◌, true, false, ◌&&◌, eqb, ◌↔◌, [], ◌∷◌, ◌++◌, length, refl, ap, ◌∙◌, ⊎_elim, arith}
use Rattle.std.proofs.lemmas.Bool.{false≢true, and_parts, and_from, or_cases, or_left, or_right, eqb-true, eq-eqb}
use Rattle.address.specs.Text.{Text, begins, holds}

pub begins_front : (u rest : Text) → begins (u ++ rest) u ≡ true
begins_front [] rest = refl
begins_front (c ∷ u) rest = and_from (eqb c c) (begins (u ++ rest) u) (eq-eqb c c refl) (begins_front u rest)

pub front_begins : (t u : Text) → begins t u ≡ true → (rest : Text) × (t ≡ u ++ rest)
front_begins t [] e = (t, refl)
front_begins [] (c ∷ u) e = absurd (false≢true e)
front_begins (b ∷ t) (c ∷ u) e =
    let (h, k) = and_parts (eqb b c) (begins t u) e in
    let (rest, is) = front_begins t u k in
    (rest, λ i. eqb-true b c h i ∷ is i)

pub begins-long : (t u : Text) → length t < length u → begins t u ≡ false
begins-long t [] h = absurd (omega arith)
begins-long [] (c ∷ u) h = refl
begins-long (b ∷ t) (c ∷ u) h = elim (eqb b c) as (λ e. (e && begins t u) ≡ false) [ true ↦ begins-long t u (omega arith) | false ↦ refl ]

pub holds_front : (t u : Text) → begins t u ≡ true → holds t u ≡ true
holds_front [] u e = e
holds_front (b ∷ t) u e = or_left (begins (b ∷ t) u) (holds t u) e

-- ---- to hold a text is to be that text with something before and after

abbrev pub Around : Text → Text → Type 0
Around t u = (before : Text) × (after : Text) × (t ≡ before ++ (u ++ after))

around_holds : (before u after : Text) → holds (before ++ (u ++ after)) u ≡ true
around_holds [] u after = holds_front (u ++ after) u (begins_front u after)
around_holds (b ∷ before) u after = or_right (begins (b ∷ (before ++ (u ++ after))) u) (holds (before ++ (u ++ after)) u) (around_holds before u after)

pub holds_around : (t u : Text) → Around t u → holds t u ≡ true
holds_around t u (before, after, e) = ap (λ s. holds s u) e ∙ around_holds before u after

pub around_held : (t u : Text) → holds t u ≡ true → Around t u
around_held [] u e = let (rest, is) = front_begins [] u e in ([], rest, is)
around_held (b ∷ t) u e =
    ⊎_elim
    (λ h. let (rest, is) = front_begins (b ∷ t) u h in ([], rest, is))
    (λ h. let (before, after, is) = around_held t u h in (b ∷ before, after, ap (λ s. b ∷ s) is))
    (or_cases (begins (b ∷ t) u) (holds t u) e)

pub holding : (t u : Text) → (holds t u ≡ true) ↔ Around t u
holding t u = (around_held t u, holds_around t u)
