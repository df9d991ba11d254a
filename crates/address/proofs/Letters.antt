-- The change of letters moves neither quotes nor `@`, so the domain can be taken before it or after.
use Rattle.std.proofs.Common.{◌≡◌, ℕ, suc, ◌+◌, true, false, cond, ◌&&◌, eqb, [], ◌∷◌, Some, None, Option, refl, ap, ◌∙◌, arith}
use Rattle.std.specs.Option.{option_map}
use Rattle.std.specs.Char.{to_ascii_lowercase}
use Rattle.std.proofs.lemmas.List.{drop-map}
use Rattle.std.proofs.lemmas.Bool.Decides.{nat_tests}
use Rattle.address.specs.declared.scanner.Scanner.{Scanner}
use Rattle.address.specs.declared.scanner.Scanner.TheVariants.{Outside, Quoted, Escaped}
use Rattle.address.specs.Text.{Text, small, first_place}
use Rattle.address.specs.Quoted.{next, closes, unquoted_from, unquoted, first_outside}
use Rattle.address.specs.Address.{sides_at, domain}

quote_small : (b : ℕ) → eqb (to_ascii_lowercase b) 34 ≡ eqb b 34
quote_small b = grind (arith, nat_tests)

backslash_small : (b : ℕ) → eqb (to_ascii_lowercase b) 92 ≡ eqb b 92
backslash_small b = grind (arith, nat_tests)

at_sign_small : (b : ℕ) → eqb (to_ascii_lowercase b) 64 ≡ eqb b 64
at_sign_small b = grind (arith, nat_tests)

next_small : (b : ℕ) → next Quoted (to_ascii_lowercase b) ≡ next Quoted b
next_small b = simp (quote_small b, backslash_small b)

closes-small : (s : Scanner) (t : Text) → closes s (small t) ≡ closes s t
closes-small Outside t = refl
closes-small Quoted [] = refl
closes-small Escaped [] = refl
closes-small Quoted (b ∷ t) = ap (λ s. closes s (small t)) (next_small b) ∙ closes-small (next Quoted b) t
closes-small Escaped (b ∷ t) = closes-small Quoted t

unquoted-small : (s : Scanner) (t : Text) → unquoted_from s (small t) ≡ small (unquoted_from s t)
unquoted-small s [] = refl
unquoted-small Outside (b ∷ t) =
    let q = unquoted-small Quoted t in
    let o = unquoted-small Outside t in
    let e : (eqb (to_ascii_lowercase b) 34 && closes Quoted (small t)) ≡ (eqb b 34 && closes Quoted t) = (λ i. quote_small b i && closes-small Quoted t i) in
    ap (λ v. cond v (0 ∷ unquoted_from Quoted (small t)) (to_ascii_lowercase b ∷ unquoted (small t))) e
    ∙ elim (eqb b 34 && closes Quoted t) as (λ v. cond v (0 ∷ unquoted_from Quoted (small t)) (to_ascii_lowercase b ∷ unquoted (small t)) ≡ small (cond v (0 ∷ unquoted_from Quoted t) (b ∷ unquoted t))) [ true ↦ ap (λ l. 0 ∷ l) q | false ↦ ap (λ l. to_ascii_lowercase b ∷ l) o ]
unquoted-small Quoted (b ∷ t) = ap (λ s. 0 ∷ unquoted_from s (small t)) (next_small b) ∙ ap (λ l. 0 ∷ l) (unquoted-small (next Quoted b) t)
unquoted-small Escaped (b ∷ t) = ap (λ l. 0 ∷ l) (unquoted-small Quoted t)

at_place_small : (t : Text) → first_place (λ b. eqb b 64) (small t) ≡ first_place (λ b. eqb b 64) t
at_place_small [] = refl
at_place_small (b ∷ t) = (λ i. cond (at_sign_small b i) (Some 0) (option_map suc (at_place_small t i)))

domain_at : (t : Text) (o : Option ℕ) → option_map (λ s. s.1) (option_map (sides_at (small t)) o) ≡ option_map small (option_map (λ s. s.1) (option_map (sides_at t) o))
domain_at t None = refl
domain_at t (Some i) = ap Some (drop-map to_ascii_lowercase (i + 1) t)

pub domain_small : (t : Text) → domain (small t) ≡ option_map small (domain t)
domain_small t =
    ap (λ o. option_map (λ s. s.1) (option_map (sides_at (small t)) o)) (ap (first_place (λ b. eqb b 64)) (unquoted-small Outside t) ∙ at_place_small (unquoted t))
    ∙ domain_at t (first_outside 64 t)
