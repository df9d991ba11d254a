-- What stands between the angles, read on after the first of them as a text of its own.
use Rattle.std.proofs.Common.{◌≡◌, ℕ, zero, suc, ◌+◌, ◌<◌, true, false, cond, ◌&&◌, eqb, [], ◌∷◌, get_or, take, drop, Some, None, unwrap_or, sym, refl, ap, ◌∙◌, add-one, arith}
use Rattle.std.specs.Option.{option_map}
use Rattle.std.proofs.lemmas.Bool.{eqb-true}
use Rattle.address.specs.declared.scanner.Scanner.{Scanner}
use Rattle.address.specs.declared.scanner.Scanner.TheVariants.{Outside, Quoted, Escaped}
use Rattle.address.specs.Text.{Text, trimmed, first_place}
use Rattle.address.specs.Quoted.{next, closes, unquoted_from, unquoted, first_outside}
use Rattle.address.specs.Address.{angled_from, angled}
use Rattle.address.proofs.Places.{first_place_is}

-- reading begins anew after a byte that is not hidden
anew : (t : Text) (s : Scanner) (i : ℕ) → (get_or (unquoted_from s t) i 0 ≡ 0 → ⊥) → unquoted (drop (suc i) t) ≡ drop (suc i) (unquoted_from s t)
anew [] s i h = refl
anew (b ∷ t) Outside zero h =
    (elim (eqb b 34 && closes Quoted t) as (λ e. (get_or (cond e (0 ∷ unquoted_from Quoted t) (b ∷ unquoted t)) 0 0 ≡ 0 → ⊥) → unquoted t ≡ drop 1 (cond e (0 ∷ unquoted_from Quoted t) (b ∷ unquoted t))) [ true ↦ λ f. absurd (f refl) | false ↦ λ f. refl ]) h
anew (b ∷ t) Outside (suc i) h =
    (elim (eqb b 34 && closes Quoted t) as (λ e. (get_or (cond e (0 ∷ unquoted_from Quoted t) (b ∷ unquoted t)) (suc i) 0 ≡ 0 → ⊥) → unquoted (drop (suc i) t) ≡ drop (suc (suc i)) (cond e (0 ∷ unquoted_from Quoted t) (b ∷ unquoted t))) [ true ↦ λ f. anew t Quoted i f | false ↦ λ f. anew t Outside i f ]) h
anew (b ∷ t) Quoted zero h = absurd (h refl)
anew (b ∷ t) Quoted (suc i) h = anew t (next Quoted b) i h
anew (b ∷ t) Escaped zero h = absurd (h refl)
anew (b ∷ t) Escaped (suc i) h = anew t Quoted i h

-- what follows the first c outside is read as a text of its own
after_first : (c : ℕ) (t : Text) (i : ℕ) → 0 < c → Some i ≡ first_outside c t → unquoted (drop (i + 1) t) ≡ drop (i + 1) (unquoted t)
after_first c t i some e =
    let here = eqb-true _ c (first_place_is (λ b. eqb b c) (unquoted t) 0 i (sym e)).1 in
    rw add-one (anew t Outside i (λ z. omega arith))

-- the address of a trimmed text
abbrev pub part_of : Text → Text
part_of t = unwrap_or (option_map trimmed (angled t)) t

-- i is the place of the first `<`, and rest is what follows
module _ (t rest : Text) (i : ℕ) (at : Some i ≡ first_outside 60 t) (is : rest ≡ drop (i + 1) t) where
  part_by : part_of t ≡ unwrap_or (option_map trimmed (option_map (λ n. take n rest) (first_outside 62 rest))) t
  part_by =
      ap (λ o. unwrap_or (option_map trimmed (angled_from t o)) t) (sym at)
      ∙ ap (λ u. unwrap_or (option_map trimmed (option_map (λ n. take n (drop (i + 1) t)) (first_place (λ b. eqb b 62) u))) t) (sym (after_first 60 t i (omega arith) at))
      ∙ ap (λ r. unwrap_or (option_map trimmed (option_map (λ n. take n r) (first_outside 62 r))) t) (sym is)

  pub part_open : None ≡ first_outside 62 rest → t ≡ part_of t
  part_open e = ap (λ o. unwrap_or (option_map trimmed (option_map (λ n. take n rest) o)) t) e ∙ sym part_by

  pub part_angled : (n : ℕ) → Some n ≡ first_outside 62 rest → trimmed (take n rest) ≡ part_of t
  part_angled n e = ap (λ o. unwrap_or (option_map trimmed (option_map (λ n. take n rest) o)) t) e ∙ sym part_by
