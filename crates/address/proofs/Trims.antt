-- Trimming takes the blanks at both ends and nothing else.
use Rattle.std.proofs.Common.{◌≡◌, ℕ, ◌+◌, ◌-◌, true, false, cond, [], ◌∷◌, ◌++◌, reverse, length, take, drop, sym, refl, ap, ◌∙◌, subst, one-add, arith, length-append, length-take}
use mathlib.Core.List.{reverse-append, reverse-reverse}
use Rattle.std.specs.List.{prefix_len, AllByRecursion}
use Rattle.std.proofs.ByRecursion.{All-append}
use Rattle.std.proofs.lemmas.List.{take-append-drop, take-append-le, take_all, length-reverse}
use Rattle.std.proofs.lemmas.List.Sums.{prefix_len-le-length}
use Rattle.std.proofs.lemmas.Bool.{cond_both, cond-false}
use Rattle.address.specs.Text.{Text, blank, unindented, unpadded, trimmed}
use Rattle.address.specs.Laws.{Firm, Trimming}

abbrev Blanks : Text → Type 0
Blanks t = AllByRecursion (λ b. blank b ≡ true) t

-- empty, or with no blank in front
abbrev FirmFront : Text → Type 0
FirmFront [] = Unit {0}
FirmFront (b ∷ t) = blank b ≡ false

-- ---- the front

unindented_cons : (b : ℕ) (t : Text) → unindented (b ∷ t) ≡ cond (blank b) (unindented t) (b ∷ t)
unindented_cons b t =
    elim (blank b) as (λ e. drop (cond e (1 + prefix_len blank t) 0) (b ∷ t) ≡ cond e (unindented t) (b ∷ t)) [ true ↦ rw one-add | false ↦ refl ]

unindented_firm : (t : Text) → FirmFront (unindented t)
unindented_firm [] = tt
unindented_firm (b ∷ t) = rw (unindented_cons b t) (cond_both (blank b) (unindented t) (b ∷ t) FirmFront (λ _. unindented_firm t) (λ f. f))

unindented_stays : (t : Text) → FirmFront t → unindented t ≡ t
unindented_stays [] f = refl
unindented_stays (b ∷ t) f = unindented_cons b t ∙ cond-false (blank b) (unindented t) (b ∷ t) f

-- what is taken off is blank
abbrev Indented : Text → Text → Type 0
Indented t r = (u : Text) × Blanks u × (t ≡ u ++ r)

indented : (t : Text) → Indented t (unindented t)
indented [] = ([], tt, refl)
indented (b ∷ t) =
    rw (unindented_cons b t) (cond_both (blank b) (unindented t) (b ∷ t) (Indented (b ∷ t))
    (λ e. let (u, all, is) = indented t in (b ∷ u, (e, all), ap (λ s. b ∷ s) is))
    (λ _. ([], tt, refl)))

-- ---- the end is the front of the text turned round

-- what is left of a text turned round, turned round again
front_turned : (t u r : Text) (n : ℕ) → reverse t ≡ u ++ r → length u ≡ n → take (length t - n) t ≡ reverse r
front_turned t u r n e l =
    let back : t ≡ reverse r ++ reverse u = sym (reverse-reverse t) ∙ ap reverse e ∙ reverse-append u r in
    let upto : length t - n ≡ length (reverse r) = omega (arith, simp length-append at (ap length back), length-reverse u) in
    ap (λ k. take k t) upto
    ∙ ap (take (length (reverse r))) back
    ∙ take-append-le (length (reverse r)) (reverse r) (reverse u) (omega arith)
    ∙ take_all (length (reverse r)) (reverse r) (omega arith)

unpadded_turned : (t : Text) → unpadded t ≡ reverse (unindented (reverse t))
unpadded_turned t =
    let n = prefix_len blank (reverse t) in
    front_turned t (take n (reverse t)) (drop n (reverse t)) n (sym (take-append-drop n (reverse t))) (omega (arith, length-take n (reverse t), prefix_len-le-length blank (reverse t)))

-- the trimmed text, turned round
turned : Text → Text
turned t = unindented (reverse (unindented t))

trimmed_turned : (t : Text) → trimmed t ≡ reverse (turned t)
unfolding turned
trimmed_turned t = unpadded_turned (unindented t)

turned_firm : (t : Text) → FirmFront (turned t)
unfolding turned
turned_firm t = unindented_firm (reverse (unindented t))

-- ---- the laws

blanks_turned : (t : Text) → Blanks t → Blanks (reverse t)
blanks_turned [] a = tt
blanks_turned (x ∷ t) a = rw (reverse-append (x ∷ []) t) (All-append (λ b. blank b ≡ true) (reverse t) (x ∷ []) (blanks_turned t a.1) (a.0, tt))

-- the unindented text is the trimmed one and blanks
padded : (t : Text) → (v : Text) × Blanks v × (unindented t ≡ trimmed t ++ v)
unfolding turned
padded t =
    let (v, all, is) = indented (reverse (unindented t)) in
    (reverse v, blanks_turned v all, sym (reverse-reverse (unindented t)) ∙ ap reverse is ∙ reverse-append v (turned t) ∙ ap (λ s. s ++ reverse v) (sym (trimmed_turned t)))

parts : (t : Text) → (before : Text) × (after : Text) × Blanks before × Blanks after × (t ≡ before ++ (trimmed t ++ after))
parts t =
    let (u, all_u, is_u) = indented t in
    let (v, all_v, is_v) = padded t in
    (u, v, all_u, all_v, is_u ∙ ap (λ s. u ++ s) is_v)

firm_part : (t u : Text) → FirmFront (t ++ u) → FirmFront t
firm_part [] u f = tt
firm_part (b ∷ t) u f = f

trimmed_firm : (t : Text) → FirmFront (trimmed t)
trimmed_firm t = let (v, all, is) = padded t in firm_part (trimmed t) v (subst FirmFront is (unindented_firm t))

firm : (t : Text) → Firm (trimmed t)
firm t = record {
  front = λ b rest e. subst FirmFront e (trimmed_firm t);
  back = λ b rest e.
      let round : turned t ≡ b ∷ reverse rest = sym (reverse-reverse (turned t)) ∙ ap reverse (sym (trimmed_turned t) ∙ e) ∙ reverse-append rest (b ∷ []) in
      subst FirmFront round (turned_firm t);
}

pub trimmed_twice : (t : Text) → trimmed (trimmed t) ≡ trimmed t
trimmed_twice t =
    ap unpadded (unindented_stays (trimmed t) (trimmed_firm t))
    ∙ unpadded_turned (trimmed t)
    ∙ ap (λ s. reverse (unindented s)) (ap reverse (trimmed_turned t) ∙ reverse-reverse (turned t))
    ∙ ap reverse (unindented_stays (turned t) (turned_firm t))
    ∙ sym (trimmed_turned t)

pub trimming : Trimming
trimming = record { parts = parts; firm = firm; idempotent = trimmed_twice }
