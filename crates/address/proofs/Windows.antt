-- The windows of a text, and which of them are a given part in small letters.
use Rattle.std.proofs.Common.{◌≡◌, ℕ, suc, ◌<◌, ◌≤◌, true, cond, nat_le, ◌||◌, List, [], ◌∷◌, length, take, drop, sym, refl, ap, ◌∙◌, ⊎_elim, arith}
use Rattle.std.specs.List.{list_any}
use Rattle.std.specs.Str.{bytes_eq}
use Rattle.std.specs.Char.{to_ascii_lowercase}
use Rattle.std.specs.declared.slice.Windows.{Windows}
use Rattle.std.specs.Slice.Iter.{windows_rest, windows_size, windows_steps}
use Rattle.std.proofs.lemmas.List.{length-map, take-map}
use Rattle.std.proofs.lemmas.Bool.{cases_lt}
use Rattle.std.proofs.lemmas.Bool.Decides.{nat_tests}
use Rattle.std.proofs.lemmas.Iterator.{YieldsList}
use Rattle.std.proofs.lemmas.Iterator.Splits.{YieldsList-from_shown_while}
use Rattle.address.specs.Text.{Text, small, begins, holds}
use Rattle.address.proofs.Holding.{begins-long, holds_front}

-- the parts of n elements, from the first on
abbrev pub windows : ℕ → Text → List Text
windows n [] = []
windows n (b ∷ t) = cond (nat_le n (suc (length t))) (take n (b ∷ t) ∷ windows n t) []

windows_short : (n : ℕ) (t : Text) → length t < n → windows n t ≡ []
windows_short n [] h = refl
windows_short n (b ∷ t) h = grind (arith, nat_tests)

windows_more : (n : ℕ) (t : Text) → 0 < n → n ≤ length t → windows n t ≡ take n t ∷ windows n (drop 1 t)
windows_more n [] some h = absurd (omega arith)
windows_more n (b ∷ t) some h = grind (arith, nat_tests)

pub YieldsList-from_windows : (s : Windows ℕ) (n : ℕ) (t : Text) → 0 < n → windows_size s ≡ n → windows_rest s ≡ t → YieldsList windows_steps (λ w. w.now) s (windows n t)
YieldsList-from_windows s n t some e f =
    simp (← e, ← f) (YieldsList-from_shown_while windows_steps (λ w. w.now) (λ s. windows (windows_size s) (windows_rest s)) (λ s. 0 < windows_size s)
    (λ s u p w. ap length (windows_short _ _ w.1.0))
    (λ s x u p w. (omega (arith, w.0), windows_more _ _ p w.1.0 ∙ cc (w.0, w.1.1, w.1.2)))
    s (rw e some))

begins_part : (t u : Text) → begins t u ≡ bytes_eq (take (length u) t) u
begins_part t [] = refl
begins_part [] (c ∷ u) = refl
begins_part (b ∷ t) (c ∷ u) = grind (arith, begins_part t u)

-- some window is the part
pub window_held : (t u : Text) → 0 < length u → list_any (λ w. bytes_eq (small w) (small u)) (windows (length u) t) ≡ holds (small t) (small u)
window_held [] [] some = absurd (omega arith)
window_held [] (c ∷ u) some = refl
window_held (b ∷ t) u some =
    let whole = b ∷ t in
    let n = length u in
    let later = window_held t u some in
    let same : length (small u) ≡ n = length-map u to_ascii_lowercase in
    let first : begins (small whole) (small u) ≡ bytes_eq (small (take n whole)) (small u) =
    begins_part (small whole) (small u) ∙ ap (λ k. bytes_eq (take k (small whole)) (small u)) same ∙ ap (λ w. bytes_eq w (small u)) (take-map to_ascii_lowercase n whole) in
    ⊎_elim
    (λ (h : length whole < n).
    let none = windows_short n whole h in
    let rest = windows_short n t (omega arith) in
    let long = begins-long (small whole) (small u) (omega (arith, same, length-map whole to_ascii_lowercase)) in
    simp (none, long) (simp rest at later))
    (λ (h : n ≤ length whole). simp (windows_more n whole some h, later) (ap (λ e. e || holds (small t) (small u)) (sym first)))
    (cases_lt (length whole) n)

pub nothing_held : (t u : Text) → length u ≡ 0 → holds (small t) (small u) ≡ true
nothing_held t [] e = holds_front (small t) [] refl
nothing_held t (c ∷ u) e = absurd (omega arith)
