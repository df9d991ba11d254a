-- Quoted parts of a text, and what stands outside them. 34 is the quote, 92 the backslash.
use Rattle.std.specs.Prelude.{ℕ, suc, Bool, true, false, cond, not, ◌&&◌, [], ◌∷◌, Option, ◌==◌, nat_eq}
use Rattle.address.specs.Text.{Text, first_place}
use Rattle.address.specs.declared.scanner.Scanner.{Scanner}
use Rattle.address.specs.declared.scanner.Scanner.TheVariants.{Outside, Quoted, Escaped}

-- a quote opens and closes a quoted part; inside one a backslash escapes the next byte
abbrev pub next : Scanner → ℕ → Scanner
next Outside b = cond (b == 34) Quoted Outside
next Quoted b = cond (b == 34) Outside (cond (b == 92) Escaped Quoted)
next Escaped b = Quoted

-- a quoted part that is open ends in the bytes to come
abbrev pub closes : Scanner → Text → Bool
closes Outside t = true
closes Quoted [] = false
closes Escaped [] = false
closes Quoted (b ∷ t) = closes (next Quoted b) t
closes Escaped (b ∷ t) = closes Quoted t

-- the text, read on from a state, with 0 in place of each byte of a quoted part;
-- a quote without an end is an ordinary byte
abbrev pub unquoted_from : Scanner → Text → Text
unquoted_from s [] = []
unquoted_from Outside (b ∷ t) = cond (b == 34 && closes Quoted t) (0 ∷ unquoted_from Quoted t) (b ∷ unquoted_from Outside t)
unquoted_from Quoted (b ∷ t) = 0 ∷ unquoted_from (next Quoted b) t
unquoted_from Escaped (b ∷ t) = 0 ∷ unquoted_from Quoted t

abbrev pub unquoted : Text → Text
unquoted t = unquoted_from Outside t

-- the place of the first c outside the quoted parts
abbrev pub first_outside : ℕ → Text → Option ℕ
first_outside c t = first_place (λ b. nat_eq b c) (unquoted t)

-- how many bytes stand before the quote that never closes; all of them where there is none
abbrev pub before_unclosed : Scanner → Text → ℕ
before_unclosed s [] = 0
before_unclosed Outside (b ∷ t) = cond (b == 34 && not (closes Quoted t)) 0 (suc (before_unclosed (next Outside b) t))
before_unclosed Quoted (b ∷ t) = suc (before_unclosed (next Quoted b) t)
before_unclosed Escaped (b ∷ t) = suc (before_unclosed Quoted t)
