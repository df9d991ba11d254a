-- Texts, as the bytes that they are: which bytes one may hold, trimming, small letters, one text in another.
use Rattle.std.specs.Prelude.{ℕ, suc, ◌+◌, ◌-◌, Bool, true, false, cond, ◌&&◌, ◌||◌, List, [], ◌∷◌, map, length, take, drop, Some, None, Ok, Err, Option, Result, ◌==◌, nat_le}
use Rattle.std.specs.Option.{option_map}
use Rattle.std.specs.Char.{to_ascii_lowercase}
use Rattle.std.specs.List.{prefix_len, suffix_len}
use Rattle.address.specs.declared.text.TextFault.{TextFault}

abbrev pub Text : Type 0
Text = List ℕ

-- tab, or a byte from space to tilde
abbrev pub text_byte : ℕ → Bool
text_byte b = b == 9 || (nat_le 32 b && nat_le b 126)

-- tab or space
abbrev pub blank : ℕ → Bool
blank b = b == 9 || b == 32

abbrev pub empty : Text → Bool
empty [] = true
empty (b ∷ t) = false

-- the text without the blanks at its front
abbrev pub unindented : Text → Text
unindented t = drop (prefix_len blank t) t

-- the text without the blanks at its end
abbrev pub unpadded : Text → Text
unpadded t = take (length t - suffix_len blank t) t

abbrev pub trimmed : Text → Text
trimmed t = unpadded (unindented t)

-- A to Z become a to z
abbrev pub small : Text → Text
small t = map to_ascii_lowercase t

-- the place of the first element that passes, if one does
abbrev pub first_place : {X : Type 0} → (X → Bool) → List X → Option ℕ
first_place p [] = None
first_place p (x ∷ xs) = cond (p x) (Some 0) (option_map suc (first_place p xs))

-- t begins with u
abbrev pub begins : Text → Text → Bool
begins t [] = true
begins [] (c ∷ u) = false
begins (b ∷ t) (c ∷ u) = b == c && begins t u

-- u stands somewhere in t
abbrev pub holds : Text → Text → Bool
holds [] u = begins [] u
holds (b ∷ t) u = begins (b ∷ t) u || holds t u

-- the fault of bytes that stand in a slice from a place on: where the first byte stands that no text may hold
abbrev pub text_fault : ℕ → Text → Result (Unit {0}) TextFault
text_fault at [] = Ok tt
text_fault at (b ∷ t) = cond (text_byte b) (text_fault (at + 1) t) (Err (record { place = at }))
