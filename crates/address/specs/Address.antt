-- What a mail address is: RFC 5322, 3.4, with comments as ordinary text. 60 is `<`, 62 is `>`, 64 is `@`.
use Rattle.std.specs.Prelude.{ℕ, ◌+◌, Bool, take, drop, Some, None, Option, nat_eq}
use Rattle.std.specs.Option.{option_map, unwrap_or}
use Rattle.std.specs.Str.{bytes_eq}
use Rattle.address.specs.Text.{Text, trimmed, small, first_place}
use Rattle.address.specs.Quoted.{unquoted, first_outside}

-- what follows place i, up to the first `>` outside the quoted parts
abbrev pub angled_from : Text → Option ℕ → Option Text
angled_from t None = None
angled_from t (Some i) = option_map (λ n. take n (drop (i + 1) t)) (first_place (λ b. nat_eq b 62) (drop (i + 1) (unquoted t)))

-- what stands between the first `<` outside the quoted parts and the first later `>` outside them
abbrev pub angled : Text → Option Text
angled t = angled_from t (first_outside 60 t)

-- the part of a text that is the address: what stands between the angles, or all of it, trimmed
abbrev pub address_part : Text → Text
address_part t = unwrap_or (option_map trimmed (angled (trimmed t))) (trimmed t)

abbrev pub bare : Text → Text
bare t = small (address_part t)

abbrev pub same_bare : Text → Text → Bool
same_bare t u = bytes_eq (bare t) (bare u)

-- what stands before a place, and what follows it
abbrev pub sides_at : Text → ℕ → Text × Text
sides_at t i = (take i t, drop (i + 1) t)

-- the sides of the first `@` outside the quoted parts
abbrev pub sides : Text → Option (Text × Text)
sides t = option_map (sides_at t) (first_outside 64 t)

abbrev pub domain : Text → Option Text
domain t = option_map (λ s. s.1) (sides t)
