-- The address of a text is a part of it, so a bare stands inside its own text in small letters.
use Rattle.std.proofs.Common.{◌≡◌, ℕ, ◌+◌, true, eqb, [], ◌++◌, take, drop, Some, None, Option, unwrap_or, sym, ap, ◌∙◌}
use Rattle.std.specs.Option.{option_map}
use Rattle.std.specs.Char.{to_ascii_lowercase}
use Rattle.std.proofs.lemmas.List.{append_assoc, append-nil, map-append, take-append-drop}
use Rattle.address.specs.Text.{Text, trimmed, small, holds, first_place}
use Rattle.address.specs.Quoted.{unquoted, first_outside}
use Rattle.address.specs.Address.{angled_from, angled, address_part, bare}
use Rattle.address.specs.Laws.{Addresses}
use Rattle.address.proofs.Angles.{part_of}
use Rattle.address.proofs.Holding.{Around, holds_around, holding}
use Rattle.address.proofs.Letters.{domain_small}
use Rattle.address.proofs.Trims.{trimming, trimmed_twice}

around_itself : (t : Text) → Around t t
around_itself t = ([], [], sym (append-nil t))

-- a part of a part is a part
around_part : (t u v : Text) → Around t u → Around u v → Around t v
around_part t u v (b, a, e) (c, d, f) =
    (b ++ c, d ++ a, e ∙ ap (λ s. b ++ (s ++ a)) f ∙ simp append_assoc)

around_trimmed : (t : Text) → Around t (trimmed t)
around_trimmed t = let w = trimming.parts t in (w.0, w.1, w.4)

around_taken : (t : Text) (i n : ℕ) → Around t (take n (drop i t))
around_taken t i n = (take i t, drop n (drop i t), sym (ap (λ s. take i t ++ s) (take-append-drop n (drop i t)) ∙ take-append-drop i t))

-- where something stands between the angles, it is a part
abbrev Part : Text → Option Text → Type 0
Part t None = Unit {0}
Part t (Some u) = Around t u

part_taken : (t : Text) (i : ℕ) (o : Option ℕ) → Part t (option_map (λ n. take n (drop i t)) o)
part_taken t i None = tt
part_taken t i (Some n) = around_taken t i n

part_angled : (t : Text) (o : Option ℕ) → Part t (angled_from t o)
part_angled t None = tt
part_angled t (Some i) = part_taken t (i + 1) (first_place (λ b. eqb b 62) (drop (i + 1) (unquoted t)))

around_part_of : (t : Text) (o : Option Text) → Part t o → Around t (unwrap_or (option_map trimmed o) t)
around_part_of t None h = around_itself t
around_part_of t (Some u) h = around_part t u (trimmed u) h (around_trimmed u)

pub around_address : (t : Text) → Around t (address_part t)
around_address t = around_part t (trimmed t) (address_part t) (around_trimmed t) (around_part_of (trimmed t) (angled (trimmed t)) (part_angled (trimmed t) (first_outside 60 (trimmed t))))

around_small : (t u : Text) → Around t u → Around (small t) (small u)
around_small t u (b, a, e) = (small b, small a, ap small e ∙ map-append to_ascii_lowercase b (u ++ a) ∙ ap (λ s. small b ++ s) (map-append to_ascii_lowercase u a))

pub bare_inside : (t : Text) → holds (small t) (bare t) ≡ true
bare_inside t = holds_around (small t) (bare t) (around_small t (address_part t) (around_address t))

pub bare-trimmed : (t : Text) → bare (trimmed t) ≡ bare t
bare-trimmed t = ap (λ s. small (part_of s)) (trimmed_twice t)

pub addresses : Addresses
addresses = record { holding = holding; of_trimmed = bare-trimmed; domain_small = domain_small; inside = bare_inside }
