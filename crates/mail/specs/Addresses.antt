-- Addresses in texts.
use Rattle.std.specs.Prelude.{Bool}
use Rattle.std.specs.Str.{bytes_eq}
use Rattle.address.specs.Text.{Text, small}

-- two addresses are the same but for small and capital letters; of the parts of two texts, this is `same_bare`
abbrev pub same_part : Text → Text → Bool
same_part u v = bytes_eq (small u) (small v)
