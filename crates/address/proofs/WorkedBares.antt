-- The worked examples of bares, by computation.
use Rattle.std.proofs.Common.{refl}
use Rattle.address.specs.Examples.{Bares}

pub worked_bares : Bares
worked_bares = record {
  display_name = refl;
  blanks_at_the_ends = refl;
  no_closing_angle = refl;
  quoted_name_with_an_address = refl;
  empty_angles = refl;
  quote_never_closed = refl;
}
