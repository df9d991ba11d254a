use Rattle.std.proofs.Common.{◌≡◌, ◌*◌, take}
use Rattle.std.specs.List.{flat_map}
use Rattle.std.specs.Str.{IsAscii}
use Rattle.arrayvec.specs.ArrayVec.{array_vec_len}
use Rattle.replay.specs.Hex.{digits}
use Rattle.replay.proofs.hex.digits_of.Given as goal

abbrev pub invariant-loop-b : goal.invariant-loop-b
invariant-loop-b l = record {
  items : l.digits.items ≡ flat_map digits (take l.b-index l.bytes);
  len : array_vec_len l.digits ≡ 2 * l.b-index;
  ascii : IsAscii l.digits.items;
}
