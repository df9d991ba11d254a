use Rattle.std.proofs.Common.{◌≡◌, ℕ, List, [], ◌++◌, sym, ap, ◌∙◌, arith, rules, append_assoc, append-nil}
use Rattle.std.proofs.Output.{has_written_append, has_written_of_eq}
use Rattle.std.proofs.lemmas.List.{nil_from_length}
use Rattle.std.proofs.lemmas.List.Concat.{flat_map-append}
use Rattle.std.proofs.lemmas.Str.{IsUtf8-from_ascii}
use Rattle.std.specs.List.{flat_map}
use Rattle.std.specs.Slice.Iter.{chunks_rest}
use Rattle.replay.specs.Hex.{digits}
use Rattle.replay.proofs.HexDigits.{hex_some}
use Rattle.replay.proofs.hex.HexDisplay.fmt.Goals as goal

pub digits_of-digits-requires : goal.digits_of-digits-requires
digits_of-digits-requires g c =
    let size = c.loop-bytes.invariant.2 in
    let short = c.in-Some.ensures.steps.1.1 in
    omega (arith, size, short)

pub unreachable-requires : goal.unreachable-requires
unreachable-requires g c = c.in_default.ensures.cases.0 (rw c.as_slice.ensures.value (IsUtf8-from_ascii _ c.digits_of-digits.ensures.ascii))

pub loop-bytes-init : goal.loop-bytes-init
loop-bytes-init g c = (search rules, tt, search rules, λ plain. ([], search rules, search rules))

pub loop-bytes-preserved : goal.loop-bytes-preserved
loop-bytes-preserved g c =
    let bytes = c.in-Some.bytes.now in
    let rest = chunks_rest c.next.new.self in
    let steps = c.in-Some.ensures.steps in
    let shown : c.in-Ok.text.now ≡ flat_map digits bytes = c.in-Ok.ensures.cases.0 ∙ c.as_slice.ensures.value ∙ c.digits_of-digits.ensures.value in (
      search rules,
      tt,
      steps.0 ∙ c.loop-bytes.invariant.2,
      λ plain.
          let so_far = c.loop-bytes.invariant.3 plain in (
            so_far.0 ++ c.in-Ok.text.now,
            has_written_append _ _ _ _ _ _ so_far.1 (search rules),
            append_assoc so_far.0 _ _
                ∙ ap (λ (t : List ℕ). so_far.0 ++ t) (rw shown (sym (flat_map-append digits bytes rest) ∙ ap (flat_map digits) (sym steps.1.0)))
                ∙ so_far.2,
          ),
    )

pub returns-clause-writes : goal.returns-clause-writes
returns-clause-writes g c = λ plain _.
    let so_far = c.loop-bytes.invariant.3 plain in
    let none = nil_from_length _ c.in-None.ensures.steps.1.0 in
    has_written_of_eq _ _ _ _ _ (rw (none, append-nil) at so_far.2 ∙ sym (hex_some c.args.self.now.0.now (sym c.is_empty.ensures ∙ c.if-is_empty.false))) so_far.1
