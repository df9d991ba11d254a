use Rattle.std.proofs.Common.{ℕ, List, map, length, sym, ap, ◌∙◌, arith, Bor}
use Rattle.std.proofs.lemmas.List.{length-map, take_all}
use Rattle.std.proofs.Math.ListN.{get_or-map}
use Rattle.address.specs.Text.{Text}
use Rattle.roll.specs.Packing.{word, pack_texts}
use Rattle.roll.specs.Written.{written}
use Rattle.roll.proofs.Writes.{length-written, wrote_none}
use Rattle.roll.proofs.Sized.{pack_texts_none, measured, text_short, text_room, wrote_text, roll_is, size_fits}
use Rattle.roll.proofs.write.write_roll.Goals as goal

pub put_word-requires : goal.put_word-requires
put_word-requires c =
    let m = measured (map (λ x. x.now) c.args.texts.now) c.in_ok-len.len c.in_ok-len.ensures in
    let l = length-map c.args.texts.now (λ (x : Bor Text). x.now) in
    record { room = omega arith; small = omega arith }

pub loop-text-init : goal.loop-text-init
loop-text-init c = wrote_none _ _ _ pack_texts_none

pub put_text-end-requires : goal.put_text-end-requires
put_text-end-requires c =
    let m = measured (map (λ x. x.now) c.args.texts.now) c.in_ok-len.len c.in_ok-len.ensures in
    let l = length-map c.args.texts.now (λ (x : Bor Text). x.now) in
    let k = ap length c.put_word.ensures ∙ length-written (word (length c.args.texts.now)) c.args.tray.now 0 in
    let w = m.long in
    record {
      room = text_room (map (λ x. x.now) c.args.texts.now) c.loop-text.text-index c.loop-text.end _ _ (omega arith) (sym (get_or-map (λ x. x.now) c.args.texts.now c.loop-text.text-index _)) c.loop-text.invariant.ends (omega arith);
      small = text_short m c.loop-text.text-index (omega arith) (sym (get_or-map (λ x. x.now) c.args.texts.now c.loop-text.text-index _));
    }

pub loop-text-preserved : goal.loop-text-preserved
loop-text-preserved c =
    let l = length-map c.args.texts.now (λ (x : Bor Text). x.now) in
    wrote_text (map (λ x. x.now) c.args.texts.now) c.loop-text.text-index c.loop-text.invariant _ c.put_text-end.ensures.end c.put_text-end.ensures.tray (sym (get_or-map (λ x. x.now) c.args.texts.now c.loop-text.text-index _)) (omega arith)

pub returns : goal.returns
returns c =
    let ts : List Text = map (λ x. x.now) c.args.texts.now in
    let l = length-map c.args.texts.now (λ (x : Bor Text). x.now) in
    record {
      end = size_fits ts c.args.tray.now c.in_ok-len.len c.in_ok-len.ensures (omega arith);
      tray =
          roll_is ts c.args.tray.now c.put_word.new.tray c.loop-text.tray _
          (c.put_word.ensures ∙ ap (λ (n : ℕ). written c.args.tray.now 0 (word n)) (sym l))
          c.loop-text.invariant.holds
          (ap pack_texts (take_all c.loop-text.text-index ts (omega arith)));
    }
