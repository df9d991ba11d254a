use Rattle.roll.specs.Packing.{pack_text}
use Rattle.email_policy.specs.Texts.{record_of, texts_of}
use Rattle.email_policy.specs.TextsLeft.{texts_left}
use Rattle.packed_book.proofs.Puts.{Left}
use Rattle.packed_book.proofs.write.put_texts.Given as goal

abbrev pub invariant-loop-text : goal.invariant-loop-text
invariant-loop-text g l =
    Left pack_text (texts_of l.fn.field (record_of (g.S.PolicySource.meaning l.source) l.fn.whose)) (texts_left g.S.PolicySource.meaning l.text-iterator) l.initial.tray l.tray l.at l.end
