-- The texts that an iterator over a roll has left.
use Rattle.std.specs.Prelude.{List, drop}
use Rattle.address.specs.Text.{Text}
use Rattle.email_policy.specs.Policy.{Policy}
use Rattle.email_policy.specs.Texts.{record_of, texts_of}
use Rattle.email_policy.specs.declared.texts.SourceTexts.{SourceTexts}

abbrev pub texts_left : {S : Type 0} → (S → Policy) → SourceTexts S → List Text
texts_left meaning s = drop s.next (texts_of s.field (record_of (meaning s.source.now) s.whose))
