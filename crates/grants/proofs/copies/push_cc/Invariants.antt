use Rattle.std.proofs.Common.{◌≡◌, map}
use Rattle.email_policy.specs.TextsLeft.{texts_left}
use Rattle.mail.specs.Parts.{text_in}
use Rattle.mail.specs.Tables.{filled}
use Rattle.grants.proofs.copies.push_cc.Given as goal

-- what is left to write
abbrev pub invariant-loop-text : goal.invariant-loop-text
invariant-loop-text g l =
    filled g.row.N (map text_in l.table.items) (texts_left g.S.PolicySource.meaning l.text-iterator)
    ≡ filled g.row.N (map text_in l.initial.table.items) (texts_left g.S.PolicySource.meaning l.initial.text-iterator)
