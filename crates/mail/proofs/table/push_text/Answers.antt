use Rattle.std.proofs.Common.{[], ◌∷◌, map, sym, ap, ◌∙◌}
use Rattle.std.proofs.lemmas.Bool.{eqb-true}
use Rattle.std.proofs.lemmas.List.{length-map}
use Rattle.mail.specs.Parts.{text_in}
use Rattle.mail.specs.Tables.{filled}
use Rattle.mail.proofs.Held.{filled_full, map-filled}
use Rattle.mail.proofs.table.push_text.Goals as goal

pub returns-then-is_full : goal.returns-then-is_full
returns-then-is_full g c =
    filled_full g.row.N (map text_in c.args.table.now.items) (c.args.text.now ∷ [])
    (length-map c.args.table.now.items text_in ∙ eqb-true _ g.row.N (sym c.if-is_full.ensures.value))

pub returns : goal.returns
returns g c =
    ap (map text_in) c.push_within.ensures
    ∙ map-filled text_in g.row.N c.args.table.now.items (c.new.result ∷ [])
    ∙ ap (λ t. filled g.row.N (map text_in c.args.table.now.items) (t ∷ [])) c.new.ensures
