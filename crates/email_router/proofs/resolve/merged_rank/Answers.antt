use Rattle.std.proofs.Common.{sym, ◌∙◌}
use Rattle.mail.specs.Letters.{letter}
use Rattle.email_router.proofs.Ranks.{rank_muted, rank_sent}
use Rattle.email_router.proofs.resolve.merged_rank.Goals as goal

pub returns-then-terms : goal.returns-then-terms
returns-then-terms g c =
    let p = g.S.PolicySource.meaning c.args.source.now in
    rank_muted p (letter c.args.mail.now) c.args.named.now c.requires (sym c.is_shut_out.ensures ∙ c.if-is_shut_out.false) c.find_terms-terms.result c.find_terms-terms.ensures c.if-terms.true

pub returns : goal.returns
returns g c =
    let p = g.S.PolicySource.meaning c.args.source.now in
    rank_sent p (letter c.args.mail.now) c.args.named.now c.requires (sym c.is_shut_out.ensures ∙ c.if-is_shut_out.false) c.find_terms-terms.result c.find_terms-terms.ensures c.if-terms.false
