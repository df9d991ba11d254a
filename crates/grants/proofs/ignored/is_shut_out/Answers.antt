use Rattle.std.proofs.Common.{◌∙◌}
use Rattle.mail.specs.Letters.{letter}
use Rattle.grants.proofs.Addressed.{author_text, author_part, bot_part}
use Rattle.grants.proofs.ShutOut.{shut_by_ignored, open_without_bot, open_without_author, shut_by_bot}
use Rattle.grants.proofs.ignored.is_shut_out.Goals as goal

pub returns-then-is_ignored_author : goal.returns-then-is_ignored_author
returns-then-is_ignored_author g c =
    shut_by_ignored (g.S.PolicySource.meaning c.args.source.now) (letter c.args.mail.now) c.text.result.now (c.text.ensures ∙ author_text c.args.mail.now _)
    c.if-is_ignored_author.ensures

pub returns-then-is_empty : goal.returns-then-is_empty
returns-then-is_empty g c =
    open_without_bot (g.S.PolicySource.meaning c.args.source.now) (letter c.args.mail.now) c.text.result.now (c.text.ensures ∙ author_text c.args.mail.now _)
    c.if-is_ignored_author.ensures c.part-bot.result.now (c.part-bot.ensures ∙ bot_part c.args.mail.now) c.if-is_empty.ensures

pub returns-then-is_empty-2 : goal.returns-then-is_empty-2
returns-then-is_empty-2 g c =
    open_without_author (g.S.PolicySource.meaning c.args.source.now) (letter c.args.mail.now) c.text.result.now (c.text.ensures ∙ author_text c.args.mail.now _)
    c.if-is_ignored_author.ensures c.part-bot.result.now (c.part-bot.ensures ∙ bot_part c.args.mail.now)
    c.part.result.now (c.part.ensures ∙ author_part c.args.mail.now _) c.if-is_empty-2.ensures

pub returns : goal.returns
returns g c =
    shut_by_bot (g.S.PolicySource.meaning c.args.source.now) (letter c.args.mail.now) c.text.result.now (c.text.ensures ∙ author_text c.args.mail.now _)
    c.if-is_ignored_author.ensures c.part-bot.result.now (c.part-bot.ensures ∙ bot_part c.args.mail.now)
    c.part.result.now (c.part.ensures ∙ author_part c.args.mail.now _)
    c.contains_small.result c.text-2.result.now (c.text-2.ensures ∙ author_text c.args.mail.now _) c.if-is_empty.ensures c.if-is_empty-2.ensures c.contains_small.ensures
