use Rattle.std.proofs.Common.{false, ◌∙◌}
use Rattle.grants.proofs.Summed.{terms_named, terms_default}
use Rattle.grants.proofs.terms.find_terms.Goals as goal

pub returns-then-terms : goal.returns-then-terms
returns-then-terms g c = terms_named _ _ _ _ c.sum_up-terms.ensures c.if-terms.true

pub returns : goal.returns
returns g c =
    (λ i. record {
      named = false;
      author = (c.default_reply_to-reply_to.ensures i).author;
      recipients = (c.default_reply_to-reply_to.ensures i).recipients;
      every_list = (c.default_reply_to-reply_to.ensures i).list;
      mute_all = c.default_mute_all.ensures i;
      positive_review = c.default_positive_review.ensures i;
    })
    ∙ terms_default _ _ _ _ c.sum_up-terms.ensures c.if-terms.false
