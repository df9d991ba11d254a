use Rattle.std.proofs.Common.{arith}
use Rattle.email_router.proofs.Sends.{action_mute, action_send}
use Rattle.email_router.proofs.measure.answer.Goals as goal

pub returns-then-to-cc-eq0 : goal.returns-then-to-cc-eq0
returns-then-to-cc-eq0 c =
    record {
      action = action_mute c.args.recipients.now c.args.mail.now c.args.positive_review _ _ c.measure-to.ensures.size c.measure-cc.ensures.size (omega arith);
      small = tt;
    }

pub returns : goal.returns
returns c =
    record {
      action = action_send c.args.recipients.now c.args.mail.now c.args.positive_review _ _ c.measure-to.ensures.size c.measure-cc.ensures.size (omega arith);
      small = (c.measure-to.ensures.small, c.measure-cc.ensures.small);
    }
