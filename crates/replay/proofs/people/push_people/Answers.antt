use Rattle.std.proofs.Common.{rules}
use Rattle.replay.proofs.TextLines.{ranked}
use Rattle.replay.proofs.people.push_people.Goals as goal

pub returns-in_ok-extend_from_slice-2 : goal.returns-in_ok-extend_from_slice-2
returns-in_ok-extend_from_slice-2 c =
    ranked c.args.pass c.args.tray.now c.args.lines.now.items c.push_recipients.new.lines.items _ (search rules) (cc) c.in_ok-push_recipients.ensures (search rules)
