use Rattle.email_router.proofs.Opens.{opens, opens_positive, tray_tells, answers_apart}
use Rattle.email_router.proofs.laws.envelopes_stand.Goals as goal

pub returns : goal.returns
returns c = record { opens = opens; positive = opens_positive; tray = tray_tells; apart = answers_apart }
