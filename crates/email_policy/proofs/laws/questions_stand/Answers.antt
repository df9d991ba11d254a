use Rattle.email_policy.proofs.Places.{place_free}
use Rattle.email_policy.proofs.laws.questions_stand.Goals as goal

pub returns : goal.returns
returns c = place_free
