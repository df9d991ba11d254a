use Rattle.email_policy.proofs.Orders.{rises_orders}
use Rattle.email_policy.proofs.laws.keys_rise.Goals as goal

pub returns : goal.returns
returns c = rises_orders
