use Rattle.address.proofs.Inside.{addresses}
use Rattle.address.proofs.laws.addresses_stand.Goals as goal

pub returns : goal.returns
returns c = addresses
