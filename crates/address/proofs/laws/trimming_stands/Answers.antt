use Rattle.address.proofs.Trims.{trimming}
use Rattle.address.proofs.laws.trimming_stands.Goals as goal

pub returns : goal.returns
returns c = trimming
