use Rattle.address.proofs.QuotedParts.{quoted_parts}
use Rattle.address.proofs.laws.quoted_parts_stand.Goals as goal

pub returns : goal.returns
returns c = quoted_parts
