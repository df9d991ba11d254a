use Rattle.roll.proofs.Writes.{writes_rows}
use Rattle.roll.proofs.laws.writing_stands.Goals as goal

pub returns : goal.returns
returns c = writes_rows
