use Rattle.std.proofs.Common.{arith}
use Rattle.replay.proofs.Room.{answer_room}
use Rattle.replay.proofs.people.people_room.Goals as goal

pub returns : goal.returns
returns c = λ pass a h. let k = answer_room pass a in omega arith
