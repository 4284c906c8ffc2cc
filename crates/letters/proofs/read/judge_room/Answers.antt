-- `letters::read::judge_room` meets its contract.
use Rattle.letters.proofs.Reading.{room_short, room_enough}
use borrow.Author.Rules.{rules}
use Rattle.letters.proofs.read.judge_room.Goals as goal

pub returns-then-size-length : goal.returns-then-size-length
returns-then-size-length c = rw c.at.ensures (room_short _ _ (search rules))

pub returns-else-size-length : goal.returns-else-size-length
returns-else-size-length c = room_enough _ _ (search rules)
