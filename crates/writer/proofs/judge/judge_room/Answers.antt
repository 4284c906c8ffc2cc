-- `writer::judge::judge_room` meets its contract.
use borrow.Author.Rules.{rules}
use Rattle.writer.proofs.Tables.{room_many, room_short, room_enough}
use Rattle.writer.proofs.judge.judge_room.Goals as goal

pub returns-then-count-gt-RECORDS : goal.returns-then-count-gt-RECORDS
returns-then-count-gt-RECORDS c = rw c.at.ensures (room_many _ _ (search rules))

pub returns-then-size-length : goal.returns-then-size-length
returns-then-size-length c = rw c.at-then-size-length.ensures (room_short _ _ (search rules) (search rules))

pub returns : goal.returns
returns c = room_enough _ _ (search rules) (search rules)
