-- `letters::write::judge_room` meets its contract.
use native.Mathlib.Omega.{arith}
use borrow.Author.Rules.{rules}
use Rattle.letters.proofs.Writing.{text_many, text_short, text_room}
use Rattle.letters.proofs.write.judge_room.Goals as goal

pub returns-then-records-gt-RECORDS : goal.returns-then-records-gt-RECORDS
returns-then-records-gt-RECORDS c =
    let args = c.args in
    rw c.at.ensures (text_many args.records.now args.size (search rules))

pub returns-then-size-length : goal.returns-then-size-length
returns-then-size-length c =
    rw c.at-then-size-length.ensures (text_short c.args.records.now c.args.size (omega arith) c.requires _ c.text_length-length.ensures c.if-size-length.true)

pub returns : goal.returns
returns c =
    text_room c.args.records.now c.args.size (omega arith) c.requires _ c.text_length-length.ensures c.if-size-length.false
