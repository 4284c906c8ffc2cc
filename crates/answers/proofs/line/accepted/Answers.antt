-- `answers::line::accepted` meets its contract.
use native.Mathlib.Omega.{arith}
use lib.ListN.{length-append}
use Rattle.text.proofs.Decimal.{five_digits}
use Rattle.text.proofs.Written.{wrote_more}
use Rattle.answers.proofs.Text.{holds_written}
use Rattle.answers.proofs.line.accepted.Goals as goal

pub returns : goal.returns
returns c =
    let args = c.args in
    let entities = wrote_more (wrote_more c.word-worded.ensures c.number.ensures) c.put-with_entities.ensures in
    let names = wrote_more (wrote_more entities c.number-2.ensures) c.put-with_names.ensures in
    holds_written c.empty.ensures (wrote_more (wrote_more names c.number-3.ensures) c.put.ensures)
    (simp length-append
    (omega (arith, five_digits args.entities (omega arith), five_digits args.names (omega arith), five_digits args.records (omega arith))))
