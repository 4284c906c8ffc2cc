-- `candidates::right::is_line` meets its contract.
use Rattle.candidates.proofs.Compared.{line_tells}
use Rattle.records.specs.Bytes.{credential_in}
use borrow.Author.Rules.{rules}
use Rattle.candidates.proofs.right.is_line.Goals as goal

pub returns : goal.returns
returns c =
    let args = c.args in
    line_tells args.line.now (credential_in args.record.now) _ _ _ _ (search rules) c.put_line-n.ensures
    c.is_front.ensures
