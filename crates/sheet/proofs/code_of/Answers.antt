-- `sheet::code_of` meets its contract.
use native.Mathlib.Omega.{arith}
use Rattle.sheet.proofs.Codes.{code_none, code_there}
use Rattle.sheet.proofs.code_of.Goals as goal

pub returns-then-name-eq0 : goal.returns-then-name-eq0
returns-then-name-eq0 c = let args = c.args in (code_none args.sheet.now args.name c.if-name-eq0.true, omega arith)

pub returns : goal.returns
returns c =
    let args = c.args in
    (code_there args.sheet.now args.name c.byte.result c.if-name-eq0.false c.byte.ensures.0, c.byte.ensures.1)
