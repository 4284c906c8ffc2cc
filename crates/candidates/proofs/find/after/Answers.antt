-- `candidates::find::after` meets its contract.
use Rattle.candidates.proofs.Words.{behind_two, behind_one}
use mathlib.Core.Path.{refl}
use native.Mathlib.Omega.{arith}
use Rattle.candidates.proofs.find.after.Goals as goal

pub returns-then-is_digit : goal.returns-then-is_digit
returns-then-is_digit c =
    let args = c.args in
    (behind_two args.line.now args.at _ _ _ c.is_digit.ensures c.byte.ensures.0 c.if-is_digit.true refl, omega arith)

pub returns-else-is_digit : goal.returns-else-is_digit
returns-else-is_digit c =
    let args = c.args in
    (behind_one args.line.now args.at _ _ _ c.is_digit.ensures c.byte.ensures.0 c.if-is_digit.false refl, omega arith)
