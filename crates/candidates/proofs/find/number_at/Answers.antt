-- `candidates::find::number_at` meets its contract.
use Rattle.candidates.proofs.Words.{number_two, number_one}
use mathlib.Core.Path.{refl}
use Rattle.candidates.proofs.find.number_at.Goals as goal

pub returns-then-is_digit : goal.returns-then-is_digit
returns-then-is_digit c =
    let args = c.args in
    number_two args.line.now args.at _ _ _ c.is_digit.ensures c.byte-second.ensures.0 c.if-is_digit.true _
    c.byte-first.ensures.0 refl

pub returns-else-is_digit : goal.returns-else-is_digit
returns-else-is_digit c =
    let args = c.args in
    number_one args.line.now args.at _ _ _ c.is_digit.ensures c.byte-second.ensures.0 c.if-is_digit.false _
    c.byte-first.ensures.0 refl
