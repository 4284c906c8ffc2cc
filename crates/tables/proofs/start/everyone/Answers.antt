-- `tables::start::everyone` meets its contract.
use native.Mathlib.Omega.{arith}
use borrow.Author.Rules.{rules}
use lib.Pow.{pow_pos, pow_mono}
use Rattle.rt0.proofs.Bits.{shifted_one}
use Rattle.tables.proofs.start.everyone.Goals as goal

pub overflow_sub-result : goal.overflow_sub-result
overflow_sub-result c = rw (shifted_one 64 c.args.entities (search rules)) (pow_pos c.args.entities)

pub overflow_cast-result : goal.overflow_cast-result
overflow_cast-result c =
    let most = pow_mono {i = c.args.entities} {j = 32} c.requires in
    rw (shifted_one 64 c.args.entities (search rules)) (omega arith)

pub returns : goal.returns
returns c = rw (shifted_one 64 c.args.entities (search rules))
