-- `writer::seal::seal` meets its contract.
use native.Mathlib.Omega.{arith}
use Rattle.content.proofs.Stores.{check_small, seal_stored}
use Rattle.writer.proofs.seal.seal.Goals as goal

pub overflow_cast-bytes-2 : goal.overflow_cast-bytes-2
overflow_cast-bytes-2 c = omega (arith, c.check-found.ensures, check_small c.args.bytes.now)

pub returns : goal.returns
returns c = seal_stored c.args.bytes.now c.requires c.check-found.result c.check-found.ensures
