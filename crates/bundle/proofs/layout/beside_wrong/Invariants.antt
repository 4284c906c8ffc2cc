-- `bundle::layout::beside_wrong` meets its contract.
use Rattle.base.specs.Byte.{byte_at}
use Rattle.bundle.specs.Layout.{beside_byte_wrong}
use Rattle.base.proofs.Lowest.{Missed}
use Rattle.bundle.proofs.layout.beside_wrong.Given as goal

abbrev pub invariant-loop-i : goal.invariant-loop-i
invariant-loop-i l = Missed (λ k. beside_byte_wrong l.j l.records k (byte_at l.bytes k)) l.i
