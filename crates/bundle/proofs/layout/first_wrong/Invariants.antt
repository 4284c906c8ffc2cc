-- `bundle::layout::first_wrong` meets its contract.
use Rattle.base.specs.Byte.{byte_at}
use Rattle.bundle.specs.Layout.{first_byte_wrong}
use Rattle.base.proofs.Lowest.{Missed}
use Rattle.bundle.proofs.layout.first_wrong.Given as goal

abbrev pub invariant-loop-i : goal.invariant-loop-i
invariant-loop-i l = Missed (λ k. first_byte_wrong l.edition (byte_at l.first 1) k (byte_at l.first k)) l.i
