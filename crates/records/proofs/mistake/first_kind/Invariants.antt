-- `records::mistake::first_kind` meets its contract. The invariant: the least kind is that of the bytes passed.
use mathlib.Core.Path.{◌≡◌}
use Rattle.base.specs.Byte.{byte_at}
use Rattle.base.proofs.Lowest.{Least}
use Rattle.records.specs.Kinds.{byte_wrong}
use Rattle.records.proofs.mistake.first_kind.Given as goal

abbrev pub invariant-loop-i : goal.invariant-loop-i
invariant-loop-i l = (l.form ≡ byte_at l.«record» 0) × (l.parts ≡ byte_at l.«record» 3) × Least (byte_wrong l.entities l.names l.«record») 5 l.i l.least
