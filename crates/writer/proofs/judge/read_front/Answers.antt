-- `writer::judge::read_front` meets its contract: the part lent is the front of the buffer.
use Prim.Native.Nat.{ℕ}
use mathlib.Core.Path.{subst}
use mathlib.Core.List.{List}
use Rattle.base.proofs.Parts.{part_is}
use Rattle.bundle.specs.Rows.{Reads}
use Rattle.writer.proofs.judge.read_front.Goals as goal

pub returns : goal.returns
returns c =
    let args = c.args in
    subst (λ (l : List ℕ). Reads l c.read.result) (part_is args.bundle.now 0 args.length) c.read.ensures
