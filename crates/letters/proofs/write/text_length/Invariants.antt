-- `letters::write::text_length` meets its contract.
use mathlib.Core.Path.{◌≡◌}
use Prim.Native.Nat.{◌≤◌}
use lib.ListN.{length}
use Rattle.content.specs.Content.{whole_records}
use Rattle.letters.specs.Lines.{counted_bytes}
use Rattle.letters.proofs.write.text_length.Given as goal

abbrev pub invariant-loop-record : goal.invariant-loop-record
invariant-loop-record l = (length l.yielded ≤ whole_records l.records) × (l.total ≡ counted_bytes l.records (length l.yielded))
