-- `letters::write::fill_text` meets its contract.
use Prim.Native.Nat.{◌≤◌}
use lib.ListN.{length}
use Rattle.content.specs.Content.{whole_records}
use Rattle.text.specs.Written.{Wrote}
use Rattle.letters.proofs.Filling.{text_to}
use Rattle.letters.proofs.write.fill_text.Given as goal

abbrev pub invariant-loop-record : goal.invariant-loop-record
invariant-loop-record l =
    (length l.yielded ≤ whole_records l.records) × Wrote l.initial.text 0 (text_to l.records (length l.yielded)) l.text l.at
