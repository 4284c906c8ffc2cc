-- Demand 3's last sentence on the real bytes: a slip that was accepted before some appends is accepted for the same question after them, by the
-- bytes that then stand in the buffer. LastingOnce has it of one append.
use Rattle.std.specs.Prelude.{Ok}
use Prim.Native.Nat.{ℕ}
use mathlib.Core.List.{List}
use lib.ListN.{take}
use Rattle.rt0.specs.Credential.{Credential}
use Rattle.bundle.specs.declared.question.Question.{Question}
use Rattle.checker.specs.Rows.{Checks}
use Rattle.checker.proofs.Accepts.{accepted_exactly, accepted_lasts}
use Rattle.writer.specs.Appended.{Appended}
use Rattle.writer.proofs.Lasting.{appended_grown}

module _ (before : List ℕ) (n : ℕ) (q : Question) (slip : List ℕ) (lines : ℕ) (c : Checks (take n before) q slip (Ok lines)) where
  -- any number of appends
  pub slip_lasts : {after : List ℕ} {m : ℕ} {ks : List Credential} → Appended before n after m ks → Checks (take m after) q slip (Ok lines)
  slip_lasts {after} {m} {ks} h =
      let shown = (accepted_exactly (take n before) q slip lines).0 c in
      let grown = appended_grown before n shown.sizes shown.asked.accepts h in
      accepted_lasts (take n before) (take m after) shown.sizes grown.sizes q slip lines ks shown.asked.accepts grown.accepts
      grown.entities grown.names grown.held_more c
