-- A slip that was accepted before an append is accepted for the same question after it, by the bytes that then stand in the buffer.
use Rattle.std.specs.Prelude.{Ok}
use Prim.Native.Nat.{ℕ}
use mathlib.Core.List.{List}
use lib.ListN.{take}
use Rattle.bundle.specs.declared.question.Question.{Question}
use Rattle.checker.specs.Rows.{Checks}
use Rattle.writer.specs.Promise.{Appends}
use Rattle.writer.specs.Appended.{no_more, one_more}
use Rattle.demands.proofs.Lasting.{slip_lasts}

module _ (before : List ℕ) (n : ℕ) (q : Question) (slip : List ℕ) (lines : ℕ) (c : Checks (take n before) q slip (Ok lines)) where
  -- one append
  pub slip_lasts_once : (bytes after : List ℕ) (m : ℕ) → Appends before n bytes (Ok m) after → Checks (take m after) q slip (Ok lines)
  slip_lasts_once bytes after m h = slip_lasts before n q slip lines c (one_more bytes no_more h)
