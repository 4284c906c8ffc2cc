-- A text in the making: the lines of the first records stand at the front of the lent memory, and those that are well typed are counted.
use Rattle.std.specs.Prelude.{ℕ, ◌≡◌, List, Option}
use Rattle.text.specs.Written.{Wrote}
use Rattle.holder_lines.specs.Text.{lines_text, wells}

pub record Passed (said : ℕ → Option ℕ) (i : ℕ) (before now : List ℕ) (next well : ℕ) : Type 0 where
  pub wrote : Wrote before 0 (lines_text said i) now next
  pub counted : well ≡ wells said i
