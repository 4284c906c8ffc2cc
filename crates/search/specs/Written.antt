-- What the search leaves in the slip buffer with YES.
use Rattle.std.specs.Prelude.{ℕ, ◌*◌, ◌≤◌, ◌≡◌, List, length, drop}
use Rattle.rt0.specs.Credential.{Role}
use Rattle.rt0.specs.Book.{Book}
use Rattle.rt0.specs.Slip.{SlipFor, NoFactTwice}
use Rattle.rt0.specs.Bytes.{lines_of}
use Rattle.rt0.specs.Sizes.{slip_lines}

-- from byte 0 so many lines stand, 1 to 7,680, which are a slip for D in ρ and state no fact twice; the bytes past them stay, and there are
-- as many as before
pub record Written (book : Book) (ρ : Role) (D : ℕ) (before : List ℕ) (lines : ℕ) (after : List ℕ) : Type 0 where
  pub some_line : 1 ≤ lines
  pub most_lines : lines ≤ slip_lines
  pub right : SlipFor book ρ D (lines_of after lines)
  pub once : NoFactTwice book (lines_of after lines)
  pub rest : drop (8 * lines) after ≡ drop (8 * lines) before
  pub size : length after ≡ length before
