-- When a slip is accepted, in RT0's own words: the bundle is read, the question is in range, the slip has 1 to 7,680 whole lines, and
-- they are a right slip over the bundle's credentials whose last line states what is asked.
use Rattle.std.specs.Prelude.{ℕ, ◌*◌, ◌≤◌, ◌≡◌, List, length}
use Rattle.rt0.specs.Slip.{SlipFor}
use Rattle.rt0.specs.Bytes.{lines_of}
use Rattle.rt0.specs.Sizes.{slip_lines}
use Rattle.bundle.specs.declared.read.Sizes.{Sizes}
use Rattle.bundle.specs.declared.question.Question.{Question}
use Rattle.bundle.specs.Held.{book_in}
use Rattle.bundle.specs.Question.{role_asked, Asked}

-- the slip shows, by its n lines, what is asked
pub record Shown (bundle : List ℕ) (q : Question) (slip : List ℕ) (n : ℕ) : Type 0 where
  pub sizes : Sizes
  pub asked : Asked bundle sizes q
  pub some_line : 1 ≤ n
  pub most_lines : n ≤ slip_lines
  pub size : length slip ≡ 8 * n
  pub right : SlipFor (book_in bundle) (role_asked q) q.person (lines_of slip n)
