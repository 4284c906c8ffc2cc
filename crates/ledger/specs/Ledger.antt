-- A slip while it is written: its lines are right, and the index knows the line of each fact that is stated, and no other.
use Rattle.std.specs.Prelude.{ℕ, ◌*◌, ◌<◌, ◌≤◌, ◌≡◌, List, length, get_or, drop}
use Rattle.rt0.specs.Book.{Book}
use Rattle.rt0.specs.Slip.{Line, Says, RightSlip}
use Rattle.rt0.specs.Bytes.{lines_of}
use Rattle.words.specs.Sizes.{fact_count}
use Rattle.premises.specs.Fact.{fact, HasLine}

-- the lines are a right slip, and the index has the number of the line that states a fact
pub record Ledger (book : Book) (index : List ℕ) (lines : List Line) : Type 0 where
  pub size : length index ≡ fact_count
  pub right : RightSlip book lines
  pub there : (f : ℕ) → f < fact_count → HasLine index f → Says book lines (get_or index f 0) (fact f)
  pub only : (f m : ℕ) → f < fact_count → Says book lines m (fact f) → get_or index f 0 ≡ m

-- from n lines and their index to no fewer lines and theirs: what had a line has one, and the bytes behind the lines stay
pub record Extended (book : Book) (index slip : List ℕ) (n : ℕ) (index' slip' : List ℕ) (n' : ℕ) : Type 0 where
  pub ledger : Ledger book index' (lines_of slip' n')
  pub size : length slip' ≡ length slip
  pub more : n ≤ n'
  pub rest : drop (8 * n') slip' ≡ drop (8 * n') slip
  pub keeps : (f : ℕ) → HasLine index f → HasLine index' f
