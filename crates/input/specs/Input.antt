-- What reading standard input leaves in a buffer, and what it says of that.
--
-- The input comes in pieces, one for each read that gave any bytes. Which bytes came, how many, and whether a read failed no contract
-- can say: a read of standard input promises nothing of them. So the promise says "there are pieces such that", and what follows of
-- the buffer and of the answer.
use Rattle.std.specs.Prelude.{ℕ, zero, suc, ◌+◌, ◌<◌, ◌≤◌, ◌≡◌, List, [], ◌∷◌, ◌++◌, length, take, drop, Option, Some, None, Result, Ok, Err}
use Rattle.input.specs.declared.Failed.{Failed}
use Rattle.input.specs.declared.Input.{Input}
use Rattle.input.specs.declared.Input.TheVariants.{Whole, Longer}

-- pieces one after the other
unfoldable pub joined : List (List ℕ) → List ℕ
joined [] = []
joined (piece ∷ pieces) = piece ++ joined pieces

-- every piece has a byte
unfoldable pub NoneEmpty : List (List ℕ) → Type 0
NoneEmpty [] = Unit {0}
NoneEmpty (piece ∷ pieces) = (0 < length piece) × NoneEmpty pieces

-- what stands for the error of a read that failed: the one value of its type
abbrev pub failure : Failed
failure = record {}

-- what is said where so many bytes of a buffer of that size were read: that they are the whole input; that the input is longer than the
-- buffer, which is then full; or that a read failed
abbrev pub Says : Result Input Failed → ℕ → ℕ → Type 0
Says (Ok (Whole n)) came size = n ≡ came
Says (Ok Longer) came size = came ≡ size
Says (Err error) came size = error ≡ failure

-- So many bytes of the input came into a buffer: behind each piece stands the next one, no byte before a piece is touched, and behind
-- the last one stands what stood there before. So the buffer keeps its length.
pub record Came (n : ℕ) (before after : List ℕ) : Type 0 where
  pub pieces : List (List ℕ)
  pub none_empty : NoneEmpty pieces
  pub count : n ≡ length (joined pieces)
  pub fits : n ≤ length before
  pub placed : after ≡ joined pieces ++ drop n before

-- a buffer was filled, and what is said fits what came
pub record Filled (before after : List ℕ) (said : Result Input Failed) : Type 0 where
  pub count : ℕ
  pub came : Came count before after
  pub says : Says said count (length before)

-- what one read gave, by what it answered: a failure, whatever the error is, else how many bytes came, or none at the end of the input
abbrev pub given_by : {E : Type 0} → Result ℕ E → Result (Option ℕ) Failed
given_by (Err error) = Err failure
given_by (Ok zero) = Ok None
given_by (Ok (suc n)) = Ok (Some (suc n))

-- .. which a read of at most so many bytes that keeps its contract makes one of these
abbrev pub Given : ℕ → Result (Option ℕ) Failed → Type 0
Given most (Ok (Some n)) = (0 < n) × (n ≤ most)
Given most (Ok None) = Unit {0}
Given most (Err error) = error ≡ failure

-- what is said by what the last read gave, with so many bytes before it; where it gave bytes, there was no room for them
abbrev pub said_after : {E : Type 0} → Result (Option ℕ) E → ℕ → Result Input E
said_after (Ok (Some n)) done = Ok Longer
said_after (Ok None) done = Ok (Whole done)
said_after (Err error) done = Err error

-- a buffer with a piece behind its first `done` bytes, and every other byte as it was
abbrev pub placed_at : ℕ → List ℕ → List ℕ → List ℕ
placed_at done piece before = take done before ++ (piece ++ drop (done + length piece) before)

-- one piece more
pub record OneMore (done : ℕ) (before after : List ℕ) (n : ℕ) : Type 0 where
  pub piece : List ℕ
  pub size : length piece ≡ n
  pub some : 0 < n
  pub fits : done + n ≤ length before
  pub placed : after ≡ placed_at done piece before

-- what one read did: a piece more, or nothing
abbrev pub Added : ℕ → List ℕ → List ℕ → Result (Option ℕ) Failed → Type 0
Added done before after (Ok (Some n)) = OneMore done before after n
Added done before after (Ok None) = after ≡ before
Added done before after (Err error) = (after ≡ before) × (error ≡ failure)
