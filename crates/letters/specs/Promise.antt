-- What reading and writing letters promise at every input: the refusal that is due, and then no byte of the buffer is touched; or the number of
-- bytes of what was read or written, which then stands at the front of the buffer, and the bytes past it are as they were.
use Rattle.std.specs.Prelude.{ℕ, ◌*◌, ◌≡◌, List, ◌++◌, length, drop, Result, Ok}
use Rattle.rt0.specs.Credential.{Credential, AllValid}
use Rattle.base.specs.declared.refusal.Refusal.{Refusal}
use Rattle.base.specs.Refused.{number_of, place_of}
use Rattle.base.specs.Refusals.{Row, Judged}
use Rattle.letters.specs.Lines.{text_of, records_of, credentials_in, line_count}
use Rattle.letters.specs.Rows.{read_rows, write_rows}

-- a buffer with bytes at its front, and the rest as it was
abbrev pub front : List ℕ → List ℕ → List ℕ
front bytes before = bytes ++ drop (length bytes) before

-- these bytes were written, and their number is the answer
abbrev pub Stored : List ℕ → List ℕ → Result ℕ (Refusal ℕ) → List ℕ → Type 0
Stored bytes before r after = (r ≡ Ok (length bytes)) × (after ≡ front bytes before)

-- an answer by a table that says this length where no row applies
abbrev pub Says : List Row → Result ℕ (Refusal ℕ) → ℕ → Type 0
Says rows r n = Judged rows (number_of r) (place_of r) (Unit {0}) (r ≡ Ok n)

-- a text is that of credentials that are valid over E and R
pub record Letter (E R : ℕ) (text : List ℕ) : Type 0 where
  pub credentials : List Credential
  pub valid : AllValid E R credentials
  pub text_is : text ≡ text_of credentials

-- reading: the records of the credentials whose text it is
abbrev pub Reads : ℕ → ℕ → List ℕ → List ℕ → Result ℕ (Refusal ℕ) → List ℕ → Type 0
Reads E R text before r after =
    Judged (read_rows E R text (length before)) (number_of r) (place_of r) (after ≡ before)
    ((letter : Letter E R text) × Stored (records_of letter.credentials) before r after)

-- what is said of a text before anything is written: the refusal that is due, or so many bytes of records, and that it is a letter
abbrev pub JudgedText : List Row → ℕ → ℕ → List ℕ → Result ℕ (Refusal ℕ) → Type 0
JudgedText rows E R text r = Judged rows (number_of r) (place_of r) (Unit {0}) ((r ≡ Ok (12 * line_count text)) × Letter E R text)

-- writing: the text of the credentials of a list of records
abbrev pub Writes : ℕ → ℕ → List ℕ → List ℕ → Result ℕ (Refusal ℕ) → List ℕ → Type 0
Writes E R list before r after =
    Judged (write_rows E R list (length before)) (number_of r) (place_of r) (after ≡ before)
    (Stored (text_of (credentials_in list)) before r after)
