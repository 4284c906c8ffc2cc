-- The table of refusals, in the paper's order: the reader's rows, 15 for the sheet, 7 for the record. And what an answer comes to by it: of
-- the credential with that number, whether it is structurally well typed by the sheet, and if so the shelves that must hold it.
use Rattle.std.specs.Prelude.{ℕ, ◌≡◌, List, [], ◌∷◌, ◌++◌, Option as Maybe, Some, None, Result, Ok, Err}
use Rattle.std.proofs.Math.Option.{some}
use Rattle.rt0.specs.Credential.{Credential}
use Rattle.base.specs.declared.refusal.Refusal.{Refusal}
use Rattle.base.specs.Refused.{number_of, place_of}
use Rattle.base.specs.Range.{Outside}
use Rattle.base.specs.Refusals.{Row, row, AtZero, Judged}
use Rattle.bundle.specs.Layout.{names_of, records_of}
use Rattle.bundle.specs.Rows.{reader_rows}
use Rattle.bundle.specs.Held.{book_in}
use Rattle.types.specs.Name.{Types}
use Rattle.types.specs.Typed.{StructurallyWellTyped}
use Rattle.sheet.specs.Sheet.{sheet_row}
use Rattle.sheet.specs.Types.{types_by}
use Rattle.storage.specs.Shelves.{HeldOn}

-- there is no record of that number: it is not 1 to N
abbrev pub record_row : List ℕ → ℕ → Row
record_row bundle n = row 7 (AtZero (Outside (records_of bundle) n))

abbrev pub storage_rows : List ℕ → List ℕ → ℕ → List Row
storage_rows bundle sheet n = reader_rows bundle ++ (sheet_row (names_of bundle) sheet ∷ record_row bundle n ∷ [])

-- this is what is said of a credential by the types of the names: the shelves that must hold it, where it is structurally well typed
abbrev pub SaidOf : Types → Credential → Maybe ℕ → Type 0
SaidOf T c (Some shelves) = StructurallyWellTyped T c × HeldOn T c shelves
SaidOf T c None = StructurallyWellTyped T c → ⊥

-- what is said of the credential with number n
pub record SaidOfRecord (bundle sheet : List ℕ) (n : ℕ) (answer : Maybe ℕ) : Type 0 where
  pub credential : Credential
  pub there : book_in bundle n ≡ some credential
  pub said : SaidOf (types_by sheet) credential answer

-- an answer that is no refusal says this of it
abbrev pub Answered : List ℕ → List ℕ → ℕ → Result (Maybe ℕ) (Refusal ℕ) → Type 0
Answered bundle sheet n (Ok said) = SaidOfRecord bundle sheet n said
Answered bundle sheet n (Err why) = ⊥

-- this is the answer to a bundle, a sheet and the number of a record: the refusal that is due, or what is said of the record
abbrev pub StoragePromise : List ℕ → List ℕ → ℕ → Result (Maybe ℕ) (Refusal ℕ) → Type 0
StoragePromise bundle sheet n answer =
    Judged (storage_rows bundle sheet n) (number_of answer) (place_of answer) (Unit {0}) (Answered bundle sheet n answer)
