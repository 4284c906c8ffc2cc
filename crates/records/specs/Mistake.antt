-- What is wrong with a record: its rows in the paper's order, 61 to 65, each where some of the twelve bytes is wrong in that way. The
-- mistake of a record is the first row that applies.
use Rattle.std.specs.Prelude.{ℕ, ◌+◌, ◌<◌, ◌≡◌, Bool, true, cond, List, [], ◌∷◌, ltb, Option, Some, None}
use Rattle.base.specs.declared.refusal.Cause.{Cause}
use Rattle.base.specs.declared.refusal.Cause.TheVariants as cause
use Rattle.base.specs.Lowest.{lowest, any_below}
use Rattle.base.specs.Refusals.{Row, row, AtZero, Judged}
use Rattle.records.specs.declared.mistake.Mistake.{Mistake}
use Rattle.records.specs.declared.mistake.Mistake.TheVariants.{UnknownForm, NumberOfParts, EntityOutOfRange, NameOutOfRange, ByteNotZero}
use Rattle.records.specs.Kinds.{byte_wrong}

-- some byte of the twelve is wrong in way k
abbrev pub SomeByte : ℕ → ℕ → List ℕ → ℕ → Type 0
SomeByte E R bytes k = (i : ℕ) × (i < 12) × (byte_wrong E R bytes k i ≡ true)

-- unknown form; number of parts not 2 or 3; entity out of range; role name out of range; a byte that should be zero
abbrev pub mistake_rows : ℕ → ℕ → List ℕ → List Row
mistake_rows E R bytes =
    row 61 (AtZero (SomeByte E R bytes 0))
    ∷ row 62 (AtZero (SomeByte E R bytes 1))
    ∷ row 63 (AtZero (SomeByte E R bytes 2))
    ∷ row 64 (AtZero (SomeByte E R bytes 3))
    ∷ row 65 (AtZero (SomeByte E R bytes 4))
    ∷ []

-- why a record with a mistake is refused
abbrev pub cause_of : Mistake → Cause
cause_of UnknownForm = cause.UnknownForm
cause_of NumberOfParts = cause.NumberOfParts
cause_of EntityOutOfRange = cause.EntityOutOfRange
cause_of NameOutOfRange = cause.NameOutOfRange
cause_of ByteNotZero = cause.ByteNotZero

-- the paper's number of a mistake, 0 for none
abbrev pub mistake_number : Option Mistake → ℕ
mistake_number (Some UnknownForm) = 61
mistake_number (Some NumberOfParts) = 62
mistake_number (Some EntityOutOfRange) = 63
mistake_number (Some NameOutOfRange) = 64
mistake_number (Some ByteNotZero) = 65
mistake_number None = 0

-- this is what is wrong with a record over E entities and R names: the number that is due, or nothing where no row applies
abbrev pub Mistaken : ℕ → ℕ → List ℕ → Option Mistake → Type 0
Mistaken E R bytes m = Judged (mistake_rows E R bytes) (mistake_number m) 0 (Unit {0}) (Unit {0})

-- The same as functions that compute.

-- some byte is wrong in way k
abbrev pub some_wrong : ℕ → ℕ → List ℕ → ℕ → Bool
some_wrong E R bytes k = any_below (byte_wrong E R bytes k) 12

-- the first way in which some byte is wrong, or 5
unfoldable pub mistake_kind : ℕ → ℕ → List ℕ → ℕ
mistake_kind E R bytes = lowest (some_wrong E R bytes) 5

-- the paper's number of the first way, 0 for none
abbrev pub kind_number : ℕ → ℕ
kind_number k = cond (ltb k 5) (61 + k) 0

-- the record is wrong
abbrev pub record_wrong : ℕ → ℕ → List ℕ → Bool
record_wrong E R bytes = any_below (some_wrong E R bytes) 5
