-- The type that a code stands for, issuer side first: 1 none and none, 2 none and all, 3 def and none, 4 def and all, 5 all and none,
-- 6 all and all. A number that is no code traces nothing. And the types of the names by a sheet.
use Rattle.std.specs.Prelude.{ℕ, cond, ◌||◌, List, eqb}
use Rattle.types.specs.Name.{IssuerSide, issuer_traces_none, issuer_traces_def, issuer_traces_all}
use Rattle.types.specs.Name.{SubjectSide, subject_traces_none, subject_traces_all, NameType, Types}
use Rattle.sheet.specs.Sheet.{code_of}

abbrev pub issuer_side : ℕ → IssuerSide
issuer_side code = cond (eqb code 5 || eqb code 6) issuer_traces_all (cond (eqb code 3 || eqb code 4) issuer_traces_def issuer_traces_none)

abbrev pub subject_side : ℕ → SubjectSide
subject_side code = cond (eqb code 2 || eqb code 4 || eqb code 6) subject_traces_all subject_traces_none

unfoldable pub type_of : ℕ → NameType
type_of code = record { on_issuer = issuer_side code; on_subject = subject_side code }

-- each name has the type of its code
abbrev pub types_by : List ℕ → Types
types_by sheet r = type_of (code_of sheet r)
