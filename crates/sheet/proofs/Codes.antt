-- The code of a name, and what each of the six codes stands for, by computing.
use Prim.Native.Nat.{ℕ, zero, suc, ◌-◌}
use mathlib.Core.Path.{◌≡◌, refl}
use mathlib.Core.List.{List}
use native.Mathlib.Omega.{arith}
use Rattle.types.specs.Name.{IssuerSide, issuer_traces_none, issuer_traces_def, issuer_traces_all, SubjectSide, subject_traces_none, subject_traces_all}
use Rattle.base.specs.Byte.{byte_at}
use Rattle.sheet.specs.Sheet.{code_of}
use Rattle.sheet.specs.Types.{type_of}

-- 0 has no code, and the code of any other number stands one byte before it
pub code_none : (sheet : List ℕ) (r : ℕ) → r ≡ 0 → 0 ≡ code_of sheet r
code_none sheet r e = rw e

pub code_there : (sheet : List ℕ) (r code : ℕ) → (r ≡ 0 → ⊥) → code ≡ byte_at sheet (r - 1) → code ≡ code_of sheet r
code_there sheet zero code n e = absurd (n refl)
code_there sheet (suc i) code n e = let same : suc i - 1 ≡ i = omega arith in rw same at e

-- the code stands for these two sides
abbrev StandsFor : ℕ → IssuerSide → SubjectSide → Type 0
StandsFor code issuer subject = type_of code ≡ record { on_issuer = issuer; on_subject = subject }

pub one : StandsFor 1 issuer_traces_none subject_traces_none
unfolding type_of
one = refl

pub two : StandsFor 2 issuer_traces_none subject_traces_all
unfolding type_of
two = refl

pub three : StandsFor 3 issuer_traces_def subject_traces_none
unfolding type_of
three = refl

pub four : StandsFor 4 issuer_traces_def subject_traces_all
unfolding type_of
four = refl

pub five : StandsFor 5 issuer_traces_all subject_traces_none
unfolding type_of
five = refl

pub six : StandsFor 6 issuer_traces_all subject_traces_all
unfolding type_of
six = refl
