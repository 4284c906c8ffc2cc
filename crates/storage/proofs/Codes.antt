-- The flags of a code are those of the type that it stands for.
use Prim.Native.Nat.{ℕ}
use mathlib.Core.Path.{◌≡◌, refl}
use mathlib.Core.Bool.{Bool, true, false, cond, ◌||◌}
use mathlib.Core.Logic.{◌⊎◌, inl, inr}
use mathlib.Core.List.{List}
use lib.Dec.{eqb}
use borrow.Author.Tests.{eqb-true}
use Rattle.base.proofs.Flags.{or_true}
use Rattle.types.specs.Name.{issuer_traces_none, issuer_traces_def, issuer_traces_all, subject_traces_none, subject_traces_all, traces_all, traces_def, subjects_trace}
use Rattle.sheet.specs.Sheet.{code_of}
use Rattle.sheet.specs.Types.{issuer_side, type_of, types_by}
use Rattle.storage.specs.Stored.{sides_of}

all_flag : (a d : Bool) → a ≡ traces_all (cond a issuer_traces_all (cond d issuer_traces_def issuer_traces_none))
all_flag true d = refl
all_flag false true = refl
all_flag false false = refl

subject_flag : (a : Bool) → a ≡ subjects_trace (cond a subject_traces_all subject_traces_none)
subject_flag true = refl
subject_flag false = refl

-- 5 and 6 are neither 3 nor 4
not_def : (code : ℕ) → (eqb code 5 || eqb code 6) ≡ true → (eqb code 3 || eqb code 4) ≡ false
not_def code h = by (or_true (eqb code 5) (eqb code 6) h)
  where
    by : (eqb code 5 ≡ true) ⊎ (eqb code 6 ≡ true) → (eqb code 3 || eqb code 4) ≡ false
    by (inl e) = rw (eqb-true code 5 e)
    by (inr e) = rw (eqb-true code 6 e)

def_flag : (code : ℕ) → (eqb code 3 || eqb code 4) ≡ traces_def (issuer_side code)
def_flag code = by (eqb code 5 || eqb code 6) (eqb code 3 || eqb code 4) (not_def code)
  where
    by : (a d : Bool) → (a ≡ true → d ≡ false) → d ≡ traces_def (cond a issuer_traces_all (cond d issuer_traces_def issuer_traces_none))
    by true d h = h refl
    by false true h = refl
    by false false h = refl

-- the flags that code works out of a name's code
pub sides_found : (sheet : List ℕ) (name code : ℕ) → code ≡ code_of sheet name
    → record { all = eqb code 5 || eqb code 6; def = eqb code 3 || eqb code 4; subject = eqb code 2 || eqb code 4 || eqb code 6 }
    ≡ sides_of (types_by sheet name)
unfolding type_of
sides_found sheet name code e = rw (← e, ← all_flag (eqb code 5 || eqb code 6) (eqb code 3 || eqb code 4), ← def_flag code, ← subject_flag (eqb code 2 || eqb code 4 || eqb code 6))
