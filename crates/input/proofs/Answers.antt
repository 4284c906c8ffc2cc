-- What a read answers, and what is said by it.
use Prim.Native.Nat.{ℕ, zero, suc, ◌<◌, ◌≤◌}
use native.Mathlib.Omega.{arith}
use mathlib.Core.Path.{◌≡◌, refl}
use Rattle.std.specs.Prelude.{Option, Some, None, Result, Ok, Err, IfOk}
use Rattle.input.specs.declared.Failed.{Failed}
use Rattle.input.specs.Input.{failure, Says, given_by, Given, said_after}

-- what is given by an error, by no byte and by any other answer
pub given_failed : {E : Type 0} (error : E) → Err failure ≡ given_by (Err error)
given_failed error = refl

pub given_none : (E : Type 0) → Ok None ≡ given_by {E = E} (Ok 0)
given_none E = refl

pub given_some : (E : Type 0) (n : ℕ) → 0 < n → Ok (Some n) ≡ given_by {E = E} (Ok n)
given_some E zero some = absurd (omega arith)
given_some E (suc n) some = refl

-- a read of at most so many bytes
pub given_kept : {E : Type 0} (answer : Result ℕ E) (most : ℕ) → IfOk answer (λ n. n ≤ most) → Given most (given_by answer)
given_kept (Err error) most m = refl
given_kept (Ok zero) most m = tt
given_kept (Ok (suc n)) most m = (omega arith, m)

pub given_held : {E : Type 0} (piece : Result (Option ℕ) Failed) (answer : Result ℕ E) (most : ℕ) → IfOk answer (λ n. n ≤ most) → piece ≡ given_by answer
    → Given most piece
given_held piece answer most m given = rw given (given_kept answer most m)

-- what is said of a full buffer
pub said_full : (more : Result (Option ℕ) Failed) (most size : ℕ) → Given most more → Says (said_after more size) size size
said_full (Ok (Some n)) most size g = refl
said_full (Ok None) most size g = refl
said_full (Err error) most size g = g
