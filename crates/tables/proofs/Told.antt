-- What the promise tells by the answer: rounds come from an accepted bundle, and a refusal with tables long enough is the reader's.
use Rattle.std.specs.Prelude.{Ok, Err}
use Prim.Native.Nat.{ℕ}
use native.Mathlib.Omega.{arith}
use mathlib.Core.Path.{◌≡◌}
use mathlib.Core.Bool.{false}
use mathlib.Core.Logic.{inl, inr, ⊎_elim}
use mathlib.Core.List.{List, [], ◌∷◌}
use Rattle.rt0.specs.Completion.{Open}
use Rattle.base.specs.Refused.{refusal_at}
use Rattle.base.specs.Refusals.{Due, refused, passed}
use Rattle.base.proofs.Flags.{clash_flag}
use Rattle.base.proofs.Refusals.{due_number, due_split, clear_first}
use Rattle.bundle.specs.declared.read.Sizes.{Sizes}
use Rattle.bundle.specs.Rows.{reader_rows, Accepts}
use Rattle.bundle.specs.Held.{holding_with}
use Rattle.bundle.proofs.Determined.{some_sizes}
use Rattle.tables.specs.Promise.{Tables, FilledWith, tables_wrong, short_row, table_rows, TablesWith, filled}
use Rattle.tables.proofs.Promised.{short_tells, table_numbers}

module _ (is_open : Open) (bytes : List ℕ) (before after : Tables) where
  pub filled_told : (s : Sizes) (n : ℕ) → TablesWith is_open bytes before after (Ok (filled s n)) → Accepts bytes s × FilledWith (holding_with is_open bytes) before after n
  filled_told s n (passed _ _ c f) = (record { clear = clear_first (reader_rows bytes) (short_row before ∷ []) c; said = f.sizes }, f.filled)
  filled_told s n (refused d k) = absurd (omega (arith, due_number (table_rows bytes before) (table_numbers bytes before) 0 0 d))

  pub refused_told : (n p : ℕ) → tables_wrong before ≡ false → TablesWith is_open bytes before after (Err (refusal_at n p))
      → Due (reader_rows bytes) n p × (after ≡ before)
  refused_told n p enough (refused d k) =
      (⊎_elim (λ e. e) (λ (_, e). absurd (no_short e)) (due_split (reader_rows bytes) (short_row before ∷ []) n p d), k.untouched)
    where
      no_short : Due (short_row before ∷ []) n p → ⊥
      no_short (inl (_, (_, w))) = clash_flag ((short_tells before).1 w) enough
      no_short (inr (_, none)) = none
  refused_told n p enough (passed _ _ c f) = absurd (some_sizes bytes (clear_first (reader_rows bytes) (short_row before ∷ []) c) f.sizes)
