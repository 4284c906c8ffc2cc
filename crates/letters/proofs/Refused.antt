-- Each refusal of letters is given exactly when it is due, with its place, and leaves every byte of the buffer as it was; and something is read or
-- written exactly when no row applies.
use Rattle.std.specs.Prelude.{Result}
use Prim.Native.Nat.{ℕ, ◌≤◌}
use mathlib.Core.Path.{◌≡◌}
use mathlib.Core.Logic.{◌↔◌}
use mathlib.Core.List.{List}
use lib.ListN.{length}
use Rattle.base.specs.declared.refusal.Refusal.{Refusal}
use Rattle.base.specs.Refused.{number_of, place_of}
use Rattle.base.specs.Refusals.{Due, Clear}
use Rattle.base.proofs.Refusals.{judged_exactly, judged_clear, judged_refused}
use Rattle.letters.specs.Rows.{read_rows, write_rows}
use Rattle.letters.specs.Promise.{Reads, Writes}
use Rattle.letters.proofs.Kept.{read_places, read_numbers, write_places, write_numbers}

module _ (E R : ℕ) (text before : List ℕ) (r : Result ℕ (Refusal ℕ)) (after : List ℕ) (h : Reads E R text before r after) where
  pub read_exactly : (number place : ℕ) → 1 ≤ number
      → ((number_of r ≡ number) × (place_of r ≡ place)) ↔ Due (read_rows E R text (length before)) number place
  read_exactly = judged_exactly (read_rows E R text (length before)) (read_places E R text (length before)) (read_numbers E R text (length before)) h

  pub read_passed : (number_of r ≡ 0) ↔ Clear (read_rows E R text (length before))
  read_passed = judged_clear (read_rows E R text (length before)) (read_places E R text (length before)) (read_numbers E R text (length before)) h

  pub read_untouched : 1 ≤ number_of r → after ≡ before
  read_untouched l =
      let (_, same) = judged_refused (read_rows E R text (length before)) (read_places E R text (length before)) (read_numbers E R text (length before)) h l in
      same

module _ (E R : ℕ) (list before : List ℕ) (r : Result ℕ (Refusal ℕ)) (after : List ℕ) (h : Writes E R list before r after) where
  pub write_exactly : (number place : ℕ) → 1 ≤ number
      → ((number_of r ≡ number) × (place_of r ≡ place)) ↔ Due (write_rows E R list (length before)) number place
  write_exactly = judged_exactly (write_rows E R list (length before)) (write_places E R list (length before)) (write_numbers E R list (length before)) h

  pub write_passed : (number_of r ≡ 0) ↔ Clear (write_rows E R list (length before))
  write_passed = judged_clear (write_rows E R list (length before)) (write_places E R list (length before)) (write_numbers E R list (length before)) h

  pub write_untouched : 1 ≤ number_of r → after ≡ before
  write_untouched l =
      let (_, same) = judged_refused (write_rows E R list (length before)) (write_places E R list (length before)) (write_numbers E R list (length before)) h l in
      same
