-- Each refusal of the writer is given exactly when it is due, with its place, and leaves every byte of the buffer as it was; and a bundle is
-- written exactly when no row applies.
use Rattle.std.specs.Prelude.{Result}
use Prim.Native.Nat.{ℕ, ◌≤◌}
use mathlib.Core.Path.{◌≡◌}
use mathlib.Core.Logic.{◌↔◌}
use mathlib.Core.List.{List}
use lib.ListN.{length}
use Rattle.base.specs.declared.refusal.Refusal.{Refusal}
use Rattle.base.specs.Refused.{number_of, place_of}
use Rattle.base.specs.Refusals.{Due, Clear}
use Rattle.base.proofs.Refusals.{judged_exactly, judged_clear, judged_refused}
use Rattle.writer.specs.Rows.{write_rows, append_rows}
use Rattle.writer.specs.Promise.{Writes, Appends}
use Rattle.writer.proofs.Tables.{write_places, write_numbers, append_places, append_numbers}

module _ (E R : ℕ) (marks list before : List ℕ) (r : Result ℕ (Refusal ℕ)) (after : List ℕ) (h : Writes E R marks list before r after) where
  pub write_exactly : (number place : ℕ) → 1 ≤ number
      → ((number_of r ≡ number) × (place_of r ≡ place)) ↔ Due (write_rows E R marks list (length before)) number place
  write_exactly =
      judged_exactly (write_rows E R marks list (length before)) (write_places E R marks list (length before)) (write_numbers E R marks list (length before)) h

  pub write_passed : (number_of r ≡ 0) ↔ Clear (write_rows E R marks list (length before))
  write_passed =
      judged_clear (write_rows E R marks list (length before)) (write_places E R marks list (length before)) (write_numbers E R marks list (length before)) h

  pub write_untouched : 1 ≤ number_of r → after ≡ before
  write_untouched l =
      let (_, (_, same)) =
      judged_refused (write_rows E R marks list (length before)) (write_places E R marks list (length before)) (write_numbers E R marks list (length before)) h l in
      same

module _ (before : List ℕ) (n : ℕ) (bytes : List ℕ) (r : Result ℕ (Refusal ℕ)) (after : List ℕ) (h : Appends before n bytes r after) where
  pub append_exactly : (number place : ℕ) → 1 ≤ number → ((number_of r ≡ number) × (place_of r ≡ place)) ↔ Due (append_rows before n bytes) number place
  append_exactly = judged_exactly (append_rows before n bytes) (append_places before n bytes) (append_numbers before n bytes) h

  pub append_passed : (number_of r ≡ 0) ↔ Clear (append_rows before n bytes)
  append_passed = judged_clear (append_rows before n bytes) (append_places before n bytes) (append_numbers before n bytes) h

  pub append_untouched : 1 ≤ number_of r → after ≡ before
  append_untouched l =
      let (_, (_, same)) = judged_refused (append_rows before n bytes) (append_places before n bytes) (append_numbers before n bytes) h l in same
