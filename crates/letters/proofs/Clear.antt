-- What it comes to that no row of a table of letters applies: E and R are in range, nothing is wrong, there are at most 240, and there is room.
use Prim.Native.Nat.{ℕ, ◌*◌, ◌%◌, ◌<◌, ◌≤◌}
use native.Mathlib.Omega.{arith}
use native.Mathlib.Decide.{dec_lt}
use mathlib.Core.Path.{◌≡◌, refl}
use mathlib.Core.Bool.{false}
use mathlib.Core.List.{List}
use lib.ListN.{length}
use Rattle.base.specs.Refusals.{AtPlace, AtZero, Clear}
use Rattle.base.proofs.Flags.{not_true_false}
use Rattle.base.proofs.Lowest.{Missed}
use Rattle.content.specs.Content.{whole_records}
use Rattle.writer.specs.Rows.{wrong_listed}
use Rattle.writer.proofs.Tables.{clear_list}
use Rattle.letters.specs.Lines.{text_of, credentials_in, line_count}
use Rattle.letters.specs.Rows.{OutOfRange, out_of_range, read_rows, write_rows}
use Rattle.letters.proofs.Reading.{range_tells}

-- one row that does not apply
range_clear : (E R : ℕ) → ((p : ℕ) × AtZero (OutOfRange E R) p → ⊥) → out_of_range E R ≡ false
range_clear E R none = not_true_false _ (λ out. none (0, (refl, (range_tells E R).0 out)))

at_most : (place most n : ℕ) → ((p : ℕ) × AtPlace place (most < n) p → ⊥) → n ≤ most
at_most place most n none = by (dec_lt most n)
  where
    by : Dec (most < n) → n ≤ most
    by (yes l) = absurd (none (place, (refl, l)))
    by (no l) = omega arith

whole_clear : (n : ℕ) → ((p : ℕ) × AtZero (n % 12 ≡ 0 → ⊥) p → ⊥) → n % 12 ≡ 0
whole_clear n none = by (dec_lt 0 (n % 12))
  where
    by : Dec (0 < n % 12) → n % 12 ≡ 0
    by (yes l) = absurd (none (0, (refl, λ z. omega arith)))
    by (no l) = omega arith

-- a text may be read
pub record ReadClear (E R : ℕ) (text : List ℕ) (size : ℕ) : Type 0 where
  pub within : out_of_range E R ≡ false
  pub few : line_count text ≤ 240
  pub room : 12 * line_count text ≤ size

pub clear_read : (E R : ℕ) (text : List ℕ) (size : ℕ) → Clear (read_rows E R text size) → ReadClear E R text size
clear_read E R text size (range, (_, (many, (short, _)))) =
    record { within = range_clear E R range; few = at_most 241 240 (line_count text) many; room = at_most 0 size (12 * line_count text) short }

-- a list of records may be written
pub record WriteClear (E R : ℕ) (list : List ℕ) (size : ℕ) : Type 0 where
  pub whole : length list % 12 ≡ 0
  pub within : out_of_range E R ≡ false
  pub right : Missed (wrong_listed E R list) (whole_records list)
  pub few : whole_records list ≤ 240
  pub room : length (text_of (credentials_in list)) ≤ size

pub clear_write : (E R : ℕ) (list : List ℕ) (size : ℕ) → Clear (write_rows E R list size) → WriteClear E R list size
clear_write E R list size (cut, (range, (a, (b, (c, (d, (e, (many, (short, _))))))))) =
    record {
      whole = whole_clear (length list) cut;
      within = range_clear E R range;
      right = clear_list E R list (a, (b, (c, (d, (e, tt)))));
      few = at_most 241 240 (whole_records list) many;
      room = at_most 0 size (length (text_of (credentials_in list))) short;
    }
