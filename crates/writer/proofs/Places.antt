-- A refusal of the writer has a number. The place of a write is bounded by the records of the list, that of an append is at most 241.
use Rattle.std.specs.Prelude.{Err}
use Prim.Native.Nat.{ℕ, ◌+◌, ◌≤◌}
use mathlib.Core.Path.{◌≡◌, refl}
use mathlib.Core.Logic.{inl, inr, ⊎_elim}
use mathlib.Core.List.{List, [], ◌∷◌, ◌++◌}
use native.Mathlib.Omega.{arith}
use lib.ListN.{length, take}
use Rattle.base.specs.Refused.{refusal_at}
use Rattle.base.specs.Refusals.{Row, FromOne, Due, Clear, AllNumbered, refused, passed}
use Rattle.base.proofs.Refusals.{due_number, due_split}
use Rattle.bundle.specs.Layout.{entities_of, names_of, sizes_in}
use Rattle.bundle.specs.Rows.{reader_rows}
use Rattle.bundle.proofs.Accepted.{accepted_contents}
use Rattle.bundle.proofs.Places.{reader_place}
use Rattle.content.specs.Content.{Content, content_from, whole_records}
use Rattle.writer.specs.Rows.{LowestListed, room_rows, write_rows, new_rows, front_records, append_rows}
use Rattle.writer.specs.Promise.{Leaves, Writes, longer, Appends}
use Rattle.writer.proofs.Tables.{write_numbers, append_numbers}

-- every row applies at this place at most
abbrev Within : ℕ → List Row → Type 0
Within most [] = Unit {0}
Within most (r ∷ rs) = ((p : ℕ) → r.At p → p ≤ most) × Within most rs

due_within : (most : ℕ) (rs : List Row) (number place : ℕ) → Within most rs → Due rs number place → place ≤ most
due_within most [] number place w d = absurd d
due_within most (r ∷ rs) number place (w, ws) (inl (_, at)) = w place at
due_within most (r ∷ rs) number place (w, ws) (inr (_, d)) = due_within most rs number place ws d

within_both : (most : ℕ) (rs ss : List Row) → Within most rs → Within most ss → Within most (rs ++ ss)
within_both most [] ss v w = w
within_both most (r ∷ rs) ss (v, vs) w = (v, within_both most rs ss vs w)

-- a refusal is one that is due
module _ (rows : List Row) (numbers : AllNumbered rows) (c : Content) (before after : List ℕ) (number place : ℕ)
    (h : Leaves rows c before (Err (refusal_at number place)) after) where
  its_due : Due rows number place
  its_due = by h
    where
      by : Leaves rows c before (Err (refusal_at number place)) after → Due rows number place
      by (refused d _) = d
      by (passed _ _ _ (e, _)) = absurd (omega arith)

  its_number : 1 ≤ number
  its_number = due_number rows numbers number place its_due

room_within : (most count size : ℕ) → 241 ≤ most → Within most (room_rows count size)
room_within most count size l = (λ p (e, _). omega arith, (λ p (e, _). omega arith, tt))

-- A new bundle.

module _ (E R : ℕ) (marks list before after : List ℕ) (number place : ℕ) (h : Writes E R marks list before (Err (refusal_at number place)) after) where
  pub write_number : 1 ≤ number
  write_number =
      its_number (write_rows E R marks list (length before)) (write_numbers E R marks list (length before)) (content_from E R marks list) before after number place h

  pub write_place : (most : ℕ) → 241 ≤ most → whole_records list ≤ most → place ≤ most
  write_place most l m =
      due_within most (write_rows E R marks list (length before)) number place
      (zero, (zero, (each 0, (each 1, (each 2, (each 3, (each 4, room_within most (whole_records list) (length before) l)))))))
      (its_due (write_rows E R marks list (length before)) (write_numbers E R marks list (length before)) (content_from E R marks list) before after number place h)
    where
      zero : {P : Type 0} (p : ℕ) → (p ≡ 0) × P → p ≤ most
      zero p (e, _) = omega arith

      each : (k p : ℕ) → FromOne (LowestListed E R list k) p → p ≤ most
      each k p (j, e, a) = omega (arith, e, a.lowest_wrong.below)

-- One record more.

module _ (before : List ℕ) (n : ℕ) (bytes after : List ℕ) (number place : ℕ) (h : Appends before n bytes (Err (refusal_at number place)) after) where
  pub append_number : 1 ≤ number
  append_number = its_number (append_rows before n bytes) (append_numbers before n bytes) (longer before n bytes) before after number place h

  abbrev front : List ℕ
  front = take n before

  -- the rows behind the reader's
  abbrev new : List Row
  new = new_rows (entities_of front) (names_of front) (front_records before n) bytes

  abbrev room : List Row
  room = room_rows (front_records before n + 1) (length before)

  few : Clear (reader_rows front) → front_records before n ≤ 240
  few clear = (accepted_contents front (sizes_in front) (record { clear = clear; said = refl })).records_most

  later_within : front_records before n ≤ 240 → Within 241 (new ++ room)
  later_within l = within_both 241 new room (next, (next, (next, (next, (next, tt))))) (room_within 241 (front_records before n + 1) (length before) (omega arith))
    where
      next : {P : Type 0} (p : ℕ) → (p ≡ front_records before n + 1) × P → p ≤ 241
      next p (e, _) = omega arith

  -- the first row, the reader's, and those behind them where the reader accepts
  by_row : Due (append_rows before n bytes) number place → place ≤ 241
  by_row (inl (_, (e, _))) = omega arith
  by_row (inr (_, d)) =
      ⊎_elim (λ e. omega (arith, reader_place front number place e)) (λ (clear, e). due_within 241 (new ++ room) number place (later_within (few clear)) e)
      (due_split (reader_rows front) (new ++ room) number place d)

  pub append_place : place ≤ 241
  append_place = by_row (its_due (append_rows before n bytes) (append_numbers before n bytes) (longer before n bytes) before after number place h)
