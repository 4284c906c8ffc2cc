-- The promises of the writer determine the answer and the buffer: of any two that keep them, both are equal.
use Rattle.base.proofs.Refused.{refused_same}
use Rattle.std.specs.Prelude.{Result, Ok, Err}
use Prim.Native.Nat.{ℕ}
use mathlib.Core.Path.{◌≡◌, sym, ap, ◌∙◌}
use mathlib.Core.List.{List}
use native.Mathlib.Omega.{arith}
use lib.ListN.{length}
use Rattle.base.specs.declared.refusal.Refusal.{Refusal}
use Rattle.base.specs.Refusals.{Row, AllOnePlace, AllNumbered, refused, passed}
use Rattle.base.proofs.Refusals.{due_unique, due_clear, due_number}
use Rattle.content.specs.Content.{Content, content_from}
use Rattle.writer.specs.Rows.{write_rows, append_rows}
use Rattle.writer.specs.Promise.{Leaves, Writes, longer, Appends}
use Rattle.writer.proofs.Tables.{write_places, write_numbers, append_places, append_numbers}

module _ (rows : List Row) (places : AllOnePlace rows) (numbers : AllNumbered rows) (c : Content) (before : List ℕ) where
  leaves_equal : (r t : Result ℕ (Refusal ℕ)) (after other : List ℕ) → Leaves rows c before r after → Leaves rows c before t other → (r ≡ t) × (after ≡ other)
  leaves_equal (Ok a) t after other (refused d _) q = absurd (omega (arith, due_number rows numbers 0 0 d))
  leaves_equal (Ok a) (Ok b) after other (passed _ _ x (e, f)) (refused d _) = absurd (omega (arith, due_number rows numbers 0 0 d))
  leaves_equal (Ok a) (Ok b) after other (passed _ _ x (e, f)) (passed _ _ y (g, h)) = (ap Ok (e ∙ sym g), f ∙ sym h)
  leaves_equal (Ok a) (Err why) after other (passed _ _ x (e, f)) (refused d _) = absurd (due_clear rows why.number why.place x d)
  leaves_equal (Ok a) (Err why) after other (passed _ _ x (e, f)) (passed _ _ y (g, h)) = absurd (omega arith)
  leaves_equal (Err why) t after other (passed _ _ x (e, f)) q = absurd (omega arith)
  leaves_equal (Err why) (Ok b) after other (refused d k) (refused e l) = absurd (omega (arith, due_number rows numbers 0 0 e))
  leaves_equal (Err why) (Ok b) after other (refused d k) (passed _ _ y g) = absurd (due_clear rows why.number why.place y d)
  leaves_equal (Err why) (Err its) after other (refused d (_, k)) (refused e (_, l)) =
      let (number, place) = due_unique rows places why.number why.place its.number its.place d e in
      (refused_same _ _ number place, k ∙ sym l)
  leaves_equal (Err why) (Err its) after other (refused d k) (passed _ _ y (g, h)) = absurd (omega arith)

pub writes_equal : (E R : ℕ) (marks list before : List ℕ) (r t : Result ℕ (Refusal ℕ)) (after other : List ℕ)
    → Writes E R marks list before r after → Writes E R marks list before t other → (r ≡ t) × (after ≡ other)
writes_equal E R marks list before =
    leaves_equal (write_rows E R marks list (length before)) (write_places E R marks list (length before))
    (write_numbers E R marks list (length before)) (content_from E R marks list) before

pub appends_equal : (before : List ℕ) (n : ℕ) (bytes : List ℕ) (r t : Result ℕ (Refusal ℕ)) (after other : List ℕ)
    → Appends before n bytes r after → Appends before n bytes t other → (r ≡ t) × (after ≡ other)
appends_equal before n bytes =
    leaves_equal (append_rows before n bytes) (append_places before n bytes) (append_numbers before n bytes) (longer before n bytes) before
