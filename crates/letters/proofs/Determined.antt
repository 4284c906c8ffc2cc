-- The promises of reading and writing letters determine the answer and the buffer: of any two that keep them, both are equal.
use Rattle.std.specs.Prelude.{Result, Ok, Err}
use Rattle.base.specs.declared.refusal.Refusal.{Refusal}
use Rattle.base.specs.Refused.{number_of, place_of}
use Rattle.base.proofs.Refused.{refused_same}
use Prim.Native.Nat.{ℕ, ◌≤◌}
use native.Mathlib.Omega.{arith}
use mathlib.Core.Path.{◌≡◌, refl, ap, sym, ◌∙◌}
use mathlib.Core.List.{List}
use lib.ListN.{length}
use Rattle.base.specs.Refusals.{Row, AllOnePlace, AllNumbered, Clear, Judged, refused, passed}
use Rattle.base.proofs.Refusals.{due_unique, due_clear, due_number}
use Rattle.letters.specs.Lines.{text_of, records_of, credentials_in}
use Rattle.letters.specs.Rows.{read_rows, write_rows}
use Rattle.letters.specs.Promise.{front, Stored, Letter, Reads, Writes}
use Rattle.letters.proofs.Texts.{text_one}
use Rattle.letters.proofs.Reading.{in_range}
use Rattle.letters.proofs.Clear.{clear_read}
use Rattle.letters.proofs.Kept.{read_places, read_numbers, write_places, write_numbers}

-- a refusal is told by its number and place
same_refusal : (r t : Result ℕ (Refusal ℕ)) → 1 ≤ number_of r → number_of r ≡ number_of t → place_of r ≡ place_of t → r ≡ t
same_refusal (Ok a) t l e f = absurd (omega arith)
same_refusal (Err why) (Ok b) l e f = absurd (omega arith)
same_refusal (Err why) (Err other) l e f = refused_same _ _ e f

module _ (rows : List Row) (places : AllOnePlace rows) (numbers : AllNumbered rows) (before : List ℕ) (Given : Result ℕ (Refusal ℕ) → List ℕ → Type 0)
    (given : (r t : Result ℕ (Refusal ℕ)) (after other : List ℕ) → Clear rows → Given r after → Given t other → (r ≡ t) × (after ≡ other)) where
  judged_equal : (r t : Result ℕ (Refusal ℕ)) (after other : List ℕ) → Judged rows (number_of r) (place_of r) (after ≡ before) (Given r after)
      → Judged rows (number_of t) (place_of t) (other ≡ before) (Given t other) → (r ≡ t) × (after ≡ other)
  judged_equal r t after other (refused d k) (refused e l) =
      let (number, place) = due_unique rows places _ _ _ _ d e in
      (same_refusal r t (due_number rows numbers _ _ d) number place, k ∙ sym l)
  judged_equal r t after other (refused d k) (passed _ _ c _) = absurd (due_clear rows _ _ c d)
  judged_equal r t after other (passed _ _ c _) (refused d k) = absurd (due_clear rows _ _ c d)
  judged_equal r t after other (passed _ _ c g) (passed _ _ _ h) = given r t after other c g h

-- the same bytes stored
same_stored : (bytes others before : List ℕ) (r t : Result ℕ (Refusal ℕ)) (after other : List ℕ) → bytes ≡ others → Stored bytes before r after
    → Stored others before t other → (r ≡ t) × (after ≡ other)
same_stored bytes others before r t after other e (a, b) (c, d) = (
  a ∙ ap (λ (l : List ℕ). Ok (length l)) e ∙ sym c,
  b ∙ ap (λ (l : List ℕ). front l before) e ∙ sym d,
)

pub reads_equal : (E R : ℕ) (text before : List ℕ) (r t : Result ℕ (Refusal ℕ)) (after other : List ℕ) → Reads E R text before r after → Reads E R text before t other
    → (r ≡ t) × (after ≡ other)
reads_equal E R text before =
    judged_equal (read_rows E R text (length before)) (read_places E R text (length before)) (read_numbers E R text (length before)) before
    (λ r after. (letter : Letter E R text) × Stored (records_of letter.credentials) before r after)
    (λ r t after other clear (one, g) (two, h).
    let (a, b) = in_range E R (clear_read E R text (length before) clear).within in
    let same = text_one E R a b one.credentials two.credentials one.valid two.valid (sym one.text_is ∙ two.text_is) in
    same_stored (records_of one.credentials) (records_of two.credentials) before r t after other (ap records_of same) g h)

pub writes_equal : (E R : ℕ) (list before : List ℕ) (r t : Result ℕ (Refusal ℕ)) (after other : List ℕ) → Writes E R list before r after → Writes E R list before t other
    → (r ≡ t) × (after ≡ other)
writes_equal E R list before =
    judged_equal (write_rows E R list (length before)) (write_places E R list (length before)) (write_numbers E R list (length before)) before
    (λ r after. Stored (text_of (credentials_in list)) before r after)
    (λ r t after other _ g h. same_stored (text_of (credentials_in list)) (text_of (credentials_in list)) before r t after other refl g h)
