-- The text of an input: it is that of what the text of all records promises; an input that is too long has the line of refusal 1 at 0; and no
-- input has two texts.
use Rattle.std.specs.Prelude.{Result, Ok, Err}
use Prim.Native.Nat.{ℕ, ◌-◌, ◌<◌, ◌≤◌, min}
use native.Mathlib.Decide.{dec_le}
use native.Mathlib.Omega.{arith}
use mathlib.Core.Path.{◌≡◌, refl, sym, ap, subst₂, ◌∙◌}
use mathlib.Core.Logic.{inl, inr}
use mathlib.Core.List.{List, [], ◌∷◌, append-nil}
use lib.ListN.{length, take, drop, length-drop, length-append}
use lib.Seq.{take_at, take_all, take-length}
use Rattle.base.specs.declared.refusal.Refusal.{Refusal}
use Rattle.base.specs.Refusals.{Row, Clear, refused, passed}
use Rattle.base.proofs.Refusals.{due_number, one_place_both, zero_place}
use Rattle.bundle.specs.Layout.{names_of}
use Rattle.bundle.specs.Rows.{reader_rows}
use Rattle.bundle.proofs.Refusals.{reader_places}
use Rattle.sheet.specs.Sheet.{sheet_row}
use Rattle.answers.specs.Line.{refusal_line}
use Rattle.said.specs.Line.{refuses}
use Rattle.said.proofs.Line.{line_refused, line_given, one_line}
use Rattle.asked.proofs.Input.{bundle_part}
use Rattle.lists.specs.Promise.{short_row}
use Rattle.listed.specs.declared.Listing.{Listing}
use Rattle.listed.specs.Listing.{ListsAllowed, Tells}
use Rattle.holder_lines.specs.Sizes.{holders_bytes}
use Rattle.holder_lines.specs.Promise.{HoldersGiven, HoldersLeft, holders_rows, HoldersPromise}
use Rattle.holder_lines.proofs.Promised.{given_once, some_text, holders_numbers}
use Rattle.holders.specs.Input.{sheet_bytes, longest_input, sheet_of, bundle_of}
use Rattle.holders.specs.Prints.{printed_rows, Prints}

-- the part before the start is the sheet, and the part from there on the bundle
pub asked : (input : List ℕ) (start : ℕ) (before after : List ℕ) (o : Result ℕ (Refusal ℕ)) → start ≡ min sheet_bytes (length input)
    → HoldersPromise (take (length input - start) (drop start input)) (take start input) before after o
    → HoldersPromise (bundle_of input) (sheet_of input) before after o
asked input start before after o s p =
    subst₂ (λ (bytes sheet : List ℕ). HoldersPromise bytes sheet before after o) (bundle_part sheet_bytes input start s)
    (ap (λ (n : ℕ). take n input) s ∙ take_most input sheet_bytes) p
  where
    take_most : (l : List ℕ) (n : ℕ) → take (min n (length l)) l ≡ take n l
    take_most l n = by (dec_le n (length l))
      where
        by : Dec (n ≤ length l) → take (min n (length l)) l ≡ take n l
        by (yes h) = let same : min n (length l) ≡ n = omega arith in rw same
        by (no h) =
            let same : min n (length l) ≡ length l = omega arith in
            rw same (take-length l ∙ sym (take_all n l (omega arith)))

module _ (input : List ℕ) where
  -- the row about memory
  module _ (before : List ℕ) (room : holders_bytes ≤ length before) where
    abbrev short : List Row
    short = short_row holders_bytes before ∷ []

    no_short : Clear short
    no_short = ((λ (_, (_, l)). omega arith), tt)

    left_front : {after : List ℕ} (n : ℕ) (g : HoldersLeft (bundle_of input) (sheet_of input) before after (Ok n)) → take n after ≡ g.shown
    left_front n g = ap (take n) g.written ∙ take_at g.shown _ n (sym g.length_said)

    pub prints_list : (after : List ℕ) (o : Result ℕ (Refusal ℕ)) (l : Listing) → HoldersPromise (bundle_of input) (sheet_of input) before after o → Tells o l
        → ListsAllowed after l (Prints input)
    prints_list after (Ok n) l (refused d k) t = absurd (omega (arith, due_number (holders_rows (bundle_of input) (sheet_of input) before) (holders_numbers (bundle_of input) (sheet_of input) before) 0 0 d))
    prints_list after (Ok n) l (passed _ _ c g) (size, line, problem) =
        record {
          inside = rw (size, g.written, length-append) (omega (arith, g.length_said));
          line = [];
          holds = line;
          allowed =
              rw (size, append-nil (take n after), left_front n g)
              (line_given (printed_rows input) (HoldersGiven (bundle_of input) (sheet_of input)) short no_short c g.given);
        }
    prints_list after (Err why) l (refused d k) (size, line, problem) =
        record {
          inside = omega arith;
          line = refusal_line why.number why.place;
          holds = line;
          allowed = rw size (line_refused (printed_rows input) (HoldersGiven (bundle_of input) (sheet_of input)) short no_short why.number why.place d);
        }
    prints_list after (Err why) l (passed _ _ c g) t =
        absurd (omega (arith, some_text (bundle_of input) (sheet_of input) g.shown g.given, g.length_said))

  pub prints_longer : longest_input < length input → Prints input (refusal_line 1 0)
  prints_longer long = refuses 1 0 (inl (refl, (refl, inr (inl (omega (arith, length-drop sheet_bytes input)))))) refl

  pub prints_once : (one two : List ℕ) → Prints input one → Prints input two → one ≡ two
  prints_once =
      one_line (printed_rows input) (HoldersGiven (bundle_of input) (sheet_of input))
      (one_place_both (reader_rows (bundle_of input)) (sheet_row (names_of (bundle_of input)) (sheet_of input) ∷ []) (reader_places (bundle_of input)) (zero_place _, tt))
      (given_once (bundle_of input) (sheet_of input))
