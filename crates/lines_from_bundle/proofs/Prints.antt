-- The output of an input: it is that of what the reader refuses, or the lines of what it accepts; an input that is longer than any bundle has the
-- line of refusal 1 at 0; and no input has two.
use Rattle.std.specs.Prelude.{Result, Err}
use Prim.Native.Nat.{ℕ, ◌<◌, ◌≤◌}
use native.Mathlib.Omega.{arith}
use mathlib.Core.Path.{◌≡◌, refl, ap, sym, subst, ◌∙◌}
use mathlib.Core.Bool.{false}
use mathlib.Core.Logic.{inl, inr}
use mathlib.Core.List.{List}
use lib.ListN.{length, take, length-append}
use lib.Seq.{take_at}
use Rattle.base.specs.declared.refusal.Refusal.{Refusal}
use Rattle.base.specs.Refused.{refusal_at}
use Rattle.base.specs.Refusals.{refused, passed}
use Rattle.base.proofs.Flags.{inside_flag}
use Rattle.bundle.specs.declared.read.Sizes.{Sizes}
use Rattle.bundle.specs.Edition.{most_names}
use Rattle.bundle.specs.Layout.{longest_bundle}
use Rattle.bundle.specs.Rows.{reader_rows, Reads, Accepts}
use Rattle.bundle.specs.Held.{held}
use Rattle.bundle.proofs.Refusals.{reader_places}
use Rattle.bundle.proofs.Accepted.{accepted_contents, length_credentials}
use Rattle.bundle.proofs.Determined.{reads_refused}
use Rattle.text.specs.Written.{Wrote as WroteFrom}
use Rattle.text.proofs.Written.{wrote_text}
use Rattle.letters.specs.Lines.{text_of, records_of}
use Rattle.letters.specs.Rows.{out_of_range}
use Rattle.letters.specs.Promise.{Stored, Writes}
use Rattle.letters.proofs.Texts.{records_size}
use Rattle.letters.proofs.Back.{writes_text}
use Rattle.letters.proofs.Places.{text_short}
use Rattle.answers.specs.Line.{refusal_line}
use Rattle.said.specs.Line.{refuses}
use Rattle.said.proofs.Line.{one_line}
use Rattle.desk.specs.Answer.{most_place, Gives}
use Rattle.lines_from_bundle.specs.Gathered.{gathered}
use Rattle.lines_from_bundle.specs.Prints.{LinesFrom, Prints}
use Rattle.lines_from_bundle.proofs.Gathered.{gathered_is}

-- the reader's refusal
pub bundle_refused : (bytes text : List ℕ) (number place : ℕ) → place ≤ most_place → Reads bytes (Err (refusal_at number place))
    → Gives (reader_rows bytes) (LinesFrom bytes) text (Err (refusal_at number place))
bundle_refused bytes text number place low r = refused (reads_refused bytes number place r) low

module _ (bytes : List ℕ) (s : Sizes) (h : Accepts bytes s) where
  -- what block 0 says are bytes
  pub sizes_small : (s.entities < 256) × (s.names < 256)
  sizes_small = let c = accepted_contents bytes s h in (omega (arith, c.entities_most), omega (arith, c.names_most))

  -- the records were gathered
  module _ (before records : List ℕ) (n : ℕ) (room : 2880 ≤ length before) (w : WroteFrom before 0 (gathered bytes s.records) records n) where
    list_is : gathered bytes s.records ≡ records_of (held bytes)
    list_is = ap (gathered bytes) (accepted_contents bytes s h).records ∙ gathered_is bytes s h

    many : length (held bytes) ≡ s.records
    many = length_credentials bytes _ ∙ sym (accepted_contents bytes s h).records

    size : length (gathered bytes s.records) ≤ 2880
    size =
        let c = accepted_contents bytes s h in
        omega (arith, ap length list_is, records_size s.entities s.names (held bytes) c.valid, many, c.records_most)

    pub gathered_inside : n ≤ length records
    gathered_inside =
        let (e, long) = wrote_text w (omega (arith, size)) in
        rw (e, length-append) (omega arith)

    front : take n records ≡ records_of (held bytes)
    front =
        let (e, long) = wrote_text w (omega (arith, size)) in
        rw (e, long) (take_at (gathered bytes s.records) _ _ refl) ∙ list_is

    -- and their lines written
    pub bundle_lines : (text after : List ℕ) (answer : Result ℕ (Refusal ℕ)) → 9360 ≤ length text → Writes s.entities s.names (take n records) text answer after
        → Gives (reader_rows bytes) (LinesFrom bytes) after answer
    bundle_lines text after answer long wrote =
        let c = accepted_contents bytes s h in
        let E = s.entities in
        let R = s.names in
        let inside : out_of_range E R ≡ false = rw (inside_flag 32 E c.some_entity c.entities_most, inside_flag most_names R c.some_name c.names_most) refl in
        let short = text_short E R (omega (arith, c.entities_most)) (omega (arith, c.names_most)) (held bytes) c.valid in
        let few : length (held bytes) ≤ 240 = omega (arith, many, c.records_most) in
        given (omega (arith, short, few))
        (writes_text E R inside (held bytes) c.valid text after answer few (omega (arith, short, few)) (subst (λ (l : List ℕ). Writes E R l text answer after) front wrote))
      where
        given : length (text_of (held bytes)) ≤ length text → Stored (text_of (held bytes)) text answer after → Gives (reader_rows bytes) (LinesFrom bytes) after answer
        given fits (e, stored) =
            subst (Gives (reader_rows bytes) (LinesFrom bytes) after) (sym e)
            (passed refl refl h.clear
            record {
              size = length (text_of (held bytes));
              answer = refl;
              inside = rw (stored, length-append) (omega arith);
              given = rw stored (take_at (text_of (held bytes)) _ _ refl);
            })

pub prints_longer : (input : List ℕ) → longest_bundle < length input → Prints input (refusal_line 1 0)
prints_longer input long = refuses 1 0 (inl (refl, (refl, inr (inl long)))) refl

pub prints_once : (input one two : List ℕ) → Prints input one → Prints input two → one ≡ two
prints_once input = one_line (reader_rows input) (LinesFrom input) (reader_places input) (λ one two e f. e ∙ sym f)
