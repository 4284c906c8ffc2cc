-- No text is no records, and the other way round: of the texts and records of credentials, and of what is read and written.
use Rattle.std.specs.Prelude.{Result, Ok}
use Prim.Native.Nat.{ℕ}
use native.Mathlib.Omega.{arith}
use mathlib.Core.Path.{◌≡◌, refl, ap, sym, ◌∙◌}
use mathlib.Core.Bool.{false}
use mathlib.Core.List.{List, [], ◌∷◌}
use lib.ListN.{length, length-append}
use Rattle.rt0.specs.Credential.{Credential}
use Rattle.base.specs.declared.refusal.Refusal.{Refusal}
use Rattle.base.specs.Refusals.{refused, passed}
use Rattle.base.proofs.Refusals.{due_number}
use Rattle.spelling.specs.Line.{line_of}
use Rattle.letters.specs.Lines.{text_of, records_of, credentials_in}
use Rattle.letters.specs.Rows.{out_of_range, read_rows, write_rows}
use Rattle.letters.specs.Promise.{Reads, Writes}
use Rattle.letters.proofs.Clear.{WriteClear, clear_write}
use Rattle.letters.proofs.Cut.{line_some}
use Rattle.letters.proofs.Texts.{valid_none, records_size}
use Rattle.letters.proofs.Listed.{records_listed}
use Rattle.letters.proofs.Kept.{read_numbers, write_numbers}
use Rattle.letters.proofs.Back.{reads_records, writes_text}

-- the text of no credentials, and no others have it
pub no_text : text_of [] ≡ []
unfolding text_of
no_text = refl

no_credentials : (cs : List Credential) → length (text_of cs) ≡ 0 → cs ≡ []
unfolding text_of
no_credentials [] e = refl
no_credentials (c ∷ cs) e = absurd (omega (arith, line_some c, length-append (line_of c) (text_of cs)))

-- the same of their records
pub no_records : records_of [] ≡ []
unfolding records_of
no_records = refl

module _ (E R : ℕ) (before after : List ℕ) where
  -- no text is read as no records, and nothing is written
  pub read_none : out_of_range E R ≡ false → (r : Result ℕ (Refusal ℕ)) → Reads E R [] before r after → (r ≡ Ok 0) × (after ≡ before)
  unfolding text_of records_of
  read_none range r h = reads_records E R range [] (valid_none E R) before after r (omega arith) (omega arith) h

  -- only no text is
  pub none_read : (text : List ℕ) → Reads E R text before (Ok 0) after → text ≡ []
  none_read text (refused d _) = absurd (omega (arith, due_number (read_rows E R text (length before)) (read_numbers E R text (length before)) _ _ d))
  none_read text (passed _ _ _ (letter, (e, _))) =
      let size : 0 ≡ length (records_of letter.credentials) = cc in
      letter.text_is ∙ by letter.credentials (omega (arith, records_size E R letter.credentials letter.valid))
    where
      by : (cs : List Credential) → length cs ≡ 0 → text_of cs ≡ []
      by [] z = no_text
      by (c ∷ cs) z = absurd (omega arith)

  -- no records are written as no text
  pub write_none : out_of_range E R ≡ false → (r : Result ℕ (Refusal ℕ)) → Writes E R [] before r after → (r ≡ Ok 0) × (after ≡ before)
  unfolding text_of records_of
  write_none range r h = writes_text E R range [] (valid_none E R) before after r (omega arith) (omega arith) h

  -- only no records are
  pub none_written : (list : List ℕ) → Writes E R list before (Ok 0) after → list ≡ []
  none_written list (refused d _) = absurd (omega (arith, due_number (write_rows E R list (length before)) (write_numbers E R list (length before)) _ _ d))
  none_written list (passed _ _ clear (e, _)) =
      let ready : WriteClear E R list (length before) = clear_write E R list (length before) clear in
      let size : 0 ≡ length (text_of (credentials_in list)) = cc in
      sym (records_listed E R list ready.right ready.whole) ∙ ap records_of (no_credentials (credentials_in list) (sym size)) ∙ no_records
