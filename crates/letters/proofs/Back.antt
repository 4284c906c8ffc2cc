-- Reading what was written gives the records back, and writing what was read gives the text back, byte for byte.
use Rattle.std.specs.Prelude.{Result, Ok}
use Prim.Native.Nat.{ℕ, ◌*◌, ◌<◌, ◌≤◌}
use native.Mathlib.Omega.{arith}
use mathlib.Core.Path.{◌≡◌, refl, ap, sym, subst, ◌∙◌}
use mathlib.Core.Bool.{false}
use mathlib.Core.List.{List, [], append-nil}
use lib.ListN.{length, take, drop}
use lib.Seq.{take_at}
use Rattle.rt0.specs.Credential.{Credential, AllValid}
use Rattle.base.specs.declared.refusal.Refusal.{Refusal}
use Rattle.base.specs.Refusals.{Clear, refused, passed}
use Rattle.base.proofs.Flags.{clash_flag}
use Rattle.base.proofs.Refusals.{due_clear, due_number, clear_both}
use Rattle.writer.specs.Rows.{list_rows}
use Rattle.writer.proofs.Tables.{list_clear}
use Rattle.spelling.specs.Line.{RightLine}
use Rattle.letters.specs.Lines.{text_of, records_of, credentials_in, line_count, line_at}
use Rattle.letters.specs.Rows.{out_of_range, read_rows, text_rows, write_rows}
use Rattle.letters.specs.Promise.{Stored, Reads, Writes}
use Rattle.letters.proofs.Reading.{range_tells, in_range}
use Rattle.letters.proofs.Clear.{ReadClear, clear_read, WriteClear, clear_write}
use Rattle.letters.proofs.Texts.{text_count, text_one, front_right, records_size}
use Rattle.letters.proofs.Listed.{count_back, credentials_back, records_right, valid_listed, records_listed}
use Rattle.letters.proofs.Kept.{read_numbers, write_numbers}

-- Reading the text of credentials.

module _ (E R : ℕ) (range : out_of_range E R ≡ false) (cs : List Credential) (v : AllValid E R cs) where
  read_clear : (size : ℕ) → length cs ≤ 240 → 12 * length cs ≤ size → Clear (read_rows E R (text_of cs) size)
  read_clear size few room = (
    λ (_, (_, out)). clash_flag ((range_tells E R).1 out) range,
    (
      λ (_, (k, _, first)). first.wrong (right k (omega (arith, first.there, text_count cs))),
      (λ (_, (_, many)). omega (arith, text_count cs), (λ (_, (_, short)). omega (arith, text_count cs), tt)),
    ),
  )
    where
      right : (k : ℕ) → k < length cs → RightLine E R (line_at (text_of cs) k)
      right k l = subst (λ (t : List ℕ). RightLine E R (line_at t k)) (append-nil (text_of cs)) (front_right E R cs [] v k l)

  -- it gives their records
  pub reads_records : (before after : List ℕ) (r : Result ℕ (Refusal ℕ)) → length cs ≤ 240 → 12 * length cs ≤ length before → Reads E R (text_of cs) before r after
      → Stored (records_of cs) before r after
  reads_records before after r few room (refused d _) = absurd (due_clear (read_rows E R (text_of cs) (length before)) _ _ (read_clear (length before) few room) d)
  reads_records before after r few room (passed _ _ _ (letter, stored)) =
      let (a, b) = in_range E R range in
      let same = text_one E R a b letter.credentials cs letter.valid v (sym letter.text_is) in
      subst (λ (ds : List Credential). Stored (records_of ds) before r after) same stored

  -- Writing their records gives their text.
  write_clear : (size : ℕ) → length cs ≤ 240 → length (text_of cs) ≤ size → Clear (write_rows E R (records_of cs) size)
  write_clear size few room =
      let text = ap (λ (ds : List Credential). length (text_of ds)) (credentials_back E R cs v) in (
        λ (_, (_, cut)). cut (omega (arith, records_size E R cs v)),
        (
          λ (_, (_, out)). clash_flag ((range_tells E R).1 out) range,
          clear_both (list_rows E R (records_of cs)) (text_rows (records_of cs) size) (list_clear E R (records_of cs) (records_right E R cs v))
              (λ (_, (_, many)). omega (arith, count_back E R cs v), (λ (_, (_, short)). omega (arith, text), tt)),
        ),
      )

  pub writes_text : (before after : List ℕ) (r : Result ℕ (Refusal ℕ)) → length cs ≤ 240 → length (text_of cs) ≤ length before → Writes E R (records_of cs) before r after
      → Stored (text_of cs) before r after
  writes_text before after r few room (refused d _) =
      absurd (due_clear (write_rows E R (records_of cs) (length before)) _ _ (write_clear (length before) few room) d)
  writes_text before after r few room (passed _ _ _ stored) =
      subst (λ (ds : List Credential). Stored (text_of ds) before r after) (credentials_back E R cs v) stored

-- what stands at the front of a buffer
front_is : (bytes before after : List ℕ) (n : ℕ) → Stored bytes before (Ok n) after → take n after ≡ bytes
front_is bytes before after n (e, f) =
    let size : n ≡ length bytes = cc in
    rw (f, size) (take_at bytes (drop (length bytes) before) (length bytes) refl)

-- reading what was written gives the records back
pub written_read : (E R : ℕ) (list before after : List ℕ) (n : ℕ) → Writes E R list before (Ok n) after
    → (room stored : List ℕ) (r : Result ℕ (Refusal ℕ)) → length list ≤ length room → Reads E R (take n after) room r stored → Stored list room r stored
written_read E R list before after n (refused d _) room stored r enough h =
    absurd (omega (arith, due_number (write_rows E R list (length before)) (write_numbers E R list (length before)) _ _ d))
written_read E R list before after n (passed _ _ clear said) room stored r enough h =
    let ready : WriteClear E R list (length before) = clear_write E R list (length before) clear in
    let cs = credentials_in list in
    let same = records_listed E R list ready.right ready.whole in
    let v = valid_listed E R list ready.right in
    let size : length list ≡ 12 * length cs = ap length (sym same) ∙ records_size E R cs v in
    let read = subst (λ (t : List ℕ). Reads E R t room r stored) (front_is (text_of cs) before after n said) h in
    subst (λ (bytes : List ℕ). Stored bytes room r stored) same
    (reads_records E R ready.within cs v room stored r (omega (arith, ready.few)) (omega arith) read)

-- writing what was read gives the text back
pub read_written : (E R : ℕ) (text before after : List ℕ) (n : ℕ) → Reads E R text before (Ok n) after
    → (room stored : List ℕ) (r : Result ℕ (Refusal ℕ)) → length text ≤ length room → Writes E R (take n after) room r stored → Stored text room r stored
read_written E R text before after n (refused d _) room stored r enough h =
    absurd (omega (arith, due_number (read_rows E R text (length before)) (read_numbers E R text (length before)) _ _ d))
read_written E R text before after n (passed _ _ clear (letter, said)) room stored r enough h =
    let ready : ReadClear E R text (length before) = clear_read E R text (length before) clear in
    let cs = letter.credentials in
    let count : line_count text ≡ length cs = ap line_count letter.text_is ∙ text_count cs in
    let wrote = subst (λ (l : List ℕ). Writes E R l room r stored) (front_is (records_of cs) before after n said) h in
    subst (λ (bytes : List ℕ). Stored bytes room r stored) (sym letter.text_is)
    (writes_text E R ready.within cs letter.valid room stored r (omega (arith, ready.few)) (omega (arith, ap length letter.text_is)) wrote)
