-- From the stages' answer to the promise: what a refusal keeps, what is written otherwise, and what the table says where it lets a call pass.
use Rattle.std.specs.Prelude.{Result, Ok, Err}
use Prim.Native.Nat.{ℕ, suc, ◌+◌, ◌*◌, ◌%◌, ◌<◌, ◌≤◌}
use mathlib.Core.Path.{◌≡◌, refl, sym, ap, ◌∙◌, subst}
use mathlib.Core.Bool.{false}
use mathlib.Core.Logic.{inl, inr}
use mathlib.Core.List.{List, ◌++◌}
use native.Mathlib.Decide.{dec_lt, ℕ_discrete}
use native.Mathlib.Omega.{arith}
use lib.ListN.{length, take, length-take, get_or-eq_default}
use lib.Seq.{get_or-take}
use Rattle.base.specs.declared.refusal.Refusal.{Refusal}
use Rattle.base.specs.Refused.{refusal_at}
use Rattle.base.specs.Byte.{byte_at}
use Rattle.base.specs.Refusals.{Row, AllNumbered, Clear, refused, passed}
use Rattle.base.proofs.Flags.{or_false, not_true_false, inside}
use Rattle.base.proofs.Refusals.{due_number, clear_first, clear_later}
use Rattle.records.specs.Mistake.{record_wrong}
use Rattle.records.proofs.Mistakes.{right_record}
use Rattle.bundle.specs.Edition.{most_names}
use Rattle.bundle.specs.Layout.{entities_of, names_of, sizes_in, blocks_for}
use Rattle.bundle.specs.Rows.{reader_rows, Accepts}
use Rattle.content.specs.Content.{most_entities, Content, ValidContent, count, content_of, content_from, whole_records, marks_wrong}
use Rattle.content.specs.Encode.{size_of, written}
use Rattle.content.specs.InPlace.{StartsWith, PutLast}
use Rattle.content.proofs.Whole.{Small, count_said, size_said, one_encoding, byte_encode, valid_content}
use Rattle.content.proofs.Appending.{count_added, valid_added}
use Rattle.content.proofs.Listed.{count_given, record_given, twelve_given}
use Rattle.writer.specs.Rows.{JudgedAs, head_wrong, list_rows, room_rows, new_rows, write_rows, front_records, append_rows}
use Rattle.writer.specs.Promise.{Leaves, Writes, longer, Appends}
use Rattle.writer.proofs.Tables.{head_tells, clear_list, room_clear, new_clear, write_numbers, append_numbers}

-- a refusal is handed on, and nothing was touched
leaves_refused : (rows : List Row) (c : Content) (before : List ℕ) (n p m : ℕ) → 1 ≤ m → JudgedAs rows (Err (refusal_at n p)) m
    → Leaves rows c before (Err (refusal_at n p)) before
leaves_refused rows c before n p m l (refused d k) = refused d (refl, refl)
leaves_refused rows c before n p m l (passed _ _ _ e) = absurd (omega arith)

-- a length, where the content was written
leaves_written : (rows : List Row) → AllNumbered rows → (c : Content) (before after : List ℕ) (k m : ℕ) → m ≡ size_of c → JudgedAs rows (Ok k) m
    → after ≡ written c before → Leaves rows c before (Ok k) after
leaves_written rows numbered c before after k m same (refused d _) e = absurd (omega (arith, due_number rows numbered 0 0 d))
leaves_written rows numbered c before after k m same (passed z q d g) e = passed z q d (g ∙ same, e)

-- the same of an answer that was looked at
leaves_handed : (rows : List Row) (c : Content) (before : List ℕ) (r : Result ℕ (Refusal ℕ)) (n p m : ℕ) → 1 ≤ m → r ≡ Err (refusal_at n p) → JudgedAs rows r m
    → Leaves rows c before r before
leaves_handed rows c before r n p m l e h =
    subst (λ (x : Result ℕ (Refusal ℕ)). Leaves rows c before x before) (sym e) (leaves_refused rows c before n p m l (subst (λ (x : Result ℕ (Refusal ℕ)). JudgedAs rows x m) e h))

leaves_length : (rows : List Row) → AllNumbered rows → (c : Content) (before after : List ℕ) (r : Result ℕ (Refusal ℕ)) (k m : ℕ) → r ≡ Ok k → m ≡ size_of c
    → JudgedAs rows r m → after ≡ written c before → Leaves rows c before r after
leaves_length rows numbered c before after r k m e same h w =
    subst (λ (x : Result ℕ (Refusal ℕ)). Leaves rows c before x after) (sym e)
    (leaves_written rows numbered c before after k m same (subst (λ (x : Result ℕ (Refusal ℕ)). JudgedAs rows x m) e h) w)

-- no row applies where a length is answered
length_clear : (rows : List Row) → AllNumbered rows → (k m : ℕ) → JudgedAs rows (Ok k) m → Clear rows
length_clear rows numbered k m (refused d _) = absurd (omega (arith, due_number rows numbered 0 0 d))
length_clear rows numbered k m (passed _ _ c _) = c

passed_clear : (rows : List Row) → AllNumbered rows → (r : Result ℕ (Refusal ℕ)) (k m : ℕ) → r ≡ Ok k → JudgedAs rows r m → Clear rows
passed_clear rows numbered r k m e h = length_clear rows numbered k m (subst (λ (x : Result ℕ (Refusal ℕ)). JudgedAs rows x m) e h)

-- A new bundle.

pub record WriteClear (E R : ℕ) (marks list : List ℕ) (size : ℕ) : Type 0 where
  pub whole : length list % 12 ≡ 0
  pub few : whole_records list ≤ 240
  pub room : 512 * blocks_for (whole_records list) ≤ size
  pub valid : ValidContent (content_from E R marks list)

pub write_clear : (E R : ℕ) (marks list : List ℕ) (size : ℕ) → Clear (write_rows E R marks list size) → WriteClear E R marks list size
write_clear E R marks list size (one, (three, rest)) =
    let (few, room) = room_clear (whole_records list) size (clear_later (list_rows E R list) (room_rows (whole_records list) size) rest) in
    let right = clear_list E R list (clear_first (list_rows E R list) (room_rows (whole_records list) size) rest) in
    let head : head_wrong E R marks ≡ false = not_true_false (head_wrong E R marks) (λ h. three (0, (refl, (head_tells E R marks).0 h))) in
    let (numbers, marks_right) = or_false _ (marks_wrong E marks) head in
    let (entities, names) = or_false _ _ numbers in
    let (some_entity, entities_most) = inside most_entities E entities in
    let (some_name, names_most) = inside most_names R names in
    let many : count (content_from E R marks list) ≡ whole_records list = count_given E R marks list in
    record {
      whole = twelves (ℕ_discrete (length list % 12) 0);
      few = few;
      room = room;
      valid =
          record {
            some_entity = some_entity;
            entities_most = entities_most;
            some_name = some_name;
            names_most = names_most;
            right_marks = marks_right;
            records_most = omega arith;
            twelve = λ n l. rw (record_given E R marks list n (omega arith)) (twelve_given E R marks list n (omega arith));
            right_records = λ n l. rw (record_given E R marks list n (omega arith)) (right n (omega arith));
          };
    }
  where
    twelves : Dec (length list % 12 ≡ 0) → length list % 12 ≡ 0
    twelves (yes e) = e
    twelves (no n) = absurd (one (0, (refl, n)))

pub given_size : (E R : ℕ) (marks list : List ℕ) → 512 * blocks_for (whole_records list) ≡ size_of (content_from E R marks list)
given_size E R marks list = rw count_given refl

-- the stages' answer, handed on; what it lets pass; and the promise where all blocks were written
module _ (E R : ℕ) (marks list before : List ℕ) (r : Result ℕ (Refusal ℕ))
    (h : JudgedAs (write_rows E R marks list (length before)) r (512 * blocks_for (whole_records list))) where
  pub write_handed : (n p : ℕ) → r ≡ Err (refusal_at n p) → Writes E R marks list before r before
  write_handed n p e = leaves_handed (write_rows E R marks list (length before)) (content_from E R marks list) before r n p _ (omega arith) e h

  pub write_let : (k : ℕ) → r ≡ Ok k → WriteClear E R marks list (length before)
  write_let k e =
      write_clear E R marks list (length before)
      (passed_clear (write_rows E R marks list (length before)) (write_numbers E R marks list (length before)) r k _ e h)

  pub write_filled : (k : ℕ) (after : List ℕ) → r ≡ Ok k → after ≡ written (content_from E R marks list) before → Writes E R marks list before r after
  write_filled k after e w =
      leaves_length (write_rows E R marks list (length before)) (write_numbers E R marks list (length before)) (content_from E R marks list) before after r k _ e
      (given_size E R marks list) h w

-- One record more.

pub small_front : (buffer : List ℕ) (n : ℕ) → Small buffer → Small (take n buffer)
small_front buffer n small i = by (dec_lt i n)
  where
    by : Dec (i < n) → byte_at (take n buffer) i < 256
    by (yes l) = rw (get_or-take n buffer i 0 l) (small i)
    by (no l) =
        let nothing : byte_at (take n buffer) i ≡ 0 = get_or-eq_default (take n buffer) 0 (rw length-take (omega arith)) in
        omega arith

pub record AppendClear (buffer : List ℕ) (n : ℕ) (bytes : List ℕ) : Type 0 where
  pub within : n ≤ length buffer
  pub twelve : length bytes ≡ 12
  pub accepts : Accepts (take n buffer) (sizes_in (take n buffer))
  pub right : record_wrong (entities_of (take n buffer)) (names_of (take n buffer)) bytes ≡ false
  pub few : front_records buffer n < 240
  pub room : 512 * blocks_for (front_records buffer n + 1) ≤ length buffer

pub append_clear : (buffer : List ℕ) (n : ℕ) (bytes : List ℕ) → Clear (append_rows buffer n bytes) → AppendClear buffer n bytes
append_clear buffer n bytes (one, rest) =
    let front = take n buffer in
    let new = new_rows (entities_of front) (names_of front) (front_records buffer n) bytes in
    let last = room_rows (front_records buffer n + 1) (length buffer) in
    let later = clear_later (reader_rows front) (new ++ last) rest in
    let (few, room) = room_clear (front_records buffer n + 1) (length buffer) (clear_later new last later) in
    record {
      within = fits (dec_lt (length buffer) n);
      twelve = twelves (ℕ_discrete (length bytes) 12);
      accepts = record { clear = clear_first (reader_rows front) (new ++ last) rest; said = refl };
      right = (right_record (entities_of front) (names_of front) bytes).1
          (passed refl refl (new_clear (entities_of front) (names_of front) (front_records buffer n) bytes (clear_first new last later)) tt);
      few = omega arith;
      room = room;
    }
  where
    fits : Dec (length buffer < n) → n ≤ length buffer
    fits (yes l) = absurd (one (0, (refl, inl l)))
    fits (no l) = omega arith

    twelves : Dec (length bytes ≡ 12) → length bytes ≡ 12
    twelves (yes e) = e
    twelves (no e) = absurd (one (0, (refl, inr e)))

module _ (buffer : List ℕ) (n : ℕ) (bytes : List ℕ) (a : AppendClear buffer n bytes) where
  abbrev front : List ℕ
  front = take n buffer

  -- a byte of the front
  front_byte : (i : ℕ) → i < n → byte_at front i ≡ byte_at buffer i
  front_byte i l = get_or-take n buffer i 0 l

  pub front_size : n ≡ size_of (content_of front)
  front_size = omega (arith, size_said front (sizes_in front) a.accepts, length-take n buffer, a.within)

  front_count : count (content_of front) ≡ front_records buffer n
  front_count = count_said front (sizes_in front) a.accepts

  -- N stands in the buffer itself
  pub number_there : byte_at buffer 3 ≡ front_records buffer n
  number_there = sym (front_byte 3 (omega (arith, front_size)))

  pub longer_size : 512 * blocks_for (front_records buffer n + 1) ≡ size_of (longer buffer n bytes)
  longer_size =
      let many : count (longer buffer n bytes) ≡ front_records buffer n + 1 = omega (arith, count_added (content_of front) bytes, front_count) in
      rw many refl

  pub longer_valid : ValidContent (longer buffer n bytes)
  longer_valid =
      valid_added (content_of front) bytes (valid_content front (sizes_in front) a.accepts) (omega (arith, front_count, a.few)) a.twelve a.right

  -- there is room for one more
  pub append_ready : (byte_at buffer 3 < 240) × (512 * blocks_for (suc (byte_at buffer 3)) ≤ length buffer)
  append_ready =
      let next : suc (front_records buffer n) ≡ front_records buffer n + 1 = omega arith in
      (rw number_there a.few, rw (number_there, next) a.room)

  -- the buffer starts with the bytes of its content
  pub starts : Small buffer → StartsWith (content_of front) buffer
  starts small i l =
      sym (front_byte i (omega (arith, front_size)))
      ∙ ap (λ (x : List ℕ). byte_at x i) (one_encoding front (sizes_in front) a.accepts (small_front buffer n small))
      ∙ byte_encode (content_of front) i l

  -- what the stores leave is what is promised
  pub put_written : Small buffer → (after : List ℕ) → PutLast buffer bytes after → after ≡ written (longer buffer n bytes) buffer
  put_written small after h =
      h (content_of front) (omega (arith, front_count, a.few)) a.twelve (starts small) (omega (arith, longer_size, a.room))

-- the same of an append
module _ (buffer : List ℕ) (n : ℕ) (bytes : List ℕ) (r : Result ℕ (Refusal ℕ))
    (h : JudgedAs (append_rows buffer n bytes) r (512 * blocks_for (front_records buffer n + 1))) where
  pub append_handed : (number place : ℕ) → r ≡ Err (refusal_at number place) → Appends buffer n bytes r buffer
  append_handed number place e = leaves_handed (append_rows buffer n bytes) (longer buffer n bytes) buffer r number place _ (omega arith) e h

  pub append_let : (k : ℕ) → r ≡ Ok k → AppendClear buffer n bytes
  append_let k e = append_clear buffer n bytes (passed_clear (append_rows buffer n bytes) (append_numbers buffer n bytes) r k _ e h)

  pub append_put : (k : ℕ) (after : List ℕ) → r ≡ Ok k → Small buffer → PutLast buffer bytes after → Appends buffer n bytes r after
  append_put k after e small put =
      let clear = append_let k e in
      leaves_length (append_rows buffer n bytes) (append_numbers buffer n bytes) (longer buffer n bytes) buffer after r k _ e
      (longer_size buffer n bytes clear) h (put_written buffer n bytes clear small after put)
