-- The stages of the writer's tables: each answers at the first refusal that applies, and else hands on.
use Rattle.std.specs.Prelude.{Result, Ok, Err, Option}
use Prim.Native.Nat.{ℕ, suc, ◌+◌, ◌-◌, ◌*◌, ◌%◌, ◌<◌, ◌≤◌}
use mathlib.Core.Path.{◌≡◌, refl, sym, ap, ◌∙◌, subst}
use mathlib.Core.Bool.{Bool, true, false, not, ◌||◌, true≢false}
use mathlib.Core.Logic.{◌⊎◌, inl, inr}
use mathlib.Core.List.{List, ◌++◌}
use native.Mathlib.Decide.{dec_lt}
use native.Mathlib.Numerals.{add-one}
use native.Mathlib.Omega.{arith}
use lib.ListN.{length, take, drop}
use lib.Dec.{eqb, ltb}
use borrow.Author.Tests.{ltb-false}
use Rattle.base.specs.declared.refusal.Refusal.{Refusal}
use Rattle.base.specs.Refused.{refusal_at}
use Rattle.base.specs.Lowest.{LowestBelow, lowest}
use Rattle.base.specs.Refusals.{Row, row, AtZero, FromOne, Applies, AllOnePlace, AllNumbered, Clear, Due, refused, passed}
use Rattle.base.proofs.Parts.{found_part}
use Rattle.base.proofs.Flags.{Tells, or_false, or_tells, or_tells_three, outside_tells, flag_tells, lt_tells, eq_tells, not_tells, clash_flag}
use Rattle.base.proofs.Lowest.{Missed, lowest_is}
use Rattle.base.proofs.Refusals.{at_place, zero_place, lowest_place, lowest_there, missed_no, due_first, due_clear, one_place_both, numbered_both, judged_refused, judged_given}
use Rattle.base.proofs.Judging.{judged_more, judged_behind, Match, match_due, match_clear}
use Rattle.records.specs.Mistake.{SomeByte, mistake_rows, mistake_number, Mistaken, mistake_kind, kind_number}
use Rattle.records.specs.declared.mistake.Mistake.{Mistake}
use Rattle.records.proofs.Mistakes.{one_place, numbered, wrong_due, mistake_number_lem}
use Rattle.bundle.specs.declared.read.Sizes.{Sizes}
use Rattle.bundle.specs.Edition.{most_names}
use Rattle.bundle.specs.Layout.{entities_of, names_of, records_of, blocks_for}
use Rattle.bundle.specs.Rows.{reader_rows, Reads, Accepts}
use Rattle.bundle.proofs.Refusals.{reader_places, reader_numbers, reads_accepted}
use Rattle.bundle.proofs.Accepted.{accepted_contents}
use Rattle.bundle.proofs.Determined.{reads_refused}
use Rattle.content.specs.Content.{most_entities, marks_wrong, listed, whole_records}
use Rattle.writer.specs.Rows.{JudgedAs, room_rows, wrong_listed, LowestListed, list_rows, FlawBy, HeadWrong, head_wrong, write_rows, new_rows, front_records, append_rows}

-- Both calls, at last: more than 240 records, and a buffer that is too short.

module _ (count size : ℕ) where
  pub room_many : 240 < count → JudgedAs (room_rows count size) (Err (refusal_at 12 241)) (512 * blocks_for count)
  room_many l = refused (inl (refl, (refl, l))) refl

  pub room_short : count ≤ 240 → size < 512 * blocks_for count → JudgedAs (room_rows count size) (Err (refusal_at 13 0)) (512 * blocks_for count)
  room_short few l = refused (inr (λ (_, (_, many)). omega arith, inl (refl, (refl, l)))) refl

  pub room_enough : count ≤ 240 → 512 * blocks_for count ≤ size
      → JudgedAs (room_rows count size) (Ok (512 * blocks_for count)) (512 * blocks_for count)
  room_enough few l = passed refl refl (λ (_, (_, many)). omega arith, (λ (_, (_, short)). omega arith, tt)) refl

  room_places : AllOnePlace (room_rows count size)
  room_places = (at_place 241 _, (zero_place _, tt))

  room_numbers : AllNumbered (room_rows count size)
  room_numbers = (omega arith, (omega arith, tt))

  pub room_clear : Clear (room_rows count size) → (count ≤ 240) × (512 * blocks_for count ≤ size)
  room_clear (many, (short, _)) = (few (dec_lt 240 count), long (dec_lt size (512 * blocks_for count)))
    where
      few : Dec (240 < count) → count ≤ 240
      few (yes l) = absurd (many (241, (refl, l)))
      few (no l) = omega arith

      long : Dec (size < 512 * blocks_for count) → 512 * blocks_for count ≤ size
      long (yes l) = absurd (short (0, (refl, l)))
      long (no l) = omega arith

-- The records of a list: the lowest wrong one.

module _ (E R : ℕ) (list : List ℕ) where
  abbrev wrong : ℕ → Bool
  wrong = wrong_listed E R list

  -- the rows of record i where it is the lowest wrong one
  module _ (i : ℕ) (l : LowestBelow wrong (whole_records list) i) where
    here : (k : ℕ) → SomeByte E R (listed list i) k → (j : ℕ) × (i + 1 ≡ suc j) × LowestListed E R list k j
    here k s = (i, add-one i, record { lowest_wrong = l; some_byte = s })

    back : (k p j : ℕ) → p ≡ suc j → LowestListed E R list k j → SomeByte E R (listed list i) k
    back k p j e a = rw (← lowest_place wrong (whole_records list) j i a.lowest_wrong l) a.some_byte

    same_rows : Match (i + 1) (mistake_rows E R (listed list i)) (list_rows E R list)
    same_rows = (
      (refl, λ (_, (_, s)). here 0 s, λ (p, (j, e, a)). (0, (refl, back 0 p j e a))),
      (
        (refl, λ (_, (_, s)). here 1 s, λ (p, (j, e, a)). (0, (refl, back 1 p j e a))),
        (
          (refl, λ (_, (_, s)). here 2 s, λ (p, (j, e, a)). (0, (refl, back 2 p j e a))),
          (
            (refl, λ (_, (_, s)). here 3 s, λ (p, (j, e, a)). (0, (refl, back 3 p j e a))),
            ((refl, λ (_, (_, s)). here 4 s, λ (p, (j, e, a)). (0, (refl, back 4 p j e a))), tt),
          ),
        ),
      ),
    )

    list_due : Due (list_rows E R list) (kind_number (mistake_kind E R (listed list i))) (i + 1)
    list_due = match_due (i + 1) (mistake_rows E R (listed list i)) (list_rows E R list) _ 0 same_rows (wrong_due E R (listed list i) l.holds)

  -- no record is wrong
  none : Missed wrong (whole_records list) → (k : ℕ) → Applies (row (61 + k) (FromOne (LowestListed E R list k))) → ⊥
  none m k (p, (j, e, a)) = missed_no wrong (whole_records list) j m a.lowest_wrong

  pub list_clear : Missed wrong (whole_records list) → Clear (list_rows E R list)
  list_clear m = (none m 0, (none m 1, (none m 2, (none m 3, (none m 4, tt)))))

  pub clear_list : Clear (list_rows E R list) → Missed wrong (whole_records list)
  clear_list c = by (dec_lt (lowest wrong (whole_records list)) (whole_records list))
    where
      by : Dec (lowest wrong (whole_records list) < whole_records list) → Missed wrong (whole_records list)
      by (yes l) = absurd (due_clear (list_rows E R list) _ _ c (list_due _ (lowest_there wrong (whole_records list) l)))
      by (no l) = λ j b. (lowest_is wrong (whole_records list)).missed j (omega arith)

  pub list_places : AllOnePlace (list_rows E R list)
  list_places = (one 0, (one 1, (one 2, (one 3, (one 4, tt)))))
    where
      one : (k p q : ℕ) → (j : ℕ) × (p ≡ suc j) × LowestListed E R list k j → (j : ℕ) × (q ≡ suc j) × LowestListed E R list k j → p ≡ q
      one k p q (i, e, a) (j, f, b) = e ∙ ap suc (lowest_place wrong (whole_records list) i j a.lowest_wrong b.lowest_wrong) ∙ sym f

  pub list_numbers : AllNumbered (list_rows E R list)
  list_numbers = (omega arith, (omega arith, (omega arith, (omega arith, (omega arith, tt)))))

  -- what the code found
  pub list_flaw : (i number : ℕ) → i ≡ lowest wrong (whole_records list) → i < whole_records list
      → number ≡ kind_number (mistake_kind E R (listed list i)) → FlawBy E R list number (i + 1) false
  list_flaw i number e l f =
      let there : LowestBelow wrong (whole_records list) i = rw e (lowest_there wrong (whole_records list) (rw (← e) l)) in
      refused (rw f (list_due i there)) tt

  pub list_right : (i : ℕ) → i ≡ lowest wrong (whole_records list) → whole_records list ≤ i → FlawBy E R list 0 0 true
  list_right i e l = passed refl refl (list_clear (λ j b. (lowest_is wrong (whole_records list)).missed j (omega (arith, e)))) refl

  -- a flaw in front of other rows, and none
  pub list_refused : (ss : List Row) (m : ℕ) (why : Refusal ℕ) → FlawBy E R list why.number why.place false → JudgedAs (list_rows E R list ++ ss) (Err why) m
  list_refused ss m why (refused d _) = refused (due_first (list_rows E R list) ss why.number why.place d) refl
  list_refused ss m why (passed _ _ _ ok) = absurd (true≢false (sym ok))

  pub list_none : FlawBy E R list 0 0 true → Clear (list_rows E R list)
  list_none h = (judged_given (list_rows E R list) list_places list_numbers h refl).0

  pub list_passed : (ss : List Row) (m : ℕ) (r : Result ℕ (Refusal ℕ)) → FlawBy E R list 0 0 true
      → JudgedAs ss r m → JudgedAs (list_rows E R list ++ ss) r m
  list_passed ss m r h j = judged_behind (list_rows E R list) ss (list_none h) j

-- A new bundle.

pub head_tells : (E R : ℕ) (marks : List ℕ) → Tells (head_wrong E R marks) (HeadWrong E R marks)
head_tells E R marks = or_tells_three _ _ _ (outside_tells most_entities E) (outside_tells most_names R) (flag_tells (marks_wrong E marks))

module _ (E R : ℕ) (marks list : List ℕ) (size : ℕ) where
  pub write_cut : (length list % 12 ≡ 0 → ⊥) → JudgedAs (write_rows E R marks list size) (Err (refusal_at 1 0)) (512 * blocks_for (whole_records list))
  write_cut cut = refused (inl (refl, (refl, cut))) refl

  module _ (whole : length list % 12 ≡ 0) where
    pub write_head : head_wrong E R marks ≡ true → JudgedAs (write_rows E R marks list size) (Err (refusal_at 3 0)) (512 * blocks_for (whole_records list))
    write_head h = refused (inr (λ (_, (_, cut)). cut whole, inl (refl, (refl, (head_tells E R marks).0 h)))) refl

    pub write_list : (r : Result ℕ (Refusal ℕ)) → head_wrong E R marks ≡ false
        → JudgedAs (list_rows E R list ++ room_rows (whole_records list) size) r (512 * blocks_for (whole_records list))
        → JudgedAs (write_rows E R marks list size) r (512 * blocks_for (whole_records list))
    write_list r h j =
        judged_more _ _ (λ (_, (_, cut)). cut whole)
        (judged_more _ _ (λ (_, (_, w)). clash_flag ((head_tells E R marks).1 w) h) j)

  pub write_places : AllOnePlace (write_rows E R marks list size)
  write_places = (zero_place _, (zero_place _, one_place_both (list_rows E R list) (room_rows (whole_records list) size) (list_places E R list) (room_places (whole_records list) size)))

  pub write_numbers : AllNumbered (write_rows E R marks list size)
  write_numbers = (omega arith, (omega arith, numbered_both (list_rows E R list) (room_rows (whole_records list) size) (list_numbers E R list) (room_numbers (whole_records list) size)))

-- One record more.

module _ (E R N : ℕ) (bytes : List ℕ) where
  new_match : Match (N + 1) (mistake_rows E R bytes) (new_rows E R N bytes)
  new_match = (
    (refl, λ (_, (_, s)). (refl, s), λ (_, (_, s)). (0, (refl, s))),
    (
      (refl, λ (_, (_, s)). (refl, s), λ (_, (_, s)). (0, (refl, s))),
      (
        (refl, λ (_, (_, s)). (refl, s), λ (_, (_, s)). (0, (refl, s))),
        (
          (refl, λ (_, (_, s)). (refl, s), λ (_, (_, s)). (0, (refl, s))),
          ((refl, λ (_, (_, s)). (refl, s), λ (_, (_, s)). (0, (refl, s))), tt),
        ),
      ),
    ),
  )

  -- and the other way round
  old_match : Match 0 (new_rows E R N bytes) (mistake_rows E R bytes)
  old_match = (
    (refl, λ (_, (_, s)). (refl, s), λ (_, (_, s)). (N + 1, (refl, s))),
    (
      (refl, λ (_, (_, s)). (refl, s), λ (_, (_, s)). (N + 1, (refl, s))),
      (
        (refl, λ (_, (_, s)). (refl, s), λ (_, (_, s)). (N + 1, (refl, s))),
        (
          (refl, λ (_, (_, s)). (refl, s), λ (_, (_, s)). (N + 1, (refl, s))),
          ((refl, λ (_, (_, s)). (refl, s), λ (_, (_, s)). (N + 1, (refl, s))), tt),
        ),
      ),
    ),
  )

  pub new_refused : (ss : List Row) (m number : ℕ) (found : Option Mistake) → Mistaken E R bytes found → number ≡ mistake_number found → (number ≡ 0 → ⊥)
      → JudgedAs (new_rows E R N bytes ++ ss) (Err (refusal_at number (N + 1))) m
  new_refused ss m number found f e n =
      let (d, _) = judged_refused (mistake_rows E R bytes) (one_place E R bytes) (numbered E R bytes) f (omega arith) in
      refused (due_first (new_rows E R N bytes) ss number (N + 1) (match_due (N + 1) (mistake_rows E R bytes) (new_rows E R N bytes) number 0 new_match (rw e d))) refl

  pub new_passed : (ss : List Row) (m : ℕ) (found : Option Mistake) (r : Result ℕ (Refusal ℕ)) → Mistaken E R bytes found → mistake_number found ≡ 0
      → JudgedAs ss r m → JudgedAs (new_rows E R N bytes ++ ss) r m
  new_passed ss m found r f e h =
      let (c, _) = judged_given (mistake_rows E R bytes) (one_place E R bytes) (numbered E R bytes) f e in
      judged_behind (new_rows E R N bytes) ss (match_clear (N + 1) (mistake_rows E R bytes) (new_rows E R N bytes) new_match c) h

  pub new_clear : Clear (new_rows E R N bytes) → Clear (mistake_rows E R bytes)
  new_clear c = match_clear 0 (new_rows E R N bytes) (mistake_rows E R bytes) old_match c

  new_places : AllOnePlace (new_rows E R N bytes)
  new_places = let at = at_place (N + 1) in (at _, (at _, (at _, (at _, (at _, tt)))))

  new_numbers : AllNumbered (new_rows E R N bytes)
  new_numbers = (omega arith, (omega arith, (omega arith, (omega arith, (omega arith, tt)))))

-- the length is beyond the buffer, or the record has not twelve bytes
pub first_tells : (size n twelve : ℕ) → Tells (ltb size n || not (eqb twelve 12)) ((size < n) ⊎ (twelve ≡ 12 → ⊥))
first_tells size n twelve = or_tells _ _ (lt_tells size n) (not_tells _ (eq_tells twelve 12))

module _ (buffer : List ℕ) (n : ℕ) (bytes : List ℕ) where
  abbrev front : List ℕ
  front = take n buffer

  pub append_first : (m : ℕ) → (ltb (length buffer) n || not (eqb (length bytes) 12)) ≡ true → JudgedAs (append_rows buffer n bytes) (Err (refusal_at 1 0)) m
  append_first m h = refused (inl (refl, (refl, (first_tells (length buffer) n (length bytes)).0 h))) refl

  module _ (right : (ltb (length buffer) n || not (eqb (length bytes) 12)) ≡ false) where
    abbrev behind : List Row
    behind = new_rows (entities_of front) (names_of front) (front_records buffer n) bytes ++ room_rows (front_records buffer n + 1) (length buffer)

    passes : Applies (row 1 (AtZero ((length buffer < n) ⊎ (length bytes ≡ 12 → ⊥)))) → ⊥
    passes (_, (_, w)) = clash_flag ((first_tells (length buffer) n (length bytes)).1 w) right

    pub append_read : (m number place : ℕ) → Reads front (Err (refusal_at number place)) → JudgedAs (append_rows buffer n bytes) (Err (refusal_at number place)) m
    append_read m number place h = refused (inr (passes, due_first (reader_rows front) behind number place (reads_refused front number place h))) refl

    pub append_record : (s : Sizes) (r : Result ℕ (Refusal ℕ)) → Accepts front s
        → JudgedAs (new_rows s.entities s.names s.records bytes ++ room_rows (s.records + 1) (length buffer)) r (512 * blocks_for (s.records + 1))
        → JudgedAs (append_rows buffer n bytes) r (512 * blocks_for (front_records buffer n + 1))
    append_record s r a h =
        judged_more _ _ passes
        (judged_behind (reader_rows front) _ a.clear
        (subst
        (λ (t : Sizes). JudgedAs (new_rows t.entities t.names t.records bytes ++ room_rows (t.records + 1) (length buffer)) r (512 * blocks_for (t.records + 1)))
        a.said
        h))

module _ (buffer : List ℕ) (n : ℕ) (bytes : List ℕ) where
  abbrev its : List ℕ
  its = take n buffer

  abbrev new : List Row
  new = new_rows (entities_of its) (names_of its) (records_of its) bytes

  abbrev last : List Row
  last = room_rows (records_of its + 1) (length buffer)

  pub append_places : AllOnePlace (append_rows buffer n bytes)
  append_places = (
    zero_place _,
    one_place_both (reader_rows its) (new ++ last) (reader_places its)
        (one_place_both new last (new_places (entities_of its) (names_of its) (records_of its) bytes) (room_places (records_of its + 1) (length buffer))),
  )

  pub append_numbers : AllNumbered (append_rows buffer n bytes)
  append_numbers = (
    omega arith,
    numbered_both (reader_rows its) (new ++ last) (reader_numbers its)
        (numbered_both new last (new_numbers (entities_of its) (names_of its) (records_of its) bytes) (room_numbers (records_of its + 1) (length buffer))),
  )

-- What the code found.

-- the number of what is wrong with record i of a list
pub found_mistake : (E R : ℕ) (list : List ℕ) (i : ℕ) (found : Option Mistake) (number : ℕ)
    → Mistaken E R (take (12 * i + 12 - 12 * i) (drop (12 * i) list)) found → number ≡ mistake_number found
    → number ≡ kind_number (mistake_kind E R (listed list i))
found_mistake E R list i found number h e =
    found_part (λ (r : List ℕ). kind_number (mistake_kind E R r)) list (12 * i) 12 number (e ∙ mistake_number_lem E R _ found h)

-- the length is within the buffer
pub front_fits : (size n twelve : ℕ) → (ltb size n || not (eqb twelve 12)) ≡ false → n ≤ size
front_fits size n twelve h = ltb-false size n (or_false (ltb size n) _ h).0

-- the reader's answer where it accepts, and the number of records then
pub reads_front : (bytes : List ℕ) (s : Sizes) (r : Result Sizes (Refusal ℕ)) → r ≡ Ok s → Reads bytes r → Accepts bytes s
reads_front bytes s r e h = reads_accepted bytes s (subst (Reads bytes) e h)

pub front_few : (bytes : List ℕ) (s : Sizes) → Accepts bytes s → s.records ≤ 240
front_few bytes s a = (accepted_contents bytes s a).records_most
