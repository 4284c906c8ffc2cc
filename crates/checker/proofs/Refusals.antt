-- What the checker computes is what its table of refusals says; and any two answers that keep the promise are equal.
use Rattle.std.specs.Prelude.{Result, Ok, Err}
use Rattle.base.specs.declared.refusal.Refusal.{Refusal as Refused}
use Rattle.base.specs.Refused.{refusal_at, number_of, place_of}
use Rattle.base.proofs.Refused.{refused_same}
use Prim.Native.Nat.{ℕ, suc, ◌*◌, ◌/◌, ◌<◌, ◌≤◌}
use mathlib.Core.Path.{◌≡◌, refl, sym, ap, ◌∙◌}
use mathlib.Core.Bool.{Bool, true, false, cond, not}
use mathlib.Core.Logic.{◌↔◌, inl, inr, ⊎_elim}
use mathlib.Core.List.{List, [], ◌∷◌}
use native.Mathlib.Decide.{dec_lt}
use native.Mathlib.Omega.{arith}
use lib.ListN.{length}
use Rattle.rt0.specs.Credential.{Role, Credential, AllValid}
use Rattle.rt0.specs.Book.{Book, NamesOnly}
use Rattle.rt0.specs.Slip.{Line, ◌∋◌, Says, RightSlip, SlipFor}
use Rattle.rt0.specs.Bytes.{line_from, lines_of}
use Rattle.rt0.specs.Sizes.{slip_lines, slip_bytes}
use Rattle.rt0.proofs.SlipBytes.{lines_of_at}
use Rattle.base.specs.Lowest.{LowestBelow}
use Rattle.base.specs.Refusals.{Row, AllOnePlace, AllNumbered, OnePlace, FromOne, Finds, Due, Clear, Refusal, test, zero_if, lowest_from_one, given, clear, refused, passed, first}
use Rattle.base.proofs.Flags.{Tells, or_tells_three, eq_tells, lt_tells, not_tells, not_true_false, clash_flag}
use Rattle.base.proofs.Lowest.{Missed}
use Rattle.base.proofs.Refusals.{zero_place, from_one_place, zero_finds, lowest_finds_from_one, finds_as}
use Rattle.base.proofs.Refusals.{one_place_both, numbered_both, due_first, due_later, due_number, due_clear, due_unique}
use Rattle.base.proofs.Refusals.{judged_exactly, judged_clear}
use Rattle.base.proofs.Refusals.{Told, due, none_due, told_more, clear_both, clear_first, clear_later, none_missed, missed_no}
use Rattle.bundle.specs.declared.read.Sizes.{Sizes}
use Rattle.bundle.specs.declared.question.Question.{Question}
use Rattle.bundle.specs.Layout.{sizes_in}
use Rattle.bundle.specs.Rows.{reader_rows, Reads, Accepts}
use Rattle.bundle.specs.Reading.{read_of}
use Rattle.bundle.specs.Held.{book_in}
use Rattle.bundle.specs.Question.{role_asked, question_wrong, question_row}
use Rattle.bundle.proofs.Refusals.{reader_places, reader_numbers, reads, reads_accepted}
use Rattle.bundle.proofs.Determined.{reads_refused}
use Rattle.bundle.proofs.Accepted.{holding_sound}
use Rattle.bundle.proofs.Questions.{question_applies, question_clear}
use Rattle.checker.specs.Premise.{line_wrong}
use Rattle.checker.specs.Rows.{lines_in, SlipLengthWrong, Breaks, FirstBroken, slip_rows, checker_rows, Checks}
use Rattle.checker.specs.Checking.{slip_length_wrong, last_states, last_tests, line_tests, slip_tests, checked_for, check_by, check_after, checking_of}
use Rattle.checker.proofs.Answers.{slip_length_right}
use Rattle.checker.proofs.Rules.{line_at, line_right, slip_right, last_right}

-- only one line is the first that breaks the rules
broken_place : (book : Book) (lines : List Line) → OnePlace (FirstBroken book lines)
broken_place book lines p q a b = equal (dec_lt p q) (dec_lt q p)
  where
    equal : Dec (p < q) → Dec (q < p) → p ≡ q
    equal (yes l) _ = absurd (b.lowest p l a.breaks)
    equal (no m) (yes l) = absurd (a.lowest q l b.breaks)
    equal (no m) (no l) = omega arith

length_tells : (n : ℕ) → Tells (slip_length_wrong n) (SlipLengthWrong n)
length_tells n = or_tells_three _ _ _ (eq_tells n 0) (lt_tells slip_bytes n) (not_tells _ (eq_tells _ 0))

module _ (E R : ℕ) (cs : List Credential) (v : AllValid E R cs) (book : Book) (only : NamesOnly book cs) (slip : List ℕ) where
  -- a line of the slip breaks its rules exactly where its test holds
  breaks_wrong : (i : ℕ) → Breaks book (lines_in slip) i → (i < length slip / 8) × (line_wrong book slip i ≡ true)
  breaks_wrong i b =
      let (inside, same) = line_at slip (length slip / 8) i b.broken b.there in
      let right = line_right E R cs v book only slip (length slip / 8) i (omega arith) in
      (inside, by (line_wrong book slip i) refl (λ h. b.wrong (rw same (right.0 h))))
    where
      by : (w : Bool) → line_wrong book slip i ≡ w → (line_wrong book slip i ≡ false → ⊥) → w ≡ true
      by true e n = refl
      by false e n = absurd (n e)

  wrong_breaks : (i : ℕ) → i < length slip / 8 → line_wrong book slip i ≡ true → Breaks book (lines_in slip) i
  wrong_breaks i l h =
      record {
        broken = line_from slip (8 * i);
        there = lines_of_at slip i (length slip / 8) l;
        wrong = λ r. clash_flag h ((line_right E R cs v book only slip (length slip / 8) i (omega arith)).1 r);
      }

  -- so the lowest such line is the lowest whose test holds
  broken_lowest : (i : ℕ) → LowestBelow (line_wrong book slip) (length slip / 8) i ↔ FirstBroken book (lines_in slip) i
  broken_lowest i = (
    λ a. record {
      breaks = wrong_breaks i a.below a.holds;
      lowest = λ j l b. clash_flag (breaks_wrong j b).1 (a.lowest j l);
    },
    λ b. let (below, holds) = breaks_wrong i b.breaks in record {
      below = below;
      holds = holds;
      lowest = λ j l. not_true_false _ (λ h. b.lowest j l (wrong_breaks j (omega arith) h));
    },
  )

  -- all lines right, where no test holds
  all_right : Missed (line_wrong book slip) (length slip / 8) ↔ RightSlip book (lines_in slip)
  all_right = slip_right E R cs v book only slip (length slip / 8)

  lines_find : Finds (lowest_from_one (line_wrong book slip) (length slip / 8)) (FromOne (FirstBroken book (lines_in slip)))
  lines_find = finds_as _ (lowest_finds_from_one _ _) (λ p. (λ (k, e, a). (k, e, (broken_lowest k).0 a), λ (k, e, b). (k, e, (broken_lowest k).1 b)))

  module _ (ρ : Role) (D : ℕ) where
    last_tells : Missed (line_wrong book slip) (length slip / 8)
        → Tells (not (last_states book ρ D slip (length slip / 8)))
        (RightSlip book (lines_in slip) × (Says book (lines_in slip) (length (lines_in slip)) (ρ ∋ D) → ⊥))
    last_tells m =
        let states = not_tells (last_states book ρ D slip (length slip / 8)) (last_right book slip (length slip / 8) ρ D) in
        (λ h. (all_right.0 m, states.0 h), λ w. states.1 w.1)

    -- the tests of a slip tell its rows, in their order
    pub slip_told : Told (slip_rows book ρ D slip) (first (slip_tests book ρ D slip))
    unfolding slip_tests line_tests last_tests
    slip_told =
        told_more (test 9 (zero_if (slip_length_wrong (length slip)))) (line_tests book ρ D slip) _ _ refl (zero_finds _ (length_tells (length slip)))
        (λ _. told_more (test 10 (lowest_from_one (line_wrong book slip) (length slip / 8))) (last_tests book ρ D slip) _ _ refl lines_find
        (λ none. told_more (test 11 (zero_if (not (last_states book ρ D slip (length slip / 8))))) [] _ _ refl
        (zero_finds _ (last_tells (unbroken none))) (λ _. none_due tt)))
      where
        unbroken : ((place : ℕ) × FromOne (FirstBroken book (lines_in slip)) place → ⊥) → Missed (line_wrong book slip) (length slip / 8)
        unbroken none = none_missed _ _ (λ k a. none (suc k, (k, refl, (broken_lowest k).0 a)))

-- The whole answer.

module _ (bundle : List ℕ) (q : Question) (slip : List ℕ) where
  -- the rows behind the reader's
  abbrev pub later : List Row
  later = question_row bundle q ∷ slip_rows (book_in bundle) (role_asked q) q.person slip

  pub checker_numbers : AllNumbered (checker_rows bundle q slip)
  checker_numbers = numbered_both (reader_rows bundle) later (reader_numbers bundle) (omega arith, (omega arith, (omega arith, (omega arith, tt))))

  pub checker_places : AllOnePlace (checker_rows bundle q slip)
  checker_places =
      one_place_both (reader_rows bundle) later (reader_places bundle)
      (zero_place _, (zero_place _, (from_one_place _ (broken_place (book_in bundle) (lines_in slip)), (zero_place _, tt))))

  -- the reader's refusal
  pub reader_refused : (n p : ℕ) → Reads bundle (Err (refusal_at n p)) → Checks bundle q slip (Err (refusal_at n p))
  reader_refused n p r = refused (due_first (reader_rows bundle) later n p (reads_refused bundle n p r)) refl

  module _ (s : Sizes) (h : Accepts bundle s) where
    -- the question's
    pub question_refused : question_wrong s.entities s.names q ≡ true → Checks bundle q slip (Err (refusal_at 7 0))
    question_refused w =
        refused (due_later (reader_rows bundle) later 7 0 h.clear (inl (refl, question_applies bundle s q h w))) refl

    told_slip : Told (slip_rows (book_in bundle) (role_asked q) q.person slip) (first (slip_tests (book_in bundle) (role_asked q) q.person slip))
    told_slip = let sound = holding_sound bundle s h in slip_told _ _ _ sound.valid (book_in bundle) sound.numbered.only slip (role_asked q) q.person

    -- what the tests of the slip give
    pub slip_answered : (answer : Result ℕ (Refused ℕ)) → question_wrong s.entities s.names q ≡ false
        → answer ≡ check_by slip (slip_tests (book_in bundle) (role_asked q) q.person slip) → Checks bundle q slip answer
    unfolding check_by
    slip_answered answer w e = rw e (by (first (slip_tests (book_in bundle) (role_asked q) q.person slip)) told_slip)
      where
        by : (x : Refusal) → Told (slip_rows (book_in bundle) (role_asked q) q.person slip) x → Checks bundle q slip (checked_for slip x)
        by (given n p) (due d) =
            refused (due_later (reader_rows bundle) later n p h.clear (inr (question_clear bundle s q h w, d))) refl
        by clear (none_due c) =
            passed refl refl (clear_both (reader_rows bundle) later h.clear (question_clear bundle s q h w, c)) refl

  -- the computed answer keeps the promise
  pub checks : Checks bundle q slip (checking_of bundle q slip)
  unfolding check_after
  checks = by (read_of bundle) (reads bundle)
    where
      by : (r : Result Sizes (Refused ℕ)) → Reads bundle r → Checks bundle q slip (check_after r bundle q slip)
      by (Err why) r = reader_refused why.number why.place r
      by (Ok s) r = after (question_wrong s.entities s.names q) refl
        where
          accepts : Accepts bundle s
          accepts = reads_accepted bundle s r

          after : (w : Bool) → question_wrong s.entities s.names q ≡ w
              → Checks bundle q slip (cond w (Err (refusal_at 7 0)) (check_by slip (slip_tests (book_in bundle) (role_asked q) q.person slip)))
          after true e = question_refused s accepts e
          after false e = slip_answered s accepts _ e refl

  -- where no row on the slip applies it shows what is asked, and the other way round
  module _ (s : Sizes) (h : Accepts bundle s) where
    pub clear_slip : Clear (slip_rows (book_in bundle) (role_asked q) q.person slip)
        → (1 ≤ length slip / 8) × (length slip / 8 ≤ slip_lines) × (length slip ≡ 8 * (length slip / 8))
        × SlipFor (book_in bundle) (role_asked q) q.person (lines_of slip (length slip / 8))
    clear_slip (length_none, (line_none, (last_none, _))) =
        let sound = holding_sound bundle s h in
        let none_wrong : Missed (line_wrong (book_in bundle) slip) (length slip / 8) =
        none_missed _ _
        (λ k a. line_none (suc k, (k, refl, (broken_lowest _ _ _ sound.valid (book_in bundle) sound.numbered.only slip k).0 a))) in
        let right = (all_right _ _ _ sound.valid (book_in bundle) sound.numbered.only slip).0 none_wrong in
        let (some_line, most_lines, size) = slip_length_right (length slip) (not_true_false _ (λ w. length_none (0, (refl, (length_tells (length slip)).0 w)))) in
        (some_line, most_lines, size, record { right = right; last = by (last_states (book_in bundle) (role_asked q) q.person slip (length slip / 8)) refl right })
      where
        by : (w : Bool) → last_states (book_in bundle) (role_asked q) q.person slip (length slip / 8) ≡ w → RightSlip (book_in bundle) (lines_in slip)
            → Says (book_in bundle) (lines_in slip) (length (lines_in slip)) (role_asked q ∋ q.person)
        by true e right = (last_right (book_in bundle) slip (length slip / 8) (role_asked q) q.person).0 e
        by false e right =
            absurd (last_none (0, (refl, (right, λ says. clash_flag ((last_right (book_in bundle) slip (length slip / 8) (role_asked q) q.person).1 says) e))))

    pub slip_clear : (n : ℕ) → 1 ≤ n → n ≤ slip_lines → length slip ≡ 8 * n → SlipFor (book_in bundle) (role_asked q) q.person (lines_of slip n)
        → Clear (slip_rows (book_in bundle) (role_asked q) q.person slip)
    slip_clear n some_line most_lines size shown =
        let sound = holding_sound bundle s h in
        let lines : length slip / 8 ≡ n = omega arith in
        let all : SlipFor (book_in bundle) (role_asked q) q.person (lines_of slip (length slip / 8)) = rw lines shown in
        let missed = (all_right _ _ _ sound.valid (book_in bundle) sound.numbered.only slip).1 all.right in (
          λ (_, (_, w)). ⊎_elim (λ z. omega arith) (⊎_elim (λ l. omega arith) (λ uneven. uneven (omega arith))) w,
          (
            λ (_, (k, _, b)). missed_no _ _ k missed ((broken_lowest _ _ _ sound.valid (book_in bundle) sound.numbered.only slip k).1 b),
            (λ (_, (_, (_, other))). other all.last, tt),
          ),
        )

  -- a slip of no lines is not accepted
  some_lines : Clear (checker_rows bundle q slip) → 0 ≡ length slip / 8 → ⊥
  some_lines c e =
      let accepts : Accepts bundle (sizes_in bundle) = record { clear = clear_first (reader_rows bundle) later c; said = refl } in
      omega (arith, (clear_slip (sizes_in bundle) accepts (clear_later (reader_rows bundle) later c).1).0)

  -- two answers that keep the promise are equal
  pub answers_equal : (one two : Result ℕ (Refused ℕ)) → Checks bundle q slip one → Checks bundle q slip two → one ≡ two
  answers_equal (Ok m) (Ok n) (passed _ _ c e) (passed _ _ d f) = ap Ok (e ∙ sym f)
  answers_equal (Ok m) two (refused d k) p = absurd (omega (arith, due_number (checker_rows bundle q slip) checker_numbers 0 0 d))
  answers_equal (Ok m) (Ok n) (passed _ _ c e) (refused d k) =
      absurd (omega (arith, due_number (checker_rows bundle q slip) checker_numbers 0 0 d))
  answers_equal (Ok m) (Err why) (passed _ _ c e) (refused d k) = absurd (due_clear (checker_rows bundle q slip) why.number why.place c d)
  answers_equal (Ok m) (Err why) (passed _ _ c e) (passed _ _ _ f) = absurd (some_lines c f)
  answers_equal (Err why) two (passed _ _ c e) t = absurd (some_lines c e)
  answers_equal (Err why) (Ok m) (refused d k) (refused e l) =
      absurd (omega (arith, due_number (checker_rows bundle q slip) checker_numbers 0 0 e))
  answers_equal (Err why) (Ok m) (refused d k) (passed _ _ c e) = absurd (due_clear (checker_rows bundle q slip) why.number why.place c d)
  answers_equal (Err why) (Err other) (refused d k) (refused e l) =
      let (same, place) = due_unique (checker_rows bundle q slip) checker_places why.number why.place other.number other.place d e in
      refused_same _ _ same place
  answers_equal (Err why) (Err other) (refused d k) (passed _ _ c e) = absurd (some_lines c e)

  -- number and place exactly when due; number 0 exactly when no row applies
  pub checker_exactly : (c : Result ℕ (Refused ℕ)) → Checks bundle q slip c → (n p : ℕ) → 1 ≤ n
      → ((number_of c ≡ n) × (place_of c ≡ p)) ↔ Due (checker_rows bundle q slip) n p
  checker_exactly c = judged_exactly (checker_rows bundle q slip) checker_places checker_numbers

  pub checker_clear : (c : Result ℕ (Refused ℕ)) → Checks bundle q slip c → (number_of c ≡ 0) ↔ Clear (checker_rows bundle q slip)
  checker_clear c = judged_clear (checker_rows bundle q slip) checker_places checker_numbers
