-- The order of the refusals 7 and 8 after the reader's own, and the promise of a whole answer from its stages.
use Rattle.std.specs.Prelude.{Ok, Err}
use Prim.Native.Nat.{ℕ}
use native.Mathlib.Omega.{arith}
use mathlib.Core.Path.{◌≡◌, refl, sym, ap}
use mathlib.Core.Bool.{Bool, true, false, cond, ◌||◌}
use mathlib.Core.Logic.{inl, inr, ⊎_elim}
use mathlib.Core.List.{List, [], ◌∷◌}
use lib.ListN.{length}
use lib.Dec.{ltb}
use borrow.Author.Tests.{ltb-false, le-ltb}
use Rattle.rt0.specs.Completion.{Open}
use Rattle.rt0.specs.Sizes.{slip_bytes}
use Rattle.base.specs.Refused.{refusal_at}
use Rattle.base.specs.Refusals.{Row, Due, Clear, Applies, AllOnePlace, AllNumbered, refused, passed}
use Rattle.base.proofs.Flags.{or_false, Tells, or_tells_three, lt_tells, clash_flag}
use Rattle.base.proofs.Refusals.{due_first, due_later, clear_both, one_place_both, numbered_both, zero_place}
use Rattle.bundle.specs.declared.read.Sizes.{Sizes}
use Rattle.bundle.specs.declared.question.Question.{Question}
use Rattle.bundle.specs.Layout.{entities_of, names_of}
use Rattle.bundle.specs.Rows.{reader_rows, Reads, Accepts}
use Rattle.bundle.specs.Held.{holding_with}
use Rattle.bundle.specs.Question.{question_wrong, question_row, Asked}
use Rattle.bundle.proofs.Accepted.{accepted_contents}
use Rattle.bundle.proofs.Refusals.{reader_places, reader_numbers, reads_accepted}
use Rattle.bundle.proofs.Determined.{reads_refused}
use Rattle.bundle.proofs.Questions.{question_tells, asked_right}
use Rattle.answers.specs.Answer.{Outcome, refusal}
use Rattle.words.specs.Sizes.{table_words}
use Rattle.tables.specs.Promise.{Tables, tables, tables_wrong, TablesWith}
use Rattle.tables.proofs.Told.{refused_told}
use Rattle.search.specs.Promise.{Lent, lent, LentShort, lent_wrong, lent_row, search_rows, AnsweredWith, PromiseWith}
use Rattle.search.specs.Enough.{Enough}
use Rattle.search.specs.Concluded.{RefusedAs}

-- memory that is not too short is enough, and the other way round
pub lent_enough : (m : Lent) → lent_wrong m ≡ false → Enough m
lent_enough m h =
    let (both, slip) = or_false (tables_wrong (tables m.sure m.possible)) (ltb (length m.slip) slip_bytes) h in
    let (sure, possible) = or_false (ltb (length m.sure) table_words) (ltb (length m.possible) table_words) both in
    record {
      sure = ltb-false (length m.sure) table_words sure;
      possible = ltb-false (length m.possible) table_words possible;
      slip = ltb-false (length m.slip) slip_bytes slip;
    }

pub enough_right : (m : Lent) → Enough m → lent_wrong m ≡ false
enough_right m e =
    rw (
      le-ltb (length m.sure) table_words e.sure,
      le-ltb (length m.possible) table_words e.possible,
      le-ltb (length m.slip) slip_bytes e.slip,
    )

lent_tells : (m : Lent) → Tells (lent_wrong m) (LentShort m)
lent_tells m =
    or_tells_three _ _ _ (lt_tells (length m.sure) table_words) (lt_tells (length m.possible) table_words) (lt_tells (length m.slip) slip_bytes)

-- what the reader answered
pub refused_reader : (bytes : List ℕ) (wrong : Bool) (n p : ℕ) → Reads bytes (Err (refusal_at n p)) → RefusedAs bytes wrong (refusal n p)
refused_reader bytes wrong n p r = record { outcome = refl; due = inl (reads_refused bytes n p r) }

pub refused_question : (bytes : List ℕ) (s : Sizes) (wrong : Bool) → Reads bytes (Ok s) → wrong ≡ true → RefusedAs bytes wrong (refusal 7 0)
refused_question bytes s wrong r e = record { outcome = refl; due = inr ((reads_accepted bytes s r).clear, rw e, refl) }

pub refused_memory : (bytes : List ℕ) (s : Sizes) (wrong : Bool) → Reads bytes (Ok s) → wrong ≡ false → RefusedAs bytes wrong (refusal 8 0)
refused_memory bytes s wrong r e = record { outcome = refl; due = inr ((reads_accepted bytes s r).clear, rw e, refl) }

-- a question in range by block 0 is asked of an accepted bundle
pub asked_of : (bytes : List ℕ) (q : Question) (s : Sizes) → Accepts bytes s → question_wrong (entities_of bytes) (names_of bytes) q ≡ false → Asked bytes s q
asked_of bytes q s a w =
    let contents = accepted_contents bytes s a in
    let E : s.entities ≡ entities_of bytes = contents.entities in
    let R : s.names ≡ names_of bytes = contents.names in
    asked_right bytes s q a (rw (E, R) w)

module _ (bytes : List ℕ) (q : Question) (before : Lent) where
  -- the rows behind the reader's
  abbrev pub later : List Row
  later = question_row bytes q ∷ lent_row before ∷ []

  pub search_places : AllOnePlace (search_rows bytes q before)
  search_places = one_place_both (reader_rows bytes) later (reader_places bytes) (zero_place _, (zero_place _, tt))

  pub search_numbers : AllNumbered (search_rows bytes q before)
  search_numbers = numbered_both (reader_rows bytes) later (reader_numbers bytes) (omega arith, (omega arith, tt))

  abbrev outside : Bool
  outside = question_wrong (entities_of bytes) (names_of bytes) q

  in_range : outside ≡ false → Applies (question_row bytes q) → ⊥
  in_range h (_, (_, w)) = clash_flag ((question_tells (entities_of bytes) (names_of bytes) q).1 w) h

  pub enough_memory : lent_wrong before ≡ false → Applies (lent_row before) → ⊥
  enough_memory h (_, (_, w)) = clash_flag ((lent_tells before).1 w) h

  -- a wrong question, or else too little memory
  own_due : (wrong : Bool) (n p : ℕ) → wrong ≡ outside → (wrong || lent_wrong before) ≡ true → n ≡ cond wrong 7 8 → p ≡ 0 → Due later n p
  own_due true n p e h k z = inl (sym k, (z, (question_tells (entities_of bytes) (names_of bytes) q).0 (sym e)))
  own_due false n p e h k z = inr (in_range (sym e), inl (sym k, (z, (lent_tells before).0 h)))

  pub refused_rightly : (is_open : Open) (wrong : Bool) (o : Outcome) → wrong ≡ outside → (wrong || lent_wrong before) ≡ true
      → RefusedAs bytes wrong o → PromiseWith is_open bytes q before before o
  refused_rightly is_open wrong o e h r =
      refused
      (⊎_elim (λ d. due_first (reader_rows bytes) later o.number o.place d)
      (λ (clear, number, place). due_later (reader_rows bytes) later o.number o.place clear (own_due wrong o.number o.place e h number place))
      r.due)
      (record { outcome = r.outcome; untouched = refl })

  -- no row applies
  pub none_applies : (s : Sizes) → Accepts bytes s → outside ≡ false → lent_wrong before ≡ false → Clear (search_rows bytes q before)
  none_applies s a w m = clear_both (reader_rows bytes) later a.clear (in_range w, (enough_memory m, tt))

module _ (is_open : Open) (bytes : List ℕ) (q : Question) (sure possible slip : List ℕ) (enough : lent_wrong (lent sure possible slip) ≡ false) where
  -- the tables are refused by the reader alone
  pub refused_tables : (after : Tables) (number place : ℕ) → TablesWith is_open bytes (tables sure possible) after (Err (refusal_at number place))
      → PromiseWith is_open bytes q (lent sure possible slip) (lent after.sure after.possible slip) (refusal number place)
  refused_tables after number place p =
      let (both, _) = or_false (tables_wrong (tables sure possible)) (ltb (length slip) slip_bytes) enough in
      let (d, untouched) = refused_told is_open bytes (tables sure possible) after number place both p in
      refused (due_first (reader_rows bytes) (later bytes q (lent sure possible slip)) number place d)
      (record { outcome = refl; untouched = ap (λ (t : Tables). lent t.sure t.possible slip) untouched })

  pub answered_rightly : (s : Sizes) (after : Lent) (o : Outcome) → Accepts bytes s → question_wrong (entities_of bytes) (names_of bytes) q ≡ false
      → AnsweredWith (holding_with is_open bytes) q (lent sure possible slip) after o → PromiseWith is_open bytes q (lent sure possible slip) after o
  answered_rightly s after o a w r =
      let number : o.number ≡ 0 = ap (λ (x : Outcome). x.number) r.outcome in
      let place : o.place ≡ 0 = ap (λ (x : Outcome). x.place) r.outcome in
      passed number place (none_applies bytes q (lent sure possible slip) s a w enough) r
