-- The answer to every bundle, sheet and number of a record by the table of refusals; and any two answers that keep the promise are equal.
use Rattle.std.specs.Prelude.{Option, Some, None, Result, Ok, Err}
use Rattle.base.specs.declared.refusal.Refusal.{Refusal}
use Rattle.base.specs.Refused.{refusal_at, number_of, place_of}
use Rattle.base.proofs.Refused.{refused_same}
use Prim.Native.Nat.{ℕ, suc, ◌-◌, ◌<◌, ◌≤◌}
use mathlib.Core.Path.{◌≡◌, refl, sym, ap, ◌∙◌}
use mathlib.Core.Bool.{Bool, true, false}
use mathlib.Core.Logic.{inl, inr, ◌↔◌}
use mathlib.Core.Option.{some-injective}
use mathlib.Core.List.{List, [], ◌∷◌}
use native.Mathlib.Numerals.{sub-one}
use native.Mathlib.Omega.{arith}
use Rattle.rt0.specs.Credential.{Credential, IsEntity}
use Rattle.rt0.specs.Word.{bit}
use Rattle.rt0.proofs.Bits.{bits_same}
use Rattle.base.specs.Range.{outside}
use Rattle.base.specs.Refusals.{Row, AllOnePlace, AllNumbered, Applies, Clear, Due, refused, passed}
use Rattle.base.proofs.Flags.{Tells, outside_tells, inside, clash_flag}
use Rattle.base.proofs.Refusals.{zero_place, one_place_both, numbered_both, due_first, due_later, due_clear, due_number, due_unique}
use Rattle.base.proofs.Refusals.{clear_both, judged_exactly, judged_clear}
use Rattle.bundle.specs.declared.read.Sizes.{Sizes}
use Rattle.bundle.specs.Layout.{names_of, records_of}
use Rattle.bundle.specs.Rows.{reader_rows, Reads, Accepts}
use Rattle.bundle.specs.Access.{record_of}
use Rattle.bundle.proofs.Refusals.{reader_places, reader_numbers}
use Rattle.bundle.proofs.Determined.{reads_refused}
use Rattle.records.specs.Form.{credential_of}
use Rattle.types.specs.Name.{Types}
use Rattle.sheet.specs.Sheet.{RightSheet, sheet_row}
use Rattle.sheet.specs.Types.{types_by}
use Rattle.words.specs.Sizes.{most_entities}
use Rattle.storage.specs.Shelves.{HeldOn}
use Rattle.storage.specs.Promise.{record_row, storage_rows, SaidOf, SaidOfRecord, StoragePromise}
use Rattle.storage.specs.Stored.{stored_for}
use Rattle.storage.proofs.Said.{record_said}

-- ---- the shelves of a credential are one word

held_same : (T : Types) (c : Credential) (v w : ℕ) → HeldOn T c v → HeldOn T c w → v ≡ w
held_same T c v w h k = bits_same most_entities v w h.small k.small at_bit
  where
    at : (A : ℕ) → IsEntity most_entities A → (bit v (A - 1) ≡ 1) ↔ (bit w (A - 1) ≡ 1)
    at A a = (λ b. (k.each A a).1 ((h.each A a).0 b), λ b. (h.each A a).1 ((k.each A a).0 b))

    at_bit : (d : ℕ) → d < most_entities → (bit v d ≡ 1) ↔ (bit w d ≡ 1)
    at_bit d l = rw (sub-one (suc d)) at (at (suc d) (omega arith))

-- what is said of a credential is one answer
said_same : (T : Types) (c : Credential) (one two : Option ℕ) → SaidOf T c one → SaidOf T c two → one ≡ two
said_same T c (Some v) (Some w) (_, h) (_, k) = ap Some (held_same T c v w h k)
said_same T c (Some v) None (t, _) n = absurd (n t)
said_same T c None (Some w) n (t, _) = absurd (n t)
said_same T c None None s t = refl

module _ (bundle sheet : List ℕ) (n : ℕ) where
  -- the rows behind the reader's
  abbrev later : List Row
  later = sheet_row (names_of bundle) sheet ∷ record_row bundle n ∷ []

  pub storage_numbers : AllNumbered (storage_rows bundle sheet n)
  storage_numbers = numbered_both (reader_rows bundle) later (reader_numbers bundle) (omega arith, (omega arith, tt))

  pub storage_places : AllOnePlace (storage_rows bundle sheet n)
  storage_places = one_place_both (reader_rows bundle) later (reader_places bundle) (zero_place _, (zero_place _, tt))

  -- the reader's refusal
  pub reader_refused : (m p : ℕ) → Reads bundle (Err (refusal_at m p)) → StoragePromise bundle sheet n (Err (refusal_at m p))
  reader_refused m p r = refused (due_first (reader_rows bundle) later m p (reads_refused bundle m p r)) tt

  module _ (s : Sizes) (h : Accepts bundle s) where
    -- the sheet's: it is right over the names of the bundle, or the row applies
    module _ (found : Bool) (tells : Tells found (RightSheet s.names sheet)) where
      not_right : found ≡ false → RightSheet (names_of bundle) sheet → ⊥
      not_right w r =
          let R : s.names ≡ names_of bundle = cc h.said in
          clash_flag (tells.1 (rw R r)) w

      sheet_clear : found ≡ true → Applies (sheet_row (names_of bundle) sheet) → ⊥
      sheet_clear w (_, (_, wrong)) =
          let R : s.names ≡ names_of bundle = cc h.said in
          wrong (rw R at (tells.0 w))

      pub sheet_refused : found ≡ false → StoragePromise bundle sheet n (Err (refusal_at 15 0))
      sheet_refused w = refused (due_later (reader_rows bundle) later 15 0 h.clear (inl (refl, (refl, not_right w)))) tt

      -- the record's
      pub record_refused : found ≡ true → outside s.records n ≡ true → StoragePromise bundle sheet n (Err (refusal_at 7 0))
      record_refused w o =
          let N : s.records ≡ records_of bundle = cc h.said in
          refused (due_later (reader_rows bundle) later 7 0 h.clear
          (inr (sheet_clear w, inl (refl, (refl, (outside_tells (records_of bundle) n).0 (rw (← N) o)))))) tt

      -- what is said of the record
      pub record_answered : found ≡ true → outside s.records n ≡ false → (answer : Option ℕ)
          → answer ≡ stored_for (types_by sheet) (credential_of (record_of bundle n)) → StoragePromise bundle sheet n (Ok answer)
      record_answered w o answer e =
          let N : s.records ≡ records_of bundle = cc h.said in
          let (low, high) = inside s.records n o in
          let said = record_said bundle sheet s h n low high answer e in
          let in_range : outside (records_of bundle) n ≡ false = rw (← N) o in
          passed refl refl
          (clear_both (reader_rows bundle) later h.clear
          (sheet_clear w, (λ a. clash_flag ((outside_tells (records_of bundle) n).1 a.1.1) in_range, tt)))
          said

  -- ---- one answer

  pub record_same : (one two : Option ℕ) → SaidOfRecord bundle sheet n one → SaidOfRecord bundle sheet n two → one ≡ two
  record_same one two s t =
      let same : s.credential ≡ t.credential = some-injective _ _ (sym s.there ∙ t.there) in
      said_same (types_by sheet) t.credential one two (rw same at s.said) t.said

  none_due : (p : ℕ) → Due (storage_rows bundle sheet n) 0 p → ⊥
  none_due p d = omega (arith, due_number (storage_rows bundle sheet n) storage_numbers 0 p d)

  pub answers_equal : (one two : Result (Option ℕ) (Refusal ℕ)) → StoragePromise bundle sheet n one → StoragePromise bundle sheet n two → one ≡ two
  answers_equal (Ok one) (Ok two) (passed _ _ _ s) (passed _ _ _ t) = ap Ok (record_same one two s t)
  answers_equal (Ok one) two (refused d _) q = absurd (none_due 0 d)
  answers_equal (Ok one) (Ok two) (passed _ _ _ s) (refused d _) = absurd (none_due 0 d)
  answers_equal (Ok one) (Err why) (passed _ _ c _) (refused d _) = absurd (due_clear (storage_rows bundle sheet n) _ _ c d)
  answers_equal (Ok one) (Err why) (passed _ _ _ s) (passed _ _ _ t) = absurd t
  answers_equal (Err why) two (passed _ _ _ s) q = absurd s
  answers_equal (Err why) (Ok two) (refused d _) (refused e _) = absurd (none_due 0 e)
  answers_equal (Err why) (Ok two) (refused d _) (passed _ _ c _) = absurd (due_clear (storage_rows bundle sheet n) _ _ c d)
  answers_equal (Err why) (Err other) (refused d _) (refused e _) =
      let (same, place) = due_unique (storage_rows bundle sheet n) storage_places why.number why.place other.number other.place d e in
      refused_same _ _ same place
  answers_equal (Err why) (Err other) (refused d _) (passed _ _ _ t) = absurd t

  -- number and place exactly when due; number 0 exactly when no row applies
  pub storage_exactly : (a : Result (Option ℕ) (Refusal ℕ)) → StoragePromise bundle sheet n a → (m p : ℕ) → 1 ≤ m
      → ((number_of a ≡ m) × (place_of a ≡ p)) ↔ Due (storage_rows bundle sheet n) m p
  storage_exactly a = judged_exactly (storage_rows bundle sheet n) storage_places storage_numbers

  pub storage_clear : (a : Result (Option ℕ) (Refusal ℕ)) → StoragePromise bundle sheet n a → (number_of a ≡ 0) ↔ Clear (storage_rows bundle sheet n)
  storage_clear a = judged_clear (storage_rows bundle sheet n) storage_places storage_numbers
