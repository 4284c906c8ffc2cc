-- The promise of the tables determines the answer and every word of both tables: two calls that keep it are taken apart side by side.
use Rattle.std.specs.Prelude.{Result, Ok, Err}
use Rattle.base.specs.declared.refusal.Refusal.{Refusal}
use Rattle.base.specs.Refused.{number_of, place_of}
use Rattle.base.proofs.Refused.{refused_same}
use Prim.Native.Nat.{ℕ, suc, ◌+◌, ◌-◌, ◌<◌}
use native.Mathlib.Numerals.{sub-one}
use native.Mathlib.Decide.{dec_lt}
use native.Mathlib.Omega.{arith}
use mathlib.Core.Path.{◌≡◌, sym, ap, ap₂, ◌∙◌}
use mathlib.Core.Logic.Iff
use mathlib.Core.Logic.{◌↔◌}
use mathlib.Core.List.{List, [], ◌∷◌}
use lib.ListN.{get_or}
use lib.Seq.{ext_get_or, get_or-drop}
use Rattle.rt0.specs.Credential.{IsEntity}
use Rattle.rt0.specs.Membership.{Assignment}
use Rattle.rt0.specs.Completion.{Open}
use Rattle.rt0.specs.Word.{bit}
use Rattle.rt0.proofs.Bits.{bits_same}
use Rattle.rt0.proofs.Shown.{place_of_lem}
use Rattle.rt0.proofs.Tables.{rounds_unique}
use Rattle.bundle.specs.declared.read.Sizes.{Sizes}
use Rattle.tables.specs.declared.Filled.{Filled}
use Rattle.words.specs.Sizes.{most_entities, width, table_words}
use Rattle.base.specs.Refusals.{Row, Clear, AllOnePlace, AllNumbered, Judged, refused, passed}
use Rattle.base.proofs.Refusals.{due_clear, due_number, due_unique, clear_first}
use Rattle.bundle.specs.Rows.{reader_rows}
use Rattle.bundle.specs.Held.{held}
use Rattle.bundle.proofs.Determined.{some_sizes}
use Rattle.tables.specs.Promise.{Tables, tables, TableLeft, short_row, table_rows, TablesRefused, TablesGiven, TablesWith, filled}
use Rattle.tables.proofs.Promised.{table_places, table_numbers}

-- two tables that the same promise leaves are equal: the first table_words words have the same bits, the others are as they were
module _ {P : Assignment} {before ws vs : List ℕ} (s : TableLeft P before ws) (t : TableLeft P before vs) where
  same_bits : (i d : ℕ) → i < table_words → d < 32 → (bit (get_or ws i 0) d ≡ 1) ↔ (bit (get_or vs i 0) d ≡ 1)
  same_bits i d h l =
      let (a, n, p) = place_of_lem most_entities width i h in
      let x : IsEntity most_entities (suc d) = omega arith in
      rw (sub-one (suc d), p) at (Iff.trans (s.shows _ _ (suc d) a n x) (Iff.symm (t.shows _ _ (suc d) a n x)))

  same_word : (i : ℕ) → Dec (i < table_words) → get_or ws i 0 ≡ get_or vs i 0
  same_word i (yes h) = bits_same 32 (get_or ws i 0) (get_or vs i 0) (s.small i) (t.small i) (λ d l. same_bits i d h l)
  same_word i (no h) =
      let e : table_words + (i - table_words) ≡ i = omega arith in
      simp (get_or-drop, e) at (ap (λ (l : List ℕ). get_or l (i - table_words) 0) (s.rest ∙ sym t.rest))

  pub table_same : ws ≡ vs
  table_same = ext_get_or 0 ws vs (s.size ∙ sym t.size) (λ i h. same_word i (dec_lt i table_words))

-- the answers and the tables that two calls leave are the same
abbrev pub Same : Result Filled (Refusal ℕ) → Tables → Result Filled (Refusal ℕ) → Tables → Type 0
Same one after_one two after_two = (one ≡ two) × (after_one ≡ after_two)

module _ (is_open : Open) (bytes : List ℕ) (before after_one after_two : Tables) where
  -- by any table of refusals that has the reader's
  module _ (rows : List Row) (places : AllOnePlace rows) (numbered : AllNumbered rows) (accepted : Clear rows → Clear (reader_rows bytes)) where
    pub judged_equal : (one two : Result Filled (Refusal ℕ))
        → Judged rows (number_of one) (place_of one) (TablesRefused before after_one one) (TablesGiven is_open bytes before after_one one)
        → Judged rows (number_of two) (place_of two) (TablesRefused before after_two two) (TablesGiven is_open bytes before after_two two)
        → Same one after_one two after_two
    judged_equal (Ok given) (Ok found) (passed _ _ c f) (passed _ _ d g) =
        let rounds = rounds_unique (held bytes) given.rounds found.rounds f.filled.rounds g.filled.rounds in
        let sizes : given.sizes ≡ found.sizes = f.sizes ∙ sym g.sizes in
        (ap₂ (λ (s : Sizes) (n : ℕ). Ok (filled s n)) sizes rounds, ap₂ tables (table_same f.filled.sure g.filled.sure) (table_same f.filled.possible g.filled.possible))
    judged_equal (Ok given) two (refused d k) q = absurd (omega (arith, due_number rows numbered 0 0 d))
    judged_equal (Ok given) (Ok found) (passed _ _ c f) (refused d k) =
        absurd (omega (arith, due_number rows numbered 0 0 d))
    judged_equal (Ok given) (Err why) (passed _ _ c f) (refused d k) = absurd (due_clear rows why.number why.place c d)
    judged_equal (Ok given) (Err why) (passed _ _ c f) (passed _ _ _ g) = absurd (some_sizes bytes (accepted c) g.sizes)
    judged_equal (Err why) two (passed _ _ c f) q = absurd (some_sizes bytes (accepted c) f.sizes)
    judged_equal (Err why) (Ok found) (refused d k) (refused e l) =
        absurd (omega (arith, due_number rows numbered 0 0 e))
    judged_equal (Err why) (Ok found) (refused d k) (passed _ _ c f) = absurd (due_clear rows why.number why.place c d)
    judged_equal (Err why) (Err other) (refused d k) (refused e l) =
        let (same, place) = due_unique rows places why.number why.place other.number other.place d e in
        (refused_same _ _ same place, k.untouched ∙ sym l.untouched)
    judged_equal (Err why) (Err other) (refused d k) (passed _ _ c f) = absurd (some_sizes bytes (accepted c) f.sizes)

  pub tables_determined : (one two : Result Filled (Refusal ℕ)) → TablesWith is_open bytes before after_one one → TablesWith is_open bytes before after_two two
      → Same one after_one two after_two
  tables_determined =
      judged_equal (table_rows bytes before) (table_places bytes before) (table_numbers bytes before)
      (clear_first (reader_rows bytes) (short_row before ∷ []))
