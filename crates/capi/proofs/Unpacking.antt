-- What is packed comes back, so the promises of the search and of the tables, with or without a sheet, and of the checker hold of what a result
-- unpacks to; and two results that keep them agree as two answers of the search, of the tables or of the checker do.
use Rattle.std.specs.Prelude.{Result}
use Prim.Native.Nat.{ℕ}
use mathlib.Core.Path.{◌≡◌, sym, ap, subst, ◌∙◌}
use mathlib.Core.List.{List}
use Rattle.base.specs.declared.refusal.Refusal.{Refusal}
use Rattle.answers.specs.Answer.{Outcome}
use Rattle.answers.specs.Pack.{packed, unpacked, Packs}
use Rattle.answers.proofs.Packing.{packs_unpacked}
use Rattle.bundle.specs.declared.question.Question.{Question}
use Rattle.bundle.specs.Held.{open_of}
use Rattle.search.specs.Promise.{Lent, Promise}
use Rattle.search.specs.Agreement.{Agreement}
use Rattle.search.proofs.Determined.{promise_determines}
use Rattle.tables.specs.declared.Filled.{Filled}
use Rattle.tables.specs.Promise.{Tables, TablesPromise}
use Rattle.tables.proofs.Determined.{tables_determined}
use Rattle.with_sheet.specs.Promise.{SheetTables, SheetSearch}
use Rattle.with_sheet.proofs.Determined.{sheet_tables_determined, sheet_search_determines}
use Rattle.checker.specs.Rows.{Checks}
use Rattle.checker.proofs.Refusals.{answers_equal}
use Rattle.capi.specs.Packed.{PackedPromise, filled_outcome, PackedTables, checked_outcome, PackedCheck}

-- ---- the search

module _ (Promised : Outcome → Type 0) where
  pub packed_promise : (o : Outcome) (result : ℕ) → Packs o result → Promised o → PackedPromise Promised result
  packed_promise o result p promise =
      let back : unpacked result ≡ o = packs_unpacked o result p in
      record { packing = p.packing ∙ ap packed (sym back); promise = subst Promised (sym back) promise }

-- two results of the search agree in all but which lines a slip has, and how many
module _ (bytes : List ℕ) (q : Question) (before after_one after_two : Lent) (one two : ℕ) where
  pub results_agree : PackedPromise (Promise bytes q before after_one) one → PackedPromise (Promise bytes q before after_two) two
      → Agreement (unpacked one) after_one (unpacked two) after_two
  results_agree p r =
      promise_determines (open_of bytes) bytes q before after_one after_two (unpacked one) (unpacked two) p.promise r.promise

  -- and so with a sheet
  pub sheet_results_agree : (sheet : List ℕ) → PackedPromise (SheetSearch bytes sheet q before after_one) one
      → PackedPromise (SheetSearch bytes sheet q before after_two) two → Agreement (unpacked one) after_one (unpacked two) after_two
  sheet_results_agree sheet p r =
      sheet_search_determines bytes sheet q before after_one after_two (unpacked one) (unpacked two) p.promise r.promise

-- ---- the tables

module _ (Promised : Result Filled (Refusal ℕ) → Type 0) where
  pub packed_tables : (answer : Result Filled (Refusal ℕ)) (result : ℕ) → Packs (filled_outcome answer) result → Promised answer → PackedTables Promised result
  packed_tables answer result p promise = record { answer = answer; promise = promise; packing = p.packing }

packed_same : (one two : ℕ) (o p : Result Filled (Refusal ℕ)) → one ≡ packed (filled_outcome o) → two ≡ packed (filled_outcome p) → o ≡ p → one ≡ two
packed_same one two o p e f same = e ∙ ap (λ (x : Result Filled (Refusal ℕ)). packed (filled_outcome x)) same ∙ sym f

-- two results of the tables are the same number, and leave the same words
module _ (bundle : List ℕ) (before after_one after_two : Tables) (one two : ℕ) where
  pub tables_equal : PackedTables (TablesPromise bundle before after_one) one → PackedTables (TablesPromise bundle before after_two) two
      → (one ≡ two) × (after_one ≡ after_two)
  tables_equal p r =
      let (same, words) = tables_determined (open_of bundle) bundle before after_one after_two p.answer r.answer p.promise r.promise in
      (packed_same one two p.answer r.answer p.packing r.packing same, words)

  -- and so with a sheet
  pub sheet_tables_equal : (sheet : List ℕ) → PackedTables (SheetTables bundle sheet before after_one) one
      → PackedTables (SheetTables bundle sheet before after_two) two → (one ≡ two) × (after_one ≡ after_two)
  sheet_tables_equal sheet p r =
      let (same, words) = sheet_tables_determined bundle sheet before after_one after_two p.answer r.answer p.promise r.promise in
      (packed_same one two p.answer r.answer p.packing r.packing same, words)

-- ---- the check

pub packed_check : (bundle : List ℕ) (q : Question) (slip : List ℕ) (found answer : Result ℕ (Refusal ℕ)) (result : ℕ) → found ≡ answer
    → Checks bundle q slip found → Packs (checked_outcome answer) result → PackedCheck bundle q slip result
packed_check bundle q slip found answer result e checks p = record { answer = answer; checks = rw e at checks; packing = p.packing }

-- two results of the check are the same number
pub results_equal : (bundle : List ℕ) (q : Question) (slip : List ℕ) (one two : ℕ) → PackedCheck bundle q slip one → PackedCheck bundle q slip two
    → one ≡ two
results_equal bundle q slip one two p r =
    p.packing ∙ ap (λ (c : Result ℕ (Refusal ℕ)). packed (checked_outcome c)) (answers_equal bundle q slip p.answer r.answer p.checks r.checks)
    ∙ sym r.packing
