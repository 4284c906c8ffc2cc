-- How the text of all records is written: shelf by shelf, line by line, and then the last line; and how many records are counted.
use Rattle.std.specs.Prelude.{Option, Some, None}
use Prim.Native.Nat.{ℕ, zero, suc, ◌+◌, ◌-◌, ◌≤◌}
use native.Mathlib.Omega.{arith}
use native.Mathlib.Numerals.{add-one}
use mathlib.Core.Path.{◌≡◌, refl}
use mathlib.Core.List.{List}
use borrow.Author.Tests.{eq-eqb, ne_eqb}
use Rattle.rt0.specs.Word.{bit}
use Rattle.words.specs.Sizes.{most_entities}
use Rattle.text.specs.Ascii.{ascii, space, newline}
use Rattle.text.specs.Decimal.{decimal}
use Rattle.text.specs.Written.{Wrote}
use Rattle.text.proofs.Written.{wrote_none, wrote_more}
use Rattle.lines.specs.Text.{end_text}
use Rattle.holder_lines.specs.Text.{shelf_text, shelves_text, line_text, well_of, ill_of, lines_text, wells, ills, holders_text}
use Rattle.holder_lines.specs.Passing.{Passed}

-- ---- shelves

module _ (w i : ℕ) where
  pub shelf_there : {before between after : List ℕ} {at next last : ℕ} → bit w i ≡ 1 → Wrote before at space between next
      → Wrote between next (decimal (i + 1)) after last → Wrote before at (shelf_text w i) after last
  shelf_there e p q = rw (eq-eqb (bit w i) 1 e) (wrote_more p (rw (add-one i) at q))

  pub shelf_not : (before : List ℕ) (at : ℕ) → (bit w i ≡ 1 → ⊥) → Wrote before at (shelf_text w i) before at
  shelf_not before at n = rw (ne_eqb (bit w i) 1 n) (wrote_none before at)

  pub shelves_more : {before now after : List ℕ} {at next last : ℕ} → Wrote before at (shelves_text w i) now next
      → Wrote now next (shelf_text w i) after last → Wrote before at (shelves_text w (i + 1)) after last
  unfolding shelves_text
  shelves_more p q = rw (add-one i) (wrote_more p q)

pub shelves_none : (w : ℕ) (before : List ℕ) (at : ℕ) → Wrote before at (shelves_text w 0) before at
unfolding shelves_text
shelves_none w before at = wrote_none before at

-- ---- the line of a record

module _ (n : ℕ) (said : Option ℕ) {before : List ℕ} {at : ℕ} where
  pub line_well : (shelves : ℕ) → said ≡ Some shelves → {one two three after : List ℕ} {numbered well held last : ℕ}
      → Wrote before at (decimal n) one numbered → Wrote one numbered (ascii " WELL") two well
      → Wrote two well (shelves_text shelves most_entities) three held → Wrote three held newline after last
      → Wrote before at (line_text n said) after last
  line_well shelves e a b c d = rw e (wrote_more (wrote_more (wrote_more a b) c) d)

  pub line_ill : said ≡ None → {one after : List ℕ} {numbered last : ℕ} → Wrote before at (decimal n) one numbered
      → Wrote one numbered (ascii " ILL\n") after last → Wrote before at (line_text n said) after last
  line_ill e a b = rw e (wrote_more a b)

pub well_held : (said : Option ℕ) (shelves : ℕ) → said ≡ Some shelves → 1 ≡ well_of said
well_held said shelves e = rw e

pub well_ill : (said : Option ℕ) → said ≡ None → 0 ≡ well_of said
well_ill said e = rw e

-- ---- all lines

one_kind : (said : Option ℕ) → well_of said + ill_of said ≡ 1
one_kind (Some shelves) = refl
one_kind None = refl

pub few_well : (said : Option ℕ) → well_of said ≤ 1
few_well said = omega (arith, one_kind said)

module _ (said : ℕ → Option ℕ) where
  -- each record is counted once
  pub all_counted : (n : ℕ) → wells said n + ills said n ≡ n
  unfolding wells ills
  all_counted zero = refl
  all_counted (suc n) = omega (arith, all_counted n, one_kind (said (suc n)))

  pub passed_none : (before : List ℕ) → Passed said 0 before before 0 0
  unfolding lines_text wells
  passed_none before = record { wrote = wrote_none before 0; counted = refl }

  module _ (i : ℕ) {before now : List ℕ} {next well : ℕ} where
    pub passed_few : Passed said i before now next well → well ≤ i
    passed_few p = omega (arith, p.counted, all_counted i)

    pub passed_more : {after : List ℕ} {last one : ℕ} (answer : Option ℕ) → answer ≡ said (i + 1) → Passed said i before now next well
        → Wrote now next (line_text (i + 1) answer) after last → one ≡ well_of answer → Passed said (i + 1) before after last (well + one)
    unfolding lines_text wells
    passed_more {after} {last} {one} answer e p w o =
        let line : Wrote now next (line_text (suc i) (said (suc i))) after last = rw (e, add-one i) at w in
        let count : one ≡ well_of (said (suc i)) = rw (e, add-one i) at o in
        rw (add-one i) (record { wrote = wrote_more p.wrote line; counted = rw (p.counted, count) })

    -- and the last line
    pub passed_end : {after : List ℕ} {r ill : ℕ} (n : ℕ) → i ≡ n → ill ≡ n - well → Passed said i before now next well
        → Wrote now next (end_text well ill) after r → Wrote before 0 (holders_text said n) after r
    unfolding holders_text
    passed_end {after} {r} {ill} n e f p w =
        let count : well ≡ wells said n = rw (← e) p.counted in
        let others : ill ≡ ills said n = omega (arith, all_counted n) in
        let last : Wrote now next (end_text (wells said n) (ills said n)) after r = rw (count, others) at w in
        wrote_more (rw e at p.wrote) last
