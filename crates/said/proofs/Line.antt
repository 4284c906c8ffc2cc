-- The line of an input by a table of refusals: rows behind the table of which none applies change nothing, and there is only one line.
use Prim.Native.Nat.{ℕ}
use mathlib.Core.Path.{◌≡◌, refl, sym, ap₂, ◌∙◌}
use mathlib.Core.Logic.{◌⊎◌, inl, inr}
use mathlib.Core.List.{List, ◌++◌}
use Rattle.base.specs.Refusals.{Row, Clear, Due, AllOnePlace}
use Rattle.base.proofs.Refusals.{due_unique, due_clear, due_split, clear_first}
use Rattle.answers.specs.Line.{refusal_line}
use Rattle.said.specs.Line.{LineBy, refuses, gives}

module _ (rows : List Row) (Given : List ℕ → Type 0) where
  -- what a table with further rows behind comes to, where none of those applies
  module _ (rest : List Row) (clear : Clear rest) where
    pub line_refused : (number place : ℕ) → Due (rows ++ rest) number place → LineBy rows Given (refusal_line number place)
    line_refused number place d = by (due_split rows rest number place d)
      where
        by : Due rows number place ⊎ (Clear rows × Due rest number place) → LineBy rows Given (refusal_line number place)
        by (inl e) = refuses number place e refl
        by (inr e) = absurd (due_clear rest number place clear e.1)

    pub line_given : {shown : List ℕ} → Clear (rows ++ rest) → Given shown → LineBy rows Given shown
    line_given c g = gives (clear_first rows rest c) g

  -- where each row applies at one place at most, and two given lines are equal, there is one line
  pub one_line : AllOnePlace rows → ((one two : List ℕ) → Given one → Given two → one ≡ two)
      → (one two : List ℕ) → LineBy rows Given one → LineBy rows Given two → one ≡ two
  one_line places same one two (refuses n p d e) (refuses m q f g) =
      let (number, place) = due_unique rows places n p m q d f in
      e ∙ ap₂ refusal_line number place ∙ sym g
  one_line places same one two (refuses n p d e) (gives c g) = absurd (due_clear rows n p c d)
  one_line places same one two (gives c g) (refuses n p d e) = absurd (due_clear rows n p c d)
  one_line places same one two (gives c g) (gives d h) = same one two g h
