-- With a sheet, unless refused: YES exactly if RT0's least membership over the credentials held contains the person; NO exactly if they are no
-- member and no further credentials for open roles could make them one; UNSURE in every other case. The same theorem as without a sheet, at
-- another test of open roles.
use Prim.Native.Nat.{ℕ}
use native.Mathlib.Omega.{arith}
use mathlib.Core.Path.{◌≡◌}
use mathlib.Core.Logic.{◌↔◌}
use mathlib.Core.List.{List, [], ◌∷◌}
use Rattle.rt0.specs.Membership.{Member}
use Rattle.rt0.specs.Completion.{No, Unsure, YES, NO, UNSURE}
use Rattle.base.specs.Refusals.{Row}
use Rattle.base.proofs.Refusals.{judged_given, one_place_both, numbered_both, zero_place}
use Rattle.bundle.specs.declared.question.Question.{Question}
use Rattle.bundle.specs.Layout.{entities_of, names_of}
use Rattle.bundle.specs.Rows.{reader_rows}
use Rattle.bundle.specs.Held.{held, holding_with}
use Rattle.bundle.specs.Question.{role_asked, question_row}
use Rattle.bundle.proofs.Refusals.{reader_places, reader_numbers}
use Rattle.sheet.specs.Sheet.{sheet_row}
use Rattle.answers.specs.Answer.{Outcome}
use Rattle.search.specs.Promise.{Lent, lent_row, AnsweredWith}
use Rattle.with_sheet.specs.Open.{open_by_sheet}
use Rattle.with_sheet.specs.Promise.{rows_with, SheetSearch}
use Rattle.demands.proofs.Words.{word_exactly}

module _ (bytes sheet : List ℕ) (q : Question) (before after : Lent) (o : Outcome) (p : SheetSearch bytes sheet q before after o)
    (unrefused : o.number ≡ 0) where
  abbrev later : List Row
  later = question_row bytes q ∷ lent_row before ∷ []

  abbrev behind : List Row
  behind = sheet_row (names_of bytes) sheet ∷ later

  answer : AnsweredWith (holding_with (open_by_sheet sheet bytes) bytes) q before after o
  answer =
      (judged_given (rows_with bytes sheet later)
      (one_place_both (reader_rows bytes) behind (reader_places bytes) (zero_place _, (zero_place _, (zero_place _, tt))))
      (numbered_both (reader_rows bytes) behind (reader_numbers bytes) (omega arith, (omega arith, (omega arith, tt))))
      p unrefused).1

  pub sheet_yes_exactly : (o.verdict ≡ 1) ↔ Member (held bytes) (role_asked q) q.person
  sheet_yes_exactly = word_exactly answer YES

  pub sheet_no_exactly : (o.verdict ≡ 2) ↔ No (entities_of bytes) (names_of bytes) (open_by_sheet sheet bytes) (held bytes) (role_asked q) q.person
  sheet_no_exactly = word_exactly answer NO

  pub sheet_unsure_exactly : (o.verdict ≡ 3)
      ↔ Unsure (entities_of bytes) (names_of bytes) (open_by_sheet sheet bytes) (held bytes) (role_asked q) q.person
  sheet_unsure_exactly = word_exactly answer UNSURE
