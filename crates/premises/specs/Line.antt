-- The line by which a record gives a member, and a slip with one more line, as bytes; and what that leaves of the lines and of the bytes.
use Rattle.std.specs.Prelude.{ℕ, ◌+◌, ◌*◌, ◌/◌, ◌≡◌, cond, List, [], ◌∷◌, ◌++◌, ltb, length, drop, Option}
use Rattle.std.proofs.lemmas.List.Edits.{sets}
use Rattle.rt0.specs.Slip.{Line, line}
use Rattle.rt0.specs.Bytes.{lines_of, bytes_of_line}
use Rattle.records.specs.declared.form.Record.{Record}
use Rattle.premises.specs.declared.premise.Premises.{Premises}
use Rattle.premises.specs.Premise.{premises_by}

-- the line for D of credential c, with these premises
abbrev pub line_with : ℕ → ℕ → Premises → Line
line_with c D ps = line D c ps.first ps.second ps.third

-- the line that a record of number c gives D, with the premises that the index has for it
abbrev pub line_by : List ℕ → List ℕ → Option Record → ℕ → ℕ → Line
line_by ws index k c D = line_with c D (premises_by ws index k D)

-- a slip with one more line behind n lines; where there is no room it stays
unfoldable pub with_line : List ℕ → ℕ → Line → List ℕ
with_line slip n l = cond (ltb n (length slip / 8)) (sets slip (8 * n) (bytes_of_line l)) slip

-- one more line behind n lines: the lines before it and the bytes behind it stay
pub record WroteLine (before : List ℕ) (n : ℕ) (l : Line) (after : List ℕ) : Type 0 where
  pub size : length after ≡ length before
  pub lines : lines_of after (n + 1) ≡ lines_of before n ++ (l ∷ [])
  pub rest : drop (8 * (n + 1)) after ≡ drop (8 * (n + 1)) before
