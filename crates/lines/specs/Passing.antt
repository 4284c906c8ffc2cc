-- A text in the making: its lines so far at the front of the lent memory, where the next goes, and the counts.
use Rattle.std.specs.Prelude.{ℕ, ◌+◌, ◌≡◌, Bool, true, false, List, ◌++◌}
use Rattle.rt0.specs.Credential.{Role}
use Rattle.text.specs.Written.{Wrote}
use Rattle.lines.specs.declared.line.Tally.{Tally}
use Rattle.lines.specs.Right.{Mark, SURE, MAYBE, Line, one_if, count}
use Rattle.lines.specs.Text.{person_text, role_text, mark_text, lines_text}
use Rattle.lines.specs.Numbered.{line_for}

-- these lines are written, and counted
pub record Passed {K : Type 0} (key_text : K → List ℕ) (ls : List (Line K)) (before now : List ℕ) (t : Tally) : Type 0 where
  pub wrote : Wrote before 0 (lines_text key_text ls) now t.next
  pub sure : t.sure ≡ count SURE ls
  pub maybe : t.maybe ≡ count MAYBE ls

abbrev pub mark_if : Bool → Mark
mark_if true = SURE
mark_if false = MAYBE

-- a mark is written from a place on, and counted
pub record Marked (sure : Bool) (before : List ℕ) (at : ℕ) (after : List ℕ) (t u : Tally) : Type 0 where
  pub wrote : Wrote before at (mark_text (mark_if sure)) after u.next
  pub sure_count : u.sure ≡ t.sure + one_if SURE (mark_if sure)
  pub maybe_count : u.maybe ≡ t.maybe + one_if MAYBE (mark_if sure)

-- with the line of a key, or none, lines that were passed are passed with it
abbrev pub PassesMember : ℕ → Bool → Bool → List ℕ → List ℕ → Tally → Tally → Type 0
PassesMember D sure possible now after t u =
    (before : List ℕ) (ls : List (Line ℕ)) → Passed person_text ls before now t → Passed person_text (ls ++ line_for D sure possible) before after u

abbrev pub PassesRole : Role → Bool → Bool → List ℕ → List ℕ → Tally → Tally → Type 0
PassesRole ρ sure possible now after t u =
    (before : List ℕ) (ls : List (Line Role)) → Passed role_text ls before now t → Passed role_text (ls ++ line_for ρ sure possible) before after u
