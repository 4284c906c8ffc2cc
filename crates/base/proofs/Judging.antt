-- An answer by a table of refusals, once for any rows: rows in front or in between that do not apply, and two tables with the same numbers
-- whose rows apply at the same time, at another place.
use Prim.Native.Nat.{ℕ}
use mathlib.Core.Path.{◌≡◌, sym, ◌∙◌}
use mathlib.Core.Logic.{inl, inr, ⊎_elim}
use mathlib.Core.List.{List, [], ◌∷◌, ◌++◌}
use Rattle.base.specs.Refusals.{Row, Applies, Clear, Due, Judged, refused, passed}
use Rattle.base.proofs.Refusals.{due_first, due_later, due_split, clear_both, clear_first, clear_later}

module _ {n p : ℕ} {Kept Given : Type 0} where
  -- one row in front, and a table in front
  pub judged_more : (r : Row) (rs : List Row) → (Applies r → ⊥) → Judged rs n p Kept Given → Judged (r ∷ rs) n p Kept Given
  judged_more r rs none (refused d k) = refused (inr (none, d)) k
  judged_more r rs none (passed z q c g) = passed z q (none, c) g

  pub judged_behind : (rs ss : List Row) → Clear rs → Judged ss n p Kept Given → Judged (rs ++ ss) n p Kept Given
  judged_behind rs ss none (refused d k) = refused (due_later rs ss n p none d) k
  judged_behind rs ss none (passed z q c g) = passed z q (clear_both rs ss none c) g

  -- one row between two tables
  pub judged_between : (rs ss : List Row) (r : Row) → (Applies r → ⊥) → Judged (rs ++ ss) n p Kept Given → Judged (rs ++ (r ∷ ss)) n p Kept Given
  judged_between rs ss r none (refused d k) =
      refused
      (⊎_elim (λ e. due_first rs (r ∷ ss) n p e) (λ (clear, e). due_later rs (r ∷ ss) n p clear (inr (none, e))) (due_split rs ss n p d))
      k
  judged_between rs ss r none (passed z q c g) =
      passed z q (clear_both rs (r ∷ ss) (clear_first rs ss c) (none, clear_later rs ss c)) g

-- row by row the same number, and the second applies where the first does, at this place
abbrev pub Match : ℕ → List Row → List Row → Type 0
Match p [] [] = Unit {0}
Match p [] (s ∷ ss) = ⊥
Match p (r ∷ rs) [] = ⊥
Match p (r ∷ rs) (s ∷ ss) = ((r.number ≡ s.number) × (Applies r → s.At p) × (Applies s → Applies r)) × Match p rs ss

pub match_due : (p : ℕ) (rs ss : List Row) (n q : ℕ) → Match p rs ss → Due rs n q → Due ss n p
match_due p [] [] n q m d = absurd d
match_due p [] (s ∷ ss) n q m d = absurd m
match_due p (r ∷ rs) [] n q m d = absurd m
match_due p (r ∷ rs) (s ∷ ss) n q ((same, there, _), more) (inl (number, at)) = inl (sym same ∙ number, there (q, at))
match_due p (r ∷ rs) (s ∷ ss) n q ((_, _, back), more) (inr (none, d)) = inr (λ a. none (back a), match_due p rs ss n q more d)

pub match_clear : (p : ℕ) (rs ss : List Row) → Match p rs ss → Clear rs → Clear ss
match_clear p [] [] m c = tt
match_clear p [] (s ∷ ss) m c = absurd m
match_clear p (r ∷ rs) [] m c = absurd m
match_clear p (r ∷ rs) (s ∷ ss) ((_, _, back), more) (none, c) = (λ a. none (back a), match_clear p rs ss more c)
