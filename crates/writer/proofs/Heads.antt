-- E, R and the marks as the code finds them wrong or right.
use Prim.Native.Nat.{ℕ}
use mathlib.Core.Path.{◌≡◌}
use mathlib.Core.Bool.{Bool, true, ◌||◌}
use mathlib.Core.List.{List}
use lib.ListN.{length}
use borrow.Author.Tests.{eq-eqb, ne_eqb}
use Rattle.base.specs.Byte.{byte_at}
use Rattle.base.specs.Range.{outside}
use Rattle.base.specs.Lowest.{any_below}
use Rattle.bundle.specs.Edition.{most_names}
use Rattle.content.specs.Content.{most_entities, mark_wrong, marks_wrong}
use Rattle.writer.specs.Rows.{head_wrong}

module _ (E : ℕ) (marks : List ℕ) where
  pub marks_many : (length marks ≡ 32 → ⊥) → true ≡ marks_wrong E marks
  unfolding marks_wrong
  marks_many n = rw (ne_eqb (length marks) 32 n)

  pub marks_any : (found : Bool) → length marks ≡ 32 → found ≡ any_below (λ k. mark_wrong E k (byte_at marks k)) 32 → found ≡ marks_wrong E marks
  unfolding marks_wrong
  marks_any found e h = rw (eq-eqb (length marks) 32 e) h

pub head_found : (E R : ℕ) (marks : List ℕ) (entities names wrong : Bool) → entities ≡ outside most_entities E → names ≡ outside most_names R → wrong ≡ marks_wrong E marks
    → (entities || names || wrong) ≡ head_wrong E R marks
head_found E R marks entities names wrong e f g = rw (e, f, g)
