-- What was found in a line, number by number, is the candidate; and what comparing its own line with it tells.
use Prim.Native.Nat.{ℕ, ◌+◌}
use mathlib.Core.Path.{◌≡◌}
use mathlib.Core.Bool.{Bool, true, false}
use mathlib.Core.List.{List, [], ◌∷◌}
use borrow.Author.Tests.{ne_eqb, eq-eqb}
use lib.ListN.{drop}
use Rattle.base.specs.Byte.{byte_at}
use Rattle.spelling.specs.Line.{arrow, ampersand}
use Rattle.candidates.specs.Candidate.{begins, number_at, behind, parts_from, body_from, no_record, candidate_of}

module _ (line : List ℕ) (A r B s at : ℕ) (name end : ℕ) (p : name ≡ behind line (at + 4)) (q : end ≡ behind line (name + 2))
    (C t : ℕ) (x : C ≡ number_at line (at + 4)) (y : t ≡ number_at line (name + 2)) (found : Bool) (f : found ≡ begins ampersand (drop end line)) where
  pub parts_two : found ≡ false → 4 ∷ A ∷ r ∷ 2 ∷ B ∷ s ∷ C ∷ t ∷ 0 ∷ 0 ∷ 0 ∷ 0 ∷ [] ≡ parts_from line A r B s at
  unfolding parts_from
  parts_two e = rw (← p, ← q, ← f, e, x, y)

  pub parts_three : found ≡ true → (last D u : ℕ) → last ≡ behind line (end + 4) → D ≡ number_at line (end + 4) → u ≡ number_at line (last + 2)
      → 4 ∷ A ∷ r ∷ 3 ∷ B ∷ s ∷ C ∷ t ∷ D ∷ u ∷ 0 ∷ 0 ∷ [] ≡ parts_from line A r B s at
  unfolding parts_from
  parts_three e last D u l z w = rw (← p, ← q, ← f, e, ← l, x, y, z, w)

module _ (line : List ℕ) (A r at : ℕ) (B dot : ℕ) (x : B ≡ number_at line at) (p : dot ≡ behind line at) where
  pub body_entity : byte_at line dot ≡ 10 → 1 ∷ A ∷ r ∷ B ∷ 0 ∷ 0 ∷ 0 ∷ 0 ∷ 0 ∷ 0 ∷ 0 ∷ 0 ∷ [] ≡ body_from line A r at
  unfolding body_from
  body_entity e = rw (← p, eq-eqb (byte_at line dot) 10 e, x)

  module _ (no_end : byte_at line dot ≡ 10 → ⊥) (s end : ℕ) (y : s ≡ number_at line (dot + 2)) (q : end ≡ behind line (dot + 2)) where
    pub body_role : byte_at line end ≡ 10 → 2 ∷ A ∷ r ∷ B ∷ s ∷ 0 ∷ 0 ∷ 0 ∷ 0 ∷ 0 ∷ 0 ∷ 0 ∷ [] ≡ body_from line A r at
    unfolding body_from
    body_role e = rw (← p, ← q, ne_eqb (byte_at line dot) 10 no_end, eq-eqb (byte_at line end) 10 e, x, y)

    module _ (no_end_either : byte_at line end ≡ 10 → ⊥) (found : Bool) (f : found ≡ begins ampersand (drop end line)) where
      pub body_parts : found ≡ true → parts_from line A r B s end ≡ body_from line A r at
      unfolding body_from
      body_parts e = rw (← p, ← q, ne_eqb (byte_at line dot) 10 no_end, ne_eqb (byte_at line end) 10 no_end_either, ← f, e, x, y)

      pub body_link : found ≡ false → (t : ℕ) → t ≡ number_at line (end + 2)
          → 3 ∷ A ∷ r ∷ s ∷ t ∷ 0 ∷ 0 ∷ 0 ∷ 0 ∷ 0 ∷ 0 ∷ 0 ∷ [] ≡ body_from line A r at
      unfolding body_from
      body_link e t z = rw (← p, ← q, ne_eqb (byte_at line dot) 10 no_end, ne_eqb (byte_at line end) 10 no_end_either, ← f, e, y, z)

module _ (line : List ℕ) (name end : ℕ) (p : name ≡ behind line 1) (q : end ≡ behind line (name + 2)) (found : Bool) (f : found ≡ begins arrow (drop end line)) where
  pub head_found : found ≡ true → (A r : ℕ) → A ≡ number_at line 1 → r ≡ number_at line (name + 2) → body_from line A r (end + 5) ≡ candidate_of line
  unfolding candidate_of
  head_found e A r x y = rw (← p, ← q, ← f, e, x, y)

  pub head_none : found ≡ false → no_record ≡ candidate_of line
  unfolding candidate_of
  head_none e = rw (← p, ← q, ← f, e)
