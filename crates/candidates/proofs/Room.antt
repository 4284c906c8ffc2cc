-- There is room for the line of a candidate, whatever the line: every number of a candidate is that of a byte.
use Prim.Native.Nat.{ℕ, zero, suc, ◌+◌, ◌*◌, ◌%◌, ◌<◌, ◌≤◌}
use native.Mathlib.Omega.{arith}
use mathlib.Core.Bool.{Bool, true, false, cond}
use mathlib.Core.List.{List, [], ◌∷◌}
use lib.Dec.{eqb}
use lib.ListN.{length, drop}
use Rattle.base.specs.Byte.{byte_at}
use Rattle.records.specs.Bytes.{credential_in}
use Rattle.spelling.specs.Line.{arrow, ampersand, line_of, most_bytes}
use Rattle.spelling.proofs.Lengths.{line_few}
use Rattle.candidates.specs.Candidate.{begins, two_digits, number_at, behind, parts_from, body_from, candidate_of}

-- every byte is below 256
record Small (bytes : List ℕ) : Type 0 where
  each : (i : ℕ) → byte_at bytes i < 256

small_none : Small []
small_none = record { each = λ i. omega arith }

small_more : (b : ℕ) {bytes : List ℕ} → b < 256 → Small bytes → Small (b ∷ bytes)
small_more b {bytes} l h = record { each = by }
  where
    by : (i : ℕ) → byte_at (b ∷ bytes) i < 256
    by zero = l
    by (suc i) = h.each i

small_cond : (t : Bool) {xs ys : List ℕ} → Small xs → Small ys → Small (cond t xs ys)
small_cond true h g = h
small_cond false h g = g

-- a zero in front
zeros : {bytes : List ℕ} → Small bytes → Small (0 ∷ bytes)
zeros h = small_more 0 (omega arith) h

number_small : (line : List ℕ) (at : ℕ) → number_at line at < 256
unfolding number_at
number_small line at = by (two_digits line at)
  where
    by : (t : Bool) → cond t (10 * (byte_at line at % 16) + byte_at line (at + 1) % 16) (byte_at line at % 16) < 256
    by true = omega arith
    by false = omega arith

module _ (line : List ℕ) where
  abbrev more : (at : ℕ) {bytes : List ℕ} → Small bytes → Small (number_at line at ∷ bytes)
  more at h = small_more (number_at line at) (number_small line at) h

  module _ (A r : ℕ) (a : A < 256) (n : r < 256) where
    abbrev headed : (form : ℕ) {bytes : List ℕ} → form < 256 → Small bytes → Small (form ∷ A ∷ r ∷ bytes)
    headed form l h = small_more form l (small_more A a (small_more r n h))

    parts_small : (B s at : ℕ) → B < 256 → s < 256 → Small (parts_from line A r B s at)
    unfolding parts_from
    parts_small B s at b m =
        let name = behind line (at + 4) + 2 in
        let end = behind line name in
        let last = behind line (end + 4) + 2 in
        small_cond (begins ampersand (drop end line))
        (headed 4 (omega arith) (small_more 3 (omega arith) (small_more B b (small_more s m
        (more (at + 4) (more name (more (end + 4) (more last (zeros (zeros small_none))))))))))
        (headed 4 (omega arith) (small_more 2 (omega arith) (small_more B b (small_more s m
        (more (at + 4) (more name (zeros (zeros (zeros (zeros small_none))))))))))

    body_small : (at : ℕ) → Small (body_from line A r at)
    unfolding body_from
    body_small at =
        let dot = behind line at in
        let end = behind line (dot + 2) in
        small_cond (eqb (byte_at line dot) 10)
        (headed 1 (omega arith) (more at (zeros (zeros (zeros (zeros (zeros (zeros (zeros (zeros small_none))))))))))
        (small_cond (eqb (byte_at line end) 10)
        (headed 2 (omega arith) (more at (more (dot + 2) (zeros (zeros (zeros (zeros (zeros (zeros (zeros small_none))))))))))
        (small_cond (begins ampersand (drop end line)) (parts_small (number_at line at) (number_at line (dot + 2)) end (number_small line at) (number_small line (dot + 2)))
        (headed 3 (omega arith) (more (dot + 2) (more (end + 2) (zeros (zeros (zeros (zeros (zeros (zeros (zeros small_none))))))))))))

  candidate_small : Small (candidate_of line)
  unfolding candidate_of
  candidate_small =
      let name = behind line 1 + 2 in
      let end = behind line name in
      small_cond (begins arrow (drop end line))
      (body_small (number_at line 1) (number_at line name) (number_small line 1) (number_small line name) (end + 5))
      (zeros (zeros (zeros (zeros (zeros (zeros (zeros (zeros (zeros (zeros (zeros (zeros small_none))))))))))))

  pub candidate_short : length (line_of (credential_in (candidate_of line))) ≤ most_bytes
  candidate_short = omega (arith, line_few (candidate_of line) candidate_small.each)
