-- A list that a loop writes from the front, one element a turn: its first i elements are those of `made i`, which grows at its end.
use Prim.Native.Nat.{ℕ, zero, suc, ◌+◌, ◌<◌, ◌≤◌, min}
use native.Mathlib.Nat.{zero-add}
use native.Mathlib.Numerals.{add-one}
use native.Mathlib.Omega.{arith}
use mathlib.Core.Path.{◌≡◌, refl, ◌∙◌}
use mathlib.Core.List.{List, [], ◌∷◌, ◌++◌, append-nil}
use lib.ListN.{length, take, drop, get_or, set}
use lib.Seq.{take-suc-set, take-length, drop-length, paste-suc, length-paste}
use Rattle.words.specs.Give.{copied_over}

module _ (made : ℕ → List ℕ) (to : List ℕ) where
  -- one element more
  pub filled_more : (i v : ℕ) → i < length to → made (suc i) ≡ made i ++ (v ∷ []) → take i to ≡ made i
      → take (i + 1) (set to i v) ≡ made (i + 1)
  filled_more i v l grows h = rw (add-one, take-suc-set to i v l, grows, h)

-- copied from another list, as far as both go
module _ (from to : List ℕ) where
  pub copied_none : to ≡ take 0 from ++ drop 0 to
  copied_none = refl

  pub copied_more : {done : List ℕ} (i : ℕ) → i < length from → i < length to → done ≡ take i from ++ drop i to
      → set done i (get_or from i 0) ≡ take (i + 1) from ++ drop (i + 1) to
  copied_more i f t e = rw (e, add-one) (simp zero-add at (paste-suc to 0 from i 0 (omega arith) f))

  pub copied_length : {done : List ℕ} (i : ℕ) → i ≤ length from → i ≤ length to → done ≡ take i from ++ drop i to
      → length done ≡ length to
  copied_length i f t e = rw e (simp zero-add at (length-paste to 0 from i (omega arith) f))

  copied_whole : length from ≡ length to → copied_over from to ≡ from
  unfolding copied_over
  copied_whole e =
      let n : min (length from) (length to) ≡ length from = omega arith in
      rw (n, take-length from, e, drop-length to) (append-nil from)

-- a copy between lists of one length is the other list
pub copied_same : (from to : List ℕ) {done : List ℕ} → done ≡ copied_over from to → length from ≡ length to → done ≡ from
copied_same from to e size = e ∙ copied_whole from to size

-- past the end of a list there is 0
pub past_end : (l : List ℕ) (i : ℕ) → length l ≤ i → get_or l i 0 ≡ 0
past_end [] i h = refl
past_end (x ∷ l) zero h = absurd (omega arith)
past_end (x ∷ l) (suc i) h = past_end l i (omega arith)
