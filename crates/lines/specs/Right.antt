-- When a list of marked keys is right, over any keys with an order: its keys rise, a key is marked SURE exactly if it is sure and MAYBE exactly
-- if it is possible and not sure, and nothing else is listed. That two right lists are equal is in proofs/Once.antt.
use Rattle.std.specs.Prelude.{ℕ, ◌+◌, ◌↔◌, List, [], ◌∷◌}
use Rattle.rt0.specs.Credential.{◌∈◌}

pub data Mark : Type 0 where
  SURE : Mark
  MAYBE : Mark

pub record Line (K : Type 0) : Type 0 where
  pub key : K
  pub mark : Mark

abbrev pub line : {K : Type 0} → K → Mark → Line K
line k m = record { key = k; mark = m }

-- each line's key stands before the keys of all later lines
unfoldable pub Rises : {K : Type 0} → (K → K → Type 0) → List (Line K) → Type 0
Rises Before [] = Unit {0}
Rises {K} Before (l ∷ ls) = ((m : Line K) → m ∈ ls → Before l.key m.key) × Rises Before ls

-- the mark that a key has by whether it is sure and whether it is possible
abbrev pub RightMark : Type 0 → Type 0 → Mark → Type 0
RightMark Sure Possible SURE = Sure
RightMark Sure Possible MAYBE = Possible × (Sure → ⊥)

pub record RightList {K : Type 0} (Before : K → K → Type 0) (Sure Possible : K → Type 0) (ls : List (Line K)) : Type 0 where
  -- the keys rise strictly
  pub rises : Rises Before ls
  -- a key stands with a mark exactly if that is its mark
  pub lines : (k : K) (m : Mark) → (line k m ∈ ls) ↔ RightMark (Sure k) (Possible k) m

-- 1 for the same mark, 0 for the other
abbrev pub one_if : Mark → Mark → ℕ
one_if SURE SURE = 1
one_if SURE MAYBE = 0
one_if MAYBE SURE = 0
one_if MAYBE MAYBE = 1

-- the number of lines with a mark
unfoldable pub count : {K : Type 0} → Mark → List (Line K) → ℕ
count m [] = 0
count m (l ∷ ls) = one_if m l.mark + count m ls
