-- The eight bytes of one more line: the lines before them stay, the line is the one whose bytes they are, and the bytes behind stay.
use Prim.Native.Nat.{ℕ, zero, suc, ◌+◌, ◌*◌, ◌/◌, ◌%◌, ◌<◌, ◌≤◌}
use native.Mathlib.Omega.{arith}
use native.Mathlib.Numerals.{add-one}
use mathlib.Core.Path.{◌≡◌, refl, sym, ap₂, ◌∙◌}
use mathlib.Core.List.{List, [], ◌∷◌, ◌++◌}
use borrow.Author.Tests.{lt-ltb, le-ltb}
use lib.ListN.{length, get_or, set, drop, length-set}
use lib.Seq.{sets, length-sets, get_or-set_same, get_or-set_other, drop-set-lt}
use Rattle.rt0.specs.Slip.{Line, line}
use Rattle.rt0.specs.Bytes.{lines_of, line_from, bytes_of_line}
use Rattle.premises.specs.Line.{with_line, WroteLine}

-- ---- a run of stores from byte i

sets_before : (vs l : List ℕ) (i j : ℕ) → j < i → get_or (sets l i vs) j 0 ≡ get_or l j 0
sets_before [] l i j h = refl
sets_before (v ∷ vs) l i j h = sets_before vs (set l i v) (suc i) j (omega arith) ∙ get_or-set_other l i j v 0 (λ e. omega arith)

sets_there : (vs l : List ℕ) (i j : ℕ) → j < length vs → i + length vs ≤ length l → get_or (sets l i vs) (i + j) 0 ≡ get_or vs j 0
sets_there [] l i j h b = absurd (omega arith)
sets_there (v ∷ vs) l i zero h b =
    let here : i + 0 ≡ i = omega arith in
    rw here (sets_before vs (set l i v) (suc i) i (omega arith) ∙ get_or-set_same l i v 0 (omega arith))
sets_there (v ∷ vs) l i (suc j) h b =
    let next : i + suc j ≡ suc i + j = omega arith in
    rw next (sets_there vs (set l i v) (suc i) j (omega arith) (rw length-set (omega arith)))

sets_behind : (vs l : List ℕ) (i : ℕ) → drop (i + length vs) (sets l i vs) ≡ drop (i + length vs) l
sets_behind [] l i = refl
sets_behind (v ∷ vs) l i =
    let next : i + suc (length vs) ≡ suc i + length vs = omega arith in
    rw next (sets_behind vs (set l i v) (suc i) ∙ drop-set-lt (suc i + length vs) l i v (omega arith))

-- ---- lines

-- the first n lines are those of the first 8 n bytes
lines_of_same : (xs ys : List ℕ) (n : ℕ) → ((i : ℕ) → i < 8 * n → get_or xs i 0 ≡ get_or ys i 0) → lines_of xs n ≡ lines_of ys n
unfolding lines_of
lines_of_same xs ys zero h = refl
lines_of_same xs ys (suc n) h =
    ap₂ (λ (ls : List Line) (l : Line). ls ++ (l ∷ [])) (lines_of_same xs ys n (λ i b. h i (omega arith))) same
  where
    same : line_from xs (8 * n) ≡ line_from ys (8 * n)
    same = rw (
      h (8 * n) (omega arith),
      h (8 * n + 1) (omega arith),
      h (8 * n + 2) (omega arith),
      h (8 * n + 2 + 1) (omega arith),
      h (8 * n + 4) (omega arith),
      h (8 * n + 4 + 1) (omega arith),
      h (8 * n + 6) (omega arith),
      h (8 * n + 6 + 1) (omega arith),
    )

-- the line whose eight bytes stand from byte i
line_there : (l : Line) (bytes : List ℕ) (i : ℕ) → ((j : ℕ) → j < 8 → get_or bytes (i + j) 0 ≡ get_or (bytes_of_line l) j 0)
    → line_from bytes i ≡ l
line_there (line D c p q s) bytes i h =
    let here : i + 0 ≡ i = omega arith in
    let member : get_or bytes i 0 ≡ D = rw here at (h 0 (omega arith)) in
    let credential : get_or bytes (i + 1) 0 ≡ c = h 1 (omega arith) in
    let first : get_or bytes (i + 2) 0 + 256 * get_or bytes (i + 2 + 1) 0 ≡ p = two 2 p (h 2 (omega arith)) (h 3 (omega arith)) in
    let second : get_or bytes (i + 4) 0 + 256 * get_or bytes (i + 4 + 1) 0 ≡ q = two 4 q (h 4 (omega arith)) (h 5 (omega arith)) in
    let third : get_or bytes (i + 6) 0 + 256 * get_or bytes (i + 6 + 1) 0 ≡ s = two 6 s (h 6 (omega arith)) (h 7 (omega arith)) in
    rw (member, credential, first, second, third)
  where
    two : (j m : ℕ) → get_or bytes (i + j) 0 ≡ m % 256 → get_or bytes (i + suc j) 0 ≡ m / 256
        → get_or bytes (i + j) 0 + 256 * get_or bytes (i + j + 1) 0 ≡ m
    two j m low high =
        let next : i + j + 1 ≡ i + suc j = omega arith in
        rw (next, low, high) (omega arith)

length_line : (l : Line) → length (bytes_of_line l) ≡ 8
length_line (line D c p q s) = refl

sets_wrote : (before after : List ℕ) (n : ℕ) (l : Line) → 8 * n + 8 ≤ length before → after ≡ sets before (8 * n) (bytes_of_line l)
    → WroteLine before n l after
unfolding lines_of
sets_wrote before after n l b e = record { size = rw e (length-sets before (8 * n) bytes); lines = lines_after; rest = rest_after }
  where
    bytes : List ℕ
    bytes = bytes_of_line l

    eight : length bytes ≡ 8
    eight = length_line l

    earlier : lines_of after n ≡ lines_of before n
    earlier = rw e (lines_of_same (sets before (8 * n) bytes) before n (λ i h. sets_before bytes before (8 * n) i h))

    last : line_from after (8 * n) ≡ l
    last = rw e (line_there l (sets before (8 * n) bytes) (8 * n) (λ j h. sets_there bytes before (8 * n) j (rw eight h) (rw eight b)))

    lines_after : lines_of after (n + 1) ≡ lines_of before n ++ (l ∷ [])
    lines_after = rw (add-one, earlier, last)

    rest_after : drop (8 * (n + 1)) after ≡ drop (8 * (n + 1)) before
    rest_after =
        let behind : 8 * (n + 1) ≡ 8 * n + length bytes = omega (arith, eight) in
        rw (behind, e) (sets_behind bytes before (8 * n))

-- with room the line is written, and without it nothing is
module _ (slip : List ℕ) (n : ℕ) (l : Line) where
  pub with_room : n < length slip / 8 → sets slip (8 * n) (bytes_of_line l) ≡ with_line slip n l
  unfolding with_line
  with_room b = rw (lt-ltb n (length slip / 8) b)

  pub without_room : length slip / 8 ≤ n → slip ≡ with_line slip n l
  unfolding with_line
  without_room b = rw (le-ltb n (length slip / 8) b)

-- and then it stands there
pub wrote_line : {before after : List ℕ} {n : ℕ} {l : Line} → 8 * n + 8 ≤ length before → after ≡ with_line before n l
    → WroteLine before n l after
wrote_line {before} {after} {n} {l} b e = sets_wrote before after n l b (e ∙ sym (with_room before n l (omega arith)))

-- eight stores at a byte and those after it, as code leaves them
pub stores : (l : List ℕ) (i a b c d e f g h : ℕ)
    → set (set (set (set (set (set (set (set l i a) (i + 1) b) (i + 2) c) (i + 3) d) (i + 4) e) (i + 5) f) (i + 6) g) (i + 7) h
    ≡ sets l i (a ∷ b ∷ c ∷ d ∷ e ∷ f ∷ g ∷ h ∷ [])
stores l i a b c d e f g h =
    let one : i + 1 ≡ suc i = omega arith in
    let two : i + 2 ≡ suc (suc i) = omega arith in
    let three : i + 3 ≡ suc (suc (suc i)) = omega arith in
    let four : i + 4 ≡ suc (suc (suc (suc i))) = omega arith in
    let five : i + 5 ≡ suc (suc (suc (suc (suc i)))) = omega arith in
    let six : i + 6 ≡ suc (suc (suc (suc (suc (suc i))))) = omega arith in
    let seven : i + 7 ≡ suc (suc (suc (suc (suc (suc (suc i)))))) = omega arith in
    rw (one, two, three, four, five, six, seven)
