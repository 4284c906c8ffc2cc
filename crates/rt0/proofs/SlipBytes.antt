-- The bytes of a slip and its lines: reading back what was written gives the lines, where every number fits its bytes.
use Prim.Native.Nat.{ℕ, zero, suc, ◌+◌, ◌*◌, ◌≤◌, ◌<◌}
use native.Mathlib.Nat.{add_assoc}
use native.Mathlib.Decide.{ℕ_discrete}
use native.Mathlib.Omega.{arith}
use mathlib.Core.Path.{◌≡◌, refl, ap, ap₂, ◌∙◌}
use mathlib.Core.Logic.{⊎_elim}
use mathlib.Core.Option.{some}
use mathlib.Core.List.Memᴰ
use mathlib.Core.List.{List, [], ◌∷◌, ◌++◌, append_assoc}
use lib.ListN.{length, take, get_or, get_elem?, length-append, length-take}
use lib.Seq.{take-append-le, take_all, get_or-append-add}
use Rattle.rt0.specs.Credential.{Credential, head, AllValid, ◌∈◌}
use Rattle.rt0.specs.Book.{Book, Numbers}
use Rattle.rt0.specs.Slip.{Line, line, RightSlip}
use Rattle.rt0.specs.Bytes.{number, lines_of, bytes_of, bytes_of_line, line_from}
use Rattle.rt0.proofs.Items.{occurs_item, item_append, item_last}
use Rattle.rt0.proofs.Says.{follows_within}
use Rattle.rt0.proofs.Slips.{line_says, line_entity}

pub length_lines_of : (bytes : List ℕ) (n : ℕ) → length (lines_of bytes n) ≡ n
unfolding lines_of
length_lines_of bytes zero = refl
length_lines_of bytes (suc n) = simp (length-append, length_lines_of bytes n) (omega arith)

-- the first m of the first n lines
pub take_lines_of : (bytes : List ℕ) (m n : ℕ) → m ≤ n → take m (lines_of bytes n) ≡ lines_of bytes m
unfolding lines_of
take_lines_of bytes m zero h = let none : m ≡ 0 = omega arith in rw none
take_lines_of bytes m (suc n) h = split (ℕ_discrete m (suc n)) (take_lines_of bytes m n)
  where
    split : Dec (m ≡ suc n) → (m ≤ n → take m (lines_of bytes n) ≡ lines_of bytes m) → take m (lines_of bytes (suc n)) ≡ lines_of bytes m
    split (yes all) below = rw all (take_all (suc n) (lines_of bytes (suc n)) (omega (arith, length_lines_of bytes (suc n))))
    split (no fewer) below =
        let inside : m ≤ length (lines_of bytes n) = omega (arith, length_lines_of bytes n) in
        rw take-append-le (below (omega arith))

pub lines_of_at : (bytes : List ℕ) (m n : ℕ) → m < n → get_elem? (lines_of bytes n) m ≡ some (line_from bytes (8 * m))
unfolding lines_of
lines_of_at bytes m zero h = absurd (omega arith)
lines_of_at bytes m (suc n) h = split (ℕ_discrete m n) (lines_of_at bytes m n)
  where
    split : Dec (m ≡ n) → (m < n → get_elem? (lines_of bytes n) m ≡ some (line_from bytes (8 * m)))
        → get_elem? (lines_of bytes (suc n)) m ≡ some (line_from bytes (8 * m))
    split (yes last) below = rw last (rw length_lines_of at (item_last (lines_of bytes n) (line_from bytes (8 * n))))
    split (no earlier) below =
        let inside : m < length (lines_of bytes n) = omega (arith, length_lines_of bytes n) in
        rw item_append (below (omega arith))

pub length_bytes_of : (lines : List Line) → length (bytes_of lines) ≡ 8 * length lines
unfolding bytes_of
length_bytes_of [] = refl
length_bytes_of (line D c p q s ∷ lines) = let h = length_bytes_of lines in omega arith

-- ---- reading back

-- the line whose bytes stand first
line_first : (l : Line) (bytes : List ℕ) → line_from (bytes_of_line l ++ bytes) 0 ≡ l
line_first (line D c p q s) bytes =
    let first : number (bytes_of_line (line D c p q s) ++ bytes) 2 ≡ p = omega arith in
    let second : number (bytes_of_line (line D c p q s) ++ bytes) 4 ≡ q = omega arith in
    let third : number (bytes_of_line (line D c p q s) ++ bytes) 6 ≡ s = omega arith in
    rw (first, second, third)

-- behind a line's eight bytes stands what would stand without them
byte_later : (l : Line) (bytes : List ℕ) (n : ℕ) → get_or (bytes_of_line l ++ bytes) (8 + n) 0 ≡ get_or bytes n 0
byte_later (line D c p q s) bytes n = get_or-append-add (bytes_of_line (line D c p q s)) bytes n 0

line_later : (l : Line) (bytes : List ℕ) (n : ℕ) → line_from (bytes_of_line l ++ bytes) (8 + n) ≡ line_from bytes n
line_later l bytes n = simp (add_assoc, byte_later l)

-- so the line comes first, and then the lines of the other bytes
lines_of_after : (l : Line) (bytes : List ℕ) (n : ℕ) → lines_of (bytes_of_line l ++ bytes) (suc n) ≡ l ∷ lines_of bytes n
unfolding lines_of
lines_of_after l bytes zero = rw line_first
lines_of_after l bytes (suc n) =
    let next : 8 * suc n ≡ 8 + 8 * n = omega arith in
    ap₂ (λ (ls : List Line) (x : Line). ls ++ (x ∷ [])) (lines_of_after l bytes n) (rw next (line_later l bytes (8 * n)))

-- no lines of any bytes
lines_of_none : (bytes : List ℕ) → lines_of bytes 0 ≡ []
unfolding lines_of
lines_of_none bytes = refl

-- reading back what was written, whatever follows it
pub lines_of_bytes_of : (lines : List Line) (rest : List ℕ) → lines_of (bytes_of lines ++ rest) (length lines) ≡ lines
unfolding bytes_of
lines_of_bytes_of [] rest = lines_of_none rest
lines_of_bytes_of (l ∷ lines) rest =
    rw append_assoc (lines_of_after l (bytes_of lines ++ rest) (length lines) ∙ ap (λ (ls : List Line). l ∷ ls) (lines_of_bytes_of lines rest))

-- ---- every byte is a byte

-- each number of the list is a byte
abbrev AllSmall : List ℕ → Type 0
AllSmall [] = Unit {0}
AllSmall (b ∷ bs) = (b < 256) × AllSmall bs

small_byte : (bytes : List ℕ) → AllSmall bytes → (b : ℕ) → b ∈ bytes → b < 256
small_byte [] h b x'' = elim x'' [ ]
small_byte (x ∷ bytes) h b (Memᴰ.head e) = omega arith
small_byte (x ∷ bytes) h b (Memᴰ.tail i) = small_byte bytes h.1 b i

small_bytes : (lines : List Line) → ((l : Line) → l ∈ lines → AllSmall (bytes_of_line l)) → (b : ℕ) → b ∈ bytes_of lines → b < 256
unfolding bytes_of
small_bytes [] h b i = absurd (Memᴰ.not-nil i)
small_bytes (l ∷ lines) h b i =
    ⊎_elim (small_byte (bytes_of_line l) (h l (Memᴰ.head refl)) b) (small_bytes lines (λ x j. h x (Memᴰ.tail j)) b)
    (Memᴰ.append_cases (bytes_of_line l) i)

-- every byte of a right slip of at most 65,535 lines over at most 255 entities and a book with numbers up to 255 is a byte
pub bytes_of_small : (E R : ℕ) (cs : List Credential) → AllValid E R cs → (book : Book) (most : ℕ) → Numbers book cs most
    → E ≤ 255 → most ≤ 255 → (lines : List Line) → RightSlip book lines → length lines ≤ 65535 → (b : ℕ) → b ∈ bytes_of lines → b < 256
bytes_of_small E R cs v book most numbers e c lines h l = small_bytes lines (λ x i. let n = occurs_item i in small n.0 x n.1)
  where
    small : (n : ℕ) (x : Line) → get_elem? lines n ≡ some x → AllSmall (bytes_of_line x)
    small n (line D k p q s) i =
        let said = line_says book lines h n D k p q s i in
        let member = line_entity E R cs v book numbers.only lines h (suc n) (head said.0) D said.2 in
        let credential = numbers.within k said.0 said.1 in
        let right = h n (line D k p q s) i in
        let premise = follows_within book (take n lines) right.0 D p q s right.2 in
        let first : p ≤ length (take n lines) = premise p (Memᴰ.head refl) in
        let second : q ≤ length (take n lines) = premise q (Memᴰ.tail (Memᴰ.head refl)) in
        let third : s ≤ length (take n lines) = premise s (Memᴰ.tail (Memᴰ.tail (Memᴰ.head refl))) in
        omega (arith, length-take n lines)
