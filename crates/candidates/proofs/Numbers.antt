-- The number at a place of a line: where the digits of a number below 100 stand there, and no digit behind them, it is that number, and the
-- place behind it is behind its digits.
use Prim.Native.Nat.{ℕ, ◌+◌, ◌/◌, ◌%◌, ◌<◌, ◌≤◌}
use native.Mathlib.Omega.{arith}
use native.Mathlib.Nat.{add-zero}
use native.Mathlib.Decide.{dec_lt}
use mathlib.Core.Path.{◌≡◌, refl, ap, sym, ◌∙◌}
use mathlib.Core.Bool.{true, false}
use mathlib.Core.List.{List, [], ◌∷◌, ◌++◌}
use lib.ListN.{length, drop, get_or}
use lib.Seq.{drop-drop, drop_at, get_or-drop}
use borrow.Author.Tests.{le-leb}
use Rattle.base.specs.Byte.{byte_at}
use Rattle.text.specs.Decimal.{decimal}
use Rattle.text.proofs.Decimal.{decimal_one, decimal_more}
use Rattle.candidates.specs.Candidate.{digit, two_digits, number_at, behind}

-- byte k of what stands at a place
pub byte_there : (line : List ℕ) (at : ℕ) (there : List ℕ) (k : ℕ) → drop at line ≡ there → byte_at line (at + k) ≡ byte_at there k
byte_there line at there k e = sym (get_or-drop at line k 0) ∙ ap (λ (bytes : List ℕ). get_or bytes k 0) e

pub first_there : (line : List ℕ) (at b : ℕ) (rest : List ℕ) → drop at line ≡ b ∷ rest → byte_at line at ≡ b
first_there line at b rest e = ap (byte_at line) (sym (add-zero at)) ∙ byte_there line at (b ∷ rest) 0 e

-- what stands further on
pub further : (line : List ℕ) (at : ℕ) (there : List ℕ) (k : ℕ) → drop at line ≡ there → drop (at + k) line ≡ drop k there
further line at there k e = sym (drop-drop k at line) ∙ ap (drop k) e

-- a number stands at a place, with more behind it
pub record Stands (line : List ℕ) (at n : ℕ) (rest : List ℕ) : Type 0 where
  pub number : number_at line at ≡ n
  pub more : drop (behind line at) line ≡ rest

-- the digits of a number below 100
two_digits_lem : (n : ℕ) → 10 ≤ n → n < 100 → decimal n ≡ (48 + n / 10) ∷ (48 + n % 10) ∷ []
two_digits_lem n l m = decimal_more n l ∙ rw (decimal_one (n / 10) (omega arith))

digit_is : (n : ℕ) → n < 10 → digit (48 + n) ≡ true
digit_is n l = rw (le-leb 48 (48 + n) (omega arith), le-leb (48 + n) 57 (omega arith))

module _ (line : List ℕ) (at n b : ℕ) (rest : List ℕ) (no_digit : digit b ≡ false) where
  stands_one : n < 10 → drop at line ≡ (48 + n) ∷ b ∷ rest → Stands line at n (b ∷ rest)
  unfolding number_at behind two_digits
  stands_one l e =
      let second : digit (byte_at line (at + 1)) ≡ false = ap digit (byte_there line at _ 1 e) ∙ no_digit in
      record { number = rw (second, first_there line at _ _ e) (omega arith); more = rw second (further line at _ 1 e) }

  stands_two : 10 ≤ n → n < 100 → drop at line ≡ (48 + n / 10) ∷ (48 + n % 10) ∷ b ∷ rest → Stands line at n (b ∷ rest)
  unfolding number_at behind two_digits
  stands_two l m e =
      let second : digit (byte_at line (at + 1)) ≡ true = ap digit (byte_there line at _ 1 e) ∙ digit_is (n % 10) (omega arith) in
      let units : byte_at line (at + 1) ≡ 48 + n % 10 = byte_there line at _ 1 e in
      let tens : (48 + n / 10) % 16 ≡ n / 10 = omega arith in
      let ones : (48 + n % 10) % 16 ≡ n % 10 = omega arith in
      record {
        number = rw (second, first_there line at _ _ e, units, tens, ones) (omega arith);
        more = rw second (further line at _ 2 e);
      }

  pub stands : n < 100 → drop at line ≡ decimal n ++ (b ∷ rest) → Stands line at n (b ∷ rest)
  stands m e = by (dec_lt n 10)
    where
      by : Dec (n < 10) → Stands line at n (b ∷ rest)
      by (yes l) = stands_one l (e ∙ rw (decimal_one n l))
      by (no l) = stands_two (omega arith) m (e ∙ rw (two_digits_lem n (omega arith) m))

-- behind a word
pub stands_behind : (line : List ℕ) (at : ℕ) (word : List ℕ) (n b : ℕ) (rest : List ℕ) → digit b ≡ false → n < 100
    → drop at line ≡ word ++ (decimal n ++ (b ∷ rest)) → Stands line (at + length word) n (b ∷ rest)
stands_behind line at word n b rest no_digit m e =
    stands line (at + length word) n b rest no_digit m
    (further line at _ (length word) e ∙ drop_at word (decimal n ++ (b ∷ rest)) (length word) refl)
