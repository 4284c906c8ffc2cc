-- A word at a place of a line: the test that computes it says what comparing that part of the line says. And whether the number at a place
-- has a second digit.
use Prim.Native.Nat.{ℕ, ◌+◌, ◌-◌, ◌*◌, ◌%◌, ◌<◌}
use native.Mathlib.Omega.{arith}
use mathlib.Core.Path.{◌≡◌, refl, ap, sym, ◌∙◌}
use mathlib.Core.Bool.{Bool, true, false, ◌&&◌, true≢false}
use mathlib.Core.List.{List, [], ◌∷◌}
use lib.ListN.{length, take, drop, length-drop}
use lib.Seq.{take_all}
use lib.Dec.{eqb}
use borrow.Author.Tests.{eq-eqb, eqb-true}
use Rattle.base.specs.Byte.{byte_at}
use Rattle.candidates.specs.Candidate.{begins, digit, two_digits, number_at, behind}

and_both : (a b : Bool) → (a && b) ≡ true → (a ≡ true) × (b ≡ true)
and_both true b h = (refl, h)
and_both false b h = absurd (true≢false (sym h))

and_no : (a : Bool) → (a && false) ≡ false
and_no true = refl
and_no false = refl

-- bytes begin with a word exactly if so many of them are the word
begins_front : (word bytes : List ℕ) → begins word bytes ≡ true → take (length word) bytes ≡ word
unfolding begins
begins_front [] bytes h = refl
begins_front (letter ∷ word) [] h = absurd (true≢false (sym h))
begins_front (letter ∷ word) (b ∷ bytes) h =
    let (first, rest) = and_both (eqb b letter) (begins word bytes) h in
    let same : b ≡ letter = eqb-true b letter first in
    rw (same, begins_front word bytes rest)

front_begins : (word bytes : List ℕ) → take (length word) bytes ≡ word → begins word bytes ≡ true
unfolding begins
front_begins [] bytes e = refl
front_begins (letter ∷ word) [] e = let z : ◌≡◌ {A = ℕ} 0 1 = cc in absurd (omega arith)
front_begins (letter ∷ word) (b ∷ bytes) e =
    let same : b ≡ letter = cc in
    let rest : take (length word) bytes ≡ word = cc in
    rw (eq-eqb b letter same) (front_begins word bytes rest)

-- there are too few bytes
begins_short : (word bytes : List ℕ) → length bytes < length word → begins word bytes ≡ false
unfolding begins
begins_short [] bytes l = absurd (omega arith)
begins_short (letter ∷ word) [] l = refl
begins_short (letter ∷ word) (b ∷ bytes) l = rw (begins_short word bytes (omega arith)) (and_no (eqb b letter))

same_flag : (a b : Bool) → (a ≡ true → b ≡ true) → (b ≡ true → a ≡ true) → a ≡ b
same_flag true b f g = sym (f refl)
same_flag false true f g = g refl
same_flag false false f g = refl

module _ (line : List ℕ) (at : ℕ) (word : List ℕ) where
  -- what comparing found
  pub word_found : (found : Bool) → (found ≡ true → word ≡ take (length word) (take (length line - at) (drop at line)))
      → (word ≡ take (length word) (take (length line - at) (drop at line)) → found ≡ true) → found ≡ begins word (drop at line)
  word_found found there back =
      let rest : take (length line - at) (drop at line) ≡ drop at line = take_all _ _ (omega (arith, length-drop at line)) in
      let part = ap (take (length word)) rest in
      same_flag found (begins word (drop at line)) (λ h. front_begins word (drop at line) (sym (there h ∙ part)))
      (λ h. back (sym (begins_front word (drop at line) h) ∙ sym part))

  pub word_past : length line < at + length word → 0 < length word → false ≡ begins word (drop at line)
  word_past l some = sym (begins_short word (drop at line) (simp length-drop (omega arith)))

module _ (line : List ℕ) (at second : ℕ) (found flag : Bool) (tells : found ≡ digit second) (is : second ≡ byte_at line (at + 1)) (e : found ≡ flag) where
  two_is : two_digits line at ≡ flag
  unfolding two_digits
  two_is = ap digit (sym is) ∙ sym tells ∙ e

  pub behind_two : flag ≡ true → at + 2 ≡ behind line at
  unfolding behind
  behind_two f = rw (two_is, f)

  pub behind_one : flag ≡ false → at + 1 ≡ behind line at
  unfolding behind
  behind_one f = rw (two_is, f)

  module _ (first : ℕ) (here : first ≡ byte_at line at) where
    pub number_two : flag ≡ true → 10 * (first % 16) + second % 16 ≡ number_at line at
    unfolding number_at
    number_two f = rw (two_is, f, here, is)

    pub number_one : flag ≡ false → first % 16 ≡ number_at line at
    unfolding number_at
    number_one f = rw (two_is, f, here)
