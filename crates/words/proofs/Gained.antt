-- The words of a link as the code works them out, one entity at a time.
use Prim.Native.Nat.{ℕ, ◌+◌}
use native.Mathlib.Numerals.{add-one}
use mathlib.Core.Path.{◌≡◌}
use mathlib.Core.List.{List}
use lib.Bits.{bit_or, or_zero_r}
use borrow.Author.Tests.{eq-eqb, ne_eqb}
use Rattle.rt0.specs.Word.{bit}
use Rattle.words.specs.Give.{word_of, link_of}

-- one entity more of a link: a member of the word, or not
module _ (ws : List ℕ) (w r2 n gained : ℕ) (e : gained ≡ link_of ws w r2 n) where
  pub link_member : bit w n ≡ 1 → {v : ℕ} → v ≡ word_of ws (n + 1) r2 → bit_or gained v ≡ link_of ws w r2 (n + 1)
  unfolding link_of
  link_member m q = rw (q, add-one, eq-eqb (bit w n) 1 m, e)

  pub link_other : (bit w n ≡ 1 → ⊥) → gained ≡ link_of ws w r2 (n + 1)
  unfolding link_of
  link_other m = rw (add-one, ne_eqb (bit w n) 1 m, or_zero_r, e)
