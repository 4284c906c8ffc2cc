-- The table that the rounds start from, word by word as the code writes it, and that it is a table of small words.
use Prim.Native.Nat.{ℕ, zero, suc, ◌+◌, ◌-◌, ◌/◌, ◌%◌, ◌^◌, ◌<◌}
use native.Mathlib.Numerals.{add-one}
use native.Mathlib.Omega.{arith}
use mathlib.Core.Path.{◌≡◌, refl, ap}
use mathlib.Core.Bool.{Bool, true, false, ◌&&◌, ◌||◌}
use mathlib.Core.List.{List, [], ◌∷◌, ◌++◌}
use lib.ListN.{length, take, set}
use lib.Dec.{eqb, leb}
use Rattle.rt0.specs.Credential.{◌·◌}
use Rattle.rt0.specs.Completion.{Open}
use Rattle.rt0.specs.Word.{bit, none_words, everyone_word, open_within, open_words, Fits}
use Rattle.rt0.proofs.Shown.{open_fits}
use Rattle.bundle.specs.declared.read.Sizes.{Sizes}
use Rattle.bundle.specs.Rows.{Accepts}
use Rattle.tables.specs.declared.start.OpenRoles.{OpenRoles}
use Rattle.words.specs.Sizes.{most_entities, width, table_words}
use Rattle.tables.specs.Open.{open_in}
use Rattle.words.proofs.Filling.{filled_more}
use Rattle.tables.proofs.Held.{held_entities, held_names}

-- nobody, in one word more
pub none_grows : (n : ℕ) → none_words (suc n) ≡ none_words n ++ (0 ∷ [])
unfolding none_words
none_grows zero = refl
none_grows (suc n) = ap (λ (l : List ℕ). 0 ∷ l) (none_grows n)

-- the word of the role with so many entities and names before it, by the test that the code makes
module _ (E R : ℕ) (o : OpenRoles) (A r : ℕ) where
  abbrev test : Bool
  test = leb (A + 1) E && leb (r + 1) R && (eqb (bit o.entities A) 1 || eqb (bit o.names r) 1)

  open_test : open_within E R (open_in o) (suc A · suc r) ≡ test
  open_test =
      let a : suc A - 1 ≡ A = omega arith in
      let n : suc r - 1 ≡ r = omega arith in
      rw (a, n, add-one A, add-one r)

  pub open_word_lem : (w : ℕ) → test ≡ true → w ≡ 2 ^ E - 1 → w ≡ everyone_word E (open_within E R (open_in o) (suc A · suc r))
  open_word_lem w t q = rw (open_test, t) q

  pub closed_word : test ≡ false → 0 ≡ everyone_word E (open_within E R (open_in o) (suc A · suc r))
  closed_word t = rw (open_test, t)

-- one word more
pub open_more : (E R : ℕ) (is_open : Open) (to : List ℕ) (i v : ℕ) → i < length to
    → v ≡ everyone_word E (open_within E R is_open (suc (i / width) · suc (i % width)))
    → take i to ≡ open_words E R width is_open i → take (i + 1) (set to i v) ≡ open_words E R width is_open (i + 1)
unfolding open_words
open_more E R is_open to i v l e = filled_more (open_words E R width is_open) to i v l (rw e)

-- a table of small words
pub open_start : (bytes : List ℕ) {s : Sizes} → Accepts bytes s → (is_open : Open) {ws : List ℕ}
    → ws ≡ open_words s.entities s.names width is_open table_words → Fits s.entities most_entities width ws
open_start bytes {s} h is_open e = rw e (open_fits s.entities s.names most_entities width (held_entities bytes h) (held_names bytes h) is_open)
