-- The check does not read bytes 510 and 511; a sealed block has a right check, and a block with a right check is sealed.
use Prim.Native.Nat.{ℕ, zero, suc, ◌+◌, ◌*◌, ◌/◌, ◌%◌, ◌<◌}
use mathlib.Core.Path.{◌≡◌, refl, sym, ◌∙◌, ap, ap₂}
use mathlib.Core.Bool.{false}
use mathlib.Core.List.{List}
use native.Mathlib.Decide.{ℕ_discrete, dec_lt}
use native.Mathlib.Omega.{arith}
use lib.ListN.{length}
use lib.Dec.{eqb}
use borrow.Author.Tests.{lt-ltb, le-ltb, eq-eqb, eqb-true, not-false}
use Rattle.base.specs.Byte.{byte_at}
use Rattle.block.specs.Block.{weighed, check_of, stored_check, check_wrong}
use Rattle.content.specs.Content.{tabulate}
use Rattle.content.specs.Encode.{check_by, sealed, sealed_block}
use Rattle.content.proofs.Tabulated.{item_tabulate, length_tabulate, tabulate_same}

weighed_same : (a b : List ℕ) (n : ℕ) → ((i : ℕ) → i < n → byte_at a i ≡ byte_at b i) → weighed a n ≡ weighed b n
unfolding weighed
weighed_same a b zero h = refl
weighed_same a b (suc n) h =
    ap₂ (λ (s x : ℕ). s + suc n * x) (weighed_same a b n (λ i l. h i (omega arith))) (h n (omega arith))

pub check_same : (a b : List ℕ) → ((i : ℕ) → i < 510 → byte_at a i ≡ byte_at b i) → check_of a ≡ check_of b
unfolding check_of
check_same a b h = ap (λ (s : ℕ). (1 + s) % 65521) (weighed_same a b 510 h)

-- the check of a block whose bytes below 510 are f
pub check_by_lem : (f : ℕ → ℕ) (b : List ℕ) → ((i : ℕ) → i < 510 → byte_at b i ≡ f i) → check_of b ≡ check_by f
unfolding check_by
check_by_lem f b h = check_same b (tabulate f 510) (λ i l. h i l ∙ sym (item_tabulate f 0 510 i l))

pub sealed_below : (f : ℕ → ℕ) (i : ℕ) → i < 510 → sealed f i ≡ f i
unfolding sealed
sealed_below f i l = rw (lt-ltb i 510 l)

pub sealed_low : (f : ℕ → ℕ) → sealed f 510 ≡ check_by f % 256
unfolding sealed
sealed_low f = refl

pub sealed_high : (f : ℕ → ℕ) → sealed f 511 ≡ check_by f / 256
unfolding sealed
sealed_high f = refl

module _ (f : ℕ → ℕ) (b : List ℕ) where
  -- a sealed block's check is right
  pub sealed_right : ((i : ℕ) → i < 512 → byte_at b i ≡ sealed f i) → check_wrong b ≡ false
  unfolding check_wrong
  sealed_right h =
      let low : byte_at b 510 ≡ check_by f % 256 = h 510 (omega arith) ∙ sealed_low f in
      let high : byte_at b 511 ≡ check_by f / 256 = h 511 (omega arith) ∙ sealed_high f in
      let found : check_of b ≡ check_by f = check_by_lem f b (λ i l. h i (omega arith) ∙ sealed_below f i l) in
      let same : check_of b ≡ stored_check b = omega arith in
      rw (eq-eqb (check_of b) (stored_check b) same)

  -- a block with a right check is sealed, where its bytes are bytes
  pub right_sealed : ((i : ℕ) → i < 510 → byte_at b i ≡ f i) → byte_at b 510 < 256 → check_wrong b ≡ false
      → (i : ℕ) → i < 512 → byte_at b i ≡ sealed f i
  unfolding check_wrong
  right_sealed h small c i l = among (dec_lt i 510) (ℕ_discrete i 510)
    where
      stored : check_by f ≡ byte_at b 510 + 256 * byte_at b 511
      stored = sym (check_by_lem f b h) ∙ eqb-true (check_of b) (stored_check b) (not-false (eqb (check_of b) (stored_check b)) c)

      among : Dec (i < 510) → Dec (i ≡ 510) → byte_at b i ≡ sealed f i
      among (yes k) _ = h i k ∙ sym (sealed_below f i k)
      among (no k) (yes e) =
          let low : byte_at b 510 ≡ check_by f % 256 = omega (arith, stored) in
          rw e (low ∙ sym (sealed_low f))
      among (no k) (no m) =
          let e : i ≡ 511 = omega arith in
          let high : byte_at b 511 ≡ check_by f / 256 = omega (arith, stored) in
          rw e (high ∙ sym (sealed_high f))

-- blocks of the same bytes have the same check
pub sealed_same : (f g : ℕ → ℕ) → ((i : ℕ) → i < 510 → f i ≡ g i) → (i : ℕ) → sealed f i ≡ sealed g i
unfolding sealed check_by
sealed_same f g h i = among (dec_lt i 510)
  where
    among : Dec (i < 510) → sealed f i ≡ sealed g i
    among (yes l) = sealed_below f i l ∙ h i l ∙ sym (sealed_below g i l)
    among (no l) = rw (le-ltb i 510 (omega arith), tabulate_same 0 f g 510 h) refl

pub length_sealed : (f : ℕ → ℕ) → length (sealed_block f) ≡ 512
unfolding sealed_block
length_sealed f = length_tabulate (sealed f) 512

pub byte_sealed : (f : ℕ → ℕ) (i : ℕ) → i < 512 → byte_at (sealed_block f) i ≡ sealed f i
unfolding sealed_block
byte_sealed f i l = item_tabulate (sealed f) 0 512 i l

pub sealed_block_same : (f g : ℕ → ℕ) → ((i : ℕ) → i < 510 → f i ≡ g i) → sealed_block f ≡ sealed_block g
unfolding sealed_block
sealed_block_same f g h = tabulate_same 0 (sealed f) (sealed g) 512 (λ i l. sealed_same f g h i)
