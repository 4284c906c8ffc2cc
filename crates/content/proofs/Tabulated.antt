-- A list given by a function: its length, its items, and what it equals. And a byte of a block of a bundle.
use Prim.Native.Nat.{ℕ, zero, suc, ◌+◌, ◌*◌, ◌<◌, ◌≤◌}
use mathlib.Core.Path.{◌≡◌, refl, sym, ◌∙◌}
use mathlib.Core.List.{List, [], ◌∷◌, ◌++◌}
use native.Mathlib.Decide.{ℕ_discrete}
use native.Mathlib.Omega.{arith}
use lib.ListN.{length, get_or, length-append, get_or-append, get_or-eq_default, drop}
use lib.Seq.{get_or-append_seam, ext_get_or, get_or-take, get_or-drop}
use Rattle.base.specs.Byte.{byte_at}
use Rattle.block.specs.Block.{block}
use Rattle.content.specs.Content.{tabulate}

module _ {A : Type 0} (f : ℕ → A) where
  pub length_tabulate : (n : ℕ) → length (tabulate f n) ≡ n
  unfolding tabulate
  length_tabulate zero = refl
  length_tabulate (suc n) = rw (length-append, length_tabulate n) (omega arith)

  pub item_tabulate : (d : A) (n i : ℕ) → i < n → get_or (tabulate f n) i d ≡ f i
  unfolding tabulate
  item_tabulate d zero i l = absurd (omega arith)
  item_tabulate d (suc n) i l = among (ℕ_discrete i n) (item_tabulate d n i)
    where
      among : Dec (i ≡ n) → (i < n → get_or (tabulate f n) i d ≡ f i) → get_or (tabulate f n ++ (f n ∷ [])) i d ≡ f i
      among (yes e) before = rw e (rw length_tabulate at (get_or-append_seam (tabulate f n) (f n) [] d))
      among (no e) before =
          let inside : i < length (tabulate f n) = omega (arith, length_tabulate n) in
          get_or-append (tabulate f n) (f n ∷ []) d i inside ∙ before (omega arith)

  pub item_behind : (d : A) (n i : ℕ) → n ≤ i → get_or (tabulate f n) i d ≡ d
  item_behind d n i l = get_or-eq_default (tabulate f n) d (rw length_tabulate l)

  -- a list is the one of its items
  pub is_tabulate : (d : A) (l : List A) (n : ℕ) → length l ≡ n → ((i : ℕ) → i < n → get_or l i d ≡ f i) → l ≡ tabulate f n
  is_tabulate d l n size h = ext_get_or d l (tabulate f n) (size ∙ sym (length_tabulate n)) same
    where
      same : (i : ℕ) → i < length l → get_or l i d ≡ get_or (tabulate f n) i d
      same i b =
          let k : i < n = omega arith in
          h i k ∙ sym (item_tabulate d n i k)

pub tabulate_same : {A : Type 0} (d : A) (f g : ℕ → A) (n : ℕ) → ((i : ℕ) → i < n → f i ≡ g i) → tabulate f n ≡ tabulate g n
tabulate_same d f g n h = is_tabulate g d (tabulate f n) n (length_tabulate f n) (λ i l. item_tabulate f d n i l ∙ h i l)

-- a byte of a block is a byte of the bundle
pub block_byte_lem : (bytes : List ℕ) (k i : ℕ) → i < 512 → byte_at (block bytes k) i ≡ byte_at bytes (512 * k + i)
block_byte_lem bytes k i l = get_or-take 512 (drop (512 * k) bytes) i 0 l ∙ get_or-drop (512 * k) bytes i 0
