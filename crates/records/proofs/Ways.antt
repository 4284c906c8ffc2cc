-- The first of the five ways in which a byte is wrong, from the flags that the code has at hand.
use Prim.Native.Nat.{ℕ}
use mathlib.Core.Path.{◌≡◌, refl}
use mathlib.Core.Bool.{Bool, true, false, not, ◌&&◌, ◌||◌}
use mathlib.Core.List.{List}
use native.Mathlib.Omega.{arith}
use lib.Dec.{eqb}
use Rattle.base.specs.Byte.{byte_at}
use Rattle.base.specs.Range.{outside}
use Rattle.base.specs.Lowest.{lowest}
use Rattle.base.proofs.Lowest.{missed_none, missed_more, lowest_hit, lowest_none}
use Rattle.records.specs.Kinds.{entity_byte, name_byte, parts_byte, wrong_by, first_of}
use Rattle.records.specs.Kinds.{byte_wrong}

-- the first of five flags is the lowest number at which a test holds
module _ (test : ℕ → Bool) where
  first_lowest : (a b c d e : Bool) → test 0 ≡ a → test 1 ≡ b → test 2 ≡ c → test 3 ≡ d → test 4 ≡ e
      → first_of a b c d e ≡ lowest test 5
  first_lowest true b c d e p q r s t = lowest_hit test 5 0 (omega arith) (missed_none test) p
  first_lowest false true c d e p q r s t = lowest_hit test 5 1 (omega arith) (missed_more test 0 (missed_none test) p) q
  first_lowest false false true d e p q r s t =
      lowest_hit test 5 2 (omega arith) (missed_more test 1 (missed_more test 0 (missed_none test) p) q) r
  first_lowest false false false true e p q r s t =
      lowest_hit test 5 3 (omega arith) (missed_more test 2 (missed_more test 1 (missed_more test 0 (missed_none test) p) q) r) s
  first_lowest false false false false true p q r s t =
      lowest_hit test 5 4 (omega arith)
      (missed_more test 3 (missed_more test 2 (missed_more test 1 (missed_more test 0 (missed_none test) p) q) r) s) t
  first_lowest false false false false false p q r s t =
      lowest_none test 5 5 (omega arith) (omega arith)
      (missed_more test 4 (missed_more test 3 (missed_more test 2 (missed_more test 1 (missed_more test 0 (missed_none test) p) q) r) s) t)

-- the flags of a byte
pub first_way : (E R form parts i b : ℕ)
    → first_of (eqb i 0 && outside 4 b) (parts_byte form i && (not (eqb b 2) && not (eqb b 3))) (entity_byte form parts i && outside E b)
    (name_byte form parts i && outside R b)
    (not (eqb i 0 || parts_byte form i || entity_byte form parts i || name_byte form parts i) && not (eqb b 0))
    ≡ lowest (λ k. wrong_by k E R form parts i b) 5
unfolding wrong_by
first_way E R form parts i b = first_lowest (λ k. wrong_by k E R form parts i b) _ _ _ _ _ refl refl refl refl refl

-- what the code found of a byte is that of the record's byte
pub found_kind : (E R form parts i b found : ℕ) (bytes : List ℕ) → form ≡ byte_at bytes 0 → parts ≡ byte_at bytes 3 → b ≡ byte_at bytes i
    → found ≡ lowest (λ k. wrong_by k E R form parts i b) 5 → found ≡ lowest (λ k. byte_wrong E R bytes k i) 5
found_kind E R form parts i b found bytes f p e h = rw (← f, ← p, ← e) h
