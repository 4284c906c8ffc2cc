-- What chains over the numbers below n find: `any` tells whether a test holds at one of them, and the `min` of what each place gives is the
-- lowest that holds at some place.
use Prim.Native.Nat.{ℕ, zero, suc, ◌+◌, ◌<◌, ◌≤◌, min}
use mathlib.Core.Path.{◌≡◌, refl, ◌∙◌}
use mathlib.Core.Bool.{Bool, true, false, ◌||◌}
use mathlib.Core.List.{List, map}
use native.Mathlib.Decide.{dec_lt}
use native.Mathlib.Omega.{arith}
use denote.Param.Members.{Mut}
use Rattle.std.specs.Prelude.{Option}
use Rattle.std.specs.declared.ops.Range.{Range}
use Rattle.std.specs.Fn.{Called}
use Rattle.std.specs.Iterator.{YieldsThen}
use Rattle.std.specs.List.{range_with_len, list_any, FoldsTo, fold, reduce}
use Rattle.std.specs.Option.{MatchOption, option_map, unwrap_or}
use Rattle.std.proofs.iter.Yields.{nat_range_steps}
use Rattle.std.proofs.lemmas.Iterator.{YieldsList-from_range}
use Rattle.std.proofs.lemmas.Iterator.Adapters.{option_map_id}
use Rattle.std.proofs.lemmas.Iterator.Search.{any_from_yields_List}
use Rattle.base.specs.Lowest.{lowest, any_below}
use Rattle.base.proofs.Lowest.{Missed, missed_none, missed_more, any_hit, any_none, lowest_is, Least, least_none, least_lower, least_same, least_done}

module _ (test : ℕ → Bool) (m : ℕ) where
  any_listed : (i n : ℕ) → i + n ≡ m → Missed test i → list_any test (range_with_len i n) ≡ any_below test m
  any_listed i zero e h = any_none test m i (omega arith) (omega arith) h
  any_listed i (suc n) e h = by (test i) refl (λ t. any_listed (i + 1) n (omega arith) (missed_more test i h t))
    where
      by : (b : Bool) → test i ≡ b → (test i ≡ false → list_any test (range_with_len (i + 1) n) ≡ any_below test m)
          → b || list_any test (range_with_len (i + 1) n) ≡ any_below test m
      by true t _ = any_hit test m i (omega arith) h t
      by false t behind = behind t

  pub any_ran : {F : Type 0} {g : Mut F (ℕ × Unit {0}) Bool} {s : Range ℕ} (u : Range ℕ) (f : F) (r : Bool)
      → (xs : List ℕ) × (o : Option ℕ) × (j : F) × YieldsThen nat_range_steps s xs o u × FoldsTo (λ p x q. Called g p (x, tt) false q) f xs j
      × MatchOption o (r ≡ false) (λ x. (r ≡ true) × ((h : F) × Called g j (x, tt) true h))
      → s ≡ record { start = 0; end = m } → ((x : ℕ) (b : Bool) (q : F) → Called g f (x, tt) b q → (q ≡ f) × (b ≡ test x)) → r ≡ any_below test m
  any_ran u f r ran e told = any_from_yields_List test u f r ran (YieldsList-from_range 0 m m e (omega arith)) told ∙ any_listed 0 m (omega arith) (missed_none test)

-- found k is the lowest number below m at which the tests of place k hold
module _ (test : ℕ → ℕ → Bool) (m : ℕ) (found : ℕ → ℕ) (at_place : (i : ℕ) → found i ≡ lowest (λ k. test k i) m) where
  least_more : (i least : ℕ) → Least test m i least → Least test m (i + 1) (min least (found i))
  least_more i least h = by (dec_lt (found i) least)
    where
      by : Dec (found i < least) → Least test m (i + 1) (min least (found i))
      by (yes l) =
          let e : min least (found i) ≡ found i = omega arith in
          rw e (least_lower test m i least (found i) h (at_place i) l)
      by (no l) =
          let e : min least (found i) ≡ least = omega arith in
          rw e (least_same test m i least (found i) h (at_place i) (omega arith))

  least_folded : (n i least : ℕ) → Least test m i least → Least test m (i + n) (fold min least (map found (range_with_len i n)))
  least_folded zero i least h = let e : i + 0 ≡ i = omega arith in rw e h
  least_folded (suc n) i least h =
      let e : i + suc n ≡ i + 1 + n = omega arith in
      rw e (least_folded n (i + 1) (min least (found i)) (least_more i least h))

  -- the least of what the places below n give, and m where there is none
  least_listed : (n : ℕ) → unwrap_or (reduce min (map found (range_with_len 0 n))) m ≡ lowest (λ k. any_below (test k) n) m
  least_listed zero = least_done test m 0 0 m (omega arith) (omega arith) (least_none test m)
  least_listed (suc n) =
      let most : found 0 ≤ m = rw (at_place 0) (lowest_is (λ k. test k 0) m).most in
      let e : min m (found 0) ≡ found 0 = omega arith in
      let first : Least test m 1 (found 0) = rw e at (least_more 0 m (least_none test m)) in
      least_done test m (suc n) (1 + n) _ (omega arith) (omega arith) (least_folded n 1 (found 0) first)

  -- as `min` and `unwrap_or` tell it
  pub least_ran : (n : ℕ) (r : Option ℕ) (back : ℕ) → option_map (λ x. x) r ≡ reduce min (map found (range_with_len 0 n)) → back ≡ unwrap_or r m
      → back ≡ lowest (λ k. any_below (test k) n) m
  least_ran n r back ran given = rw (given, ← option_map_id r, ran) (least_listed n)
