-- Whoever is possible has a number among those that are passed: persons from 1, roles by the numbers of their words. Both orders go one way,
-- and the keys rise with their numbers.
use Prim.Native.Nat.{ℕ, zero, suc, ◌+◌, ◌*◌, ◌/◌, ◌%◌, ◌<◌, ◌≤◌}
use native.Mathlib.Nat.{div-zero, mod-zero, div-lt_iff_lt-mul, div-add-mod}
use native.Mathlib.Decide.{dec_lt}
use native.Mathlib.Omega.{arith}
use mathlib.Core.Path.{◌≡◌, refl, sym, ap₂}
use mathlib.Core.Logic.{inl, inr, ⊎_elim}
use mathlib.Core.List.Memᴰ
use mathlib.Core.List.{[], ◌++◌, append-nil}
use Rattle.rt0.specs.Credential.{Role, ◌·◌, IsEntity, IsName, ValidRole}
use Rattle.rt0.specs.Word.{place}
use Rattle.rt0.specs.Holding.{Holding, SoundHolding}
use Rattle.rt0.proofs.Least.{member_within}
use Rattle.rt0.proofs.Shown.{place_within, place_inj, place_of_lem}
use Rattle.lists.specs.Asked.{SureIn, PossibleIn, PersonBefore, RoleBefore}
use Rattle.lines.specs.Numbered.{role_at}
use Rattle.lines.proofs.Once.{OneWay}

pub persons_one_way : OneWay PersonBefore
persons_one_way k l p q = omega arith

pub roles_one_way : OneWay RoleBefore
roles_one_way (A · r) (B · s) (inl p) (inl q) = omega arith
roles_one_way (A · r) (B · s) (inl p) (inr q) = omega (arith, q.0)
roles_one_way (A · r) (B · s) (inr p) (inl q) = omega (arith, p.0)
roles_one_way (A · r) (B · s) (inr p) (inr q) = omega (arith, p.1, q.1)

-- persons by their numbers
pub persons_rise : (i j : ℕ) → i < j → PersonBefore (suc i) (suc j)
persons_rise i j l = omega arith

-- roles by the numbers of their words
pub roles_rise : (W i j : ℕ) → i < j → RoleBefore (role_at W i) (role_at W j)
roles_rise zero i j l = inr (rw (div-zero i, div-zero j), rw (mod-zero i, mod-zero j) (omega arith))
roles_rise (suc w) i j l = at (dec_lt (i / W) (j / W))
  where
    W : ℕ
    W = suc w

    some : 0 < W
    some = omega arith

    most : i / W < suc (j / W)
    most =
        let behind : j < suc (j / W) * W = (div-lt_iff_lt-mul some).0 (omega arith) in
        (div-lt_iff_lt-mul some).1 (omega arith)

    at : Dec (i / W < j / W) → RoleBefore (role_at W i) (role_at W j)
    at (yes below) = inl (omega arith)
    at (no same) =
        let equal : i / W ≡ j / W = omega (arith, most) in
        let first : W * (j / W) + i % W ≡ i = rw (← equal) (div-add-mod i W) in
        inr (rw equal, omega (arith, first, div-add-mod j W))

-- a member is a member under the completion that adds nothing
pub sure_possible : (h : Holding) (ρ : Role) (D : ℕ) → SureIn h ρ D → PossibleIn h ρ D
sure_possible h ρ D m = ([], (λ k i. absurd (Memᴰ.not-nil i)), rw append-nil m)

module _ (h : Holding) (sound : SoundHolding h) where
  -- whoever is possible is within the entities and names
  pub possible_within : (ρ : Role) (D : ℕ) → PossibleIn h ρ D → ValidRole h.entities h.names ρ × IsEntity h.entities D
  possible_within ρ D (ks, completes, m) =
      member_within h.entities h.names (h.held ++ ks)
      (λ k i. ⊎_elim (sound.valid k) (λ j. (completes k j).0) (Memᴰ.append_cases h.held i)) ρ D m

  pub person_found : (B : ℕ) → h.entities ≤ B → (ρ : Role) (D : ℕ) → PossibleIn h ρ D → (i : ℕ) × (i < B) × (D ≡ suc i)
  person_found B e ρ D p = at D (possible_within ρ D p).1
    where
      at : (D : ℕ) → IsEntity h.entities D → (i : ℕ) × (i < B) × (D ≡ suc i)
      at zero d = absurd (omega arith)
      at (suc i) d = (i, omega arith, refl)

  pub role_found : (B W : ℕ) → h.entities ≤ B → h.names ≤ W → (ρ : Role) (D : ℕ) → PossibleIn h ρ D → (i : ℕ) × (i < W * B) × (ρ ≡ role_at W i)
  role_found B W e n (A · r) D p =
      let (a, x) = (possible_within (A · r) D p).0 in
      let entity : IsEntity B A = omega arith in
      let name : IsName W r = omega arith in
      let within = place_within B W A r entity name in
      let (b, y, back) = place_of_lem B W (place W (A · r)) within in
      let (same, sames) = place_inj B W _ _ A r b y entity name back in
      (place W (A · r), within, ap₂ ◌·◌ (sym same) (sym sames))
