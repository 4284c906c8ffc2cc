-- There is exactly one right list of the members of a role, and one of the roles of a person, for every sound holding: whether someone is a
-- member, and whether they are possible, is decided by tables at rest.
use Prim.Native.Nat.{ℕ, suc, ◌*◌}
use native.Mathlib.Nat.{le_refl}
use mathlib.Core.Path.{◌≡◌, refl}
use mathlib.Core.Bool.{Bool, true, false, false≢true}
use mathlib.Core.Logic.Iff
use mathlib.Core.Logic.{◌⊎◌, inl, inr, ◌↔◌}
use mathlib.Core.List.{List}
use Rattle.rt0.specs.Credential.{Role}
use Rattle.rt0.specs.Holding.{Holding, SoundHolding}
use Rattle.rt0.proofs.Possible.{Possible, possible_completable}
use Rattle.rt0.proofs.Settle.{member_decided, possible_decided}
use Rattle.lines.specs.Right.{Line}
use Rattle.lists.specs.Asked.{SureIn, PossibleIn, PersonBefore, RightMembers, RoleBefore, RightRoles}
use Rattle.lines.specs.Numbered.{role_at}
use Rattle.lines.proofs.Once.{right_once}
use Rattle.lines.proofs.Numbering.{numbered_right}
use Rattle.lists.proofs.Found.{persons_one_way, roles_one_way, persons_rise, roles_rise, sure_possible, person_found, role_found}

-- what is decided, as a test
test : {P : Type 0} → P ⊎ (P → ⊥) → Bool
test (inl p) = true
test (inr n) = false

test_tells : {P : Type 0} (d : P ⊎ (P → ⊥)) → (test d ≡ true) ↔ P
unfolding test
test_tells (inl p) = (λ e. p, λ q. refl)
test_tells (inr n) = (λ e. absurd (false≢true e), λ p. absurd (n p))

-- one list, and no other
abbrev pub OneList : {K : Type 0} → (List (Line K) → Type 0) → Type 0
OneList {K} Right = (ls : List (Line K)) × Right ls × ((others : List (Line K)) → Right others → others ≡ ls)

module _ (h : Holding) (sound : SoundHolding h) where
  sure : (ρ : Role) (D : ℕ) → SureIn h ρ D ⊎ (SureIn h ρ D → ⊥)
  sure = member_decided h.entities h.names h.held sound.valid

  possible : (ρ : Role) (D : ℕ) → Possible h.entities h.names h.is_open h.held ρ D ⊎ (Possible h.entities h.names h.is_open h.held ρ D → ⊥)
  possible = possible_decided h.entities h.names h.held sound.valid h.is_open

  possible_told : (ρ : Role) (D : ℕ) → (test (possible ρ D) ≡ true) ↔ PossibleIn h ρ D
  possible_told ρ D = Iff.trans (test_tells (possible ρ D)) (possible_completable _ _ _ _ sound.valid ρ D)

  pub one_members_list : (ρ : Role) → OneList (RightMembers h ρ)
  one_members_list ρ =
      let right =
      numbered_right suc (λ i. test (sure ρ (suc i))) (λ i. test (possible ρ (suc i))) PersonBefore persons_rise (λ D. SureIn h ρ D) (λ D. PossibleIn h ρ D)
      h.entities (λ D s. sure_possible h ρ D s) (λ D p. person_found h sound h.entities (le_refl h.entities) ρ D p)
      (λ i l. test_tells (sure ρ (suc i))) (λ i l. possible_told ρ (suc i)) in
      (_, right, λ others r. right_once PersonBefore persons_one_way others _ r right)

  pub one_roles_list : (D : ℕ) → OneList (RightRoles h D)
  one_roles_list D =
      let W = h.names in
      let right =
      numbered_right (role_at W) (λ i. test (sure (role_at W i) D)) (λ i. test (possible (role_at W i) D)) RoleBefore (roles_rise W)
      (λ ρ. SureIn h ρ D) (λ ρ. PossibleIn h ρ D) (W * h.entities) (λ ρ s. sure_possible h ρ D s)
      (λ ρ p. role_found h sound h.entities W (le_refl h.entities) (le_refl W) ρ D p) (λ i l. test_tells (sure (role_at W i) D))
      (λ i l. possible_told (role_at W i) D) in
      (_, right, λ others r. right_once RoleBefore roles_one_way others _ r right)
