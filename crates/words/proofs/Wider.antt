-- What is valid over some entities and names is valid over more.
use Prim.Native.Nat.{ℕ, ◌≤◌}
use native.Mathlib.Omega.{arith}
use Rattle.rt0.specs.Credential.{Role, ◌·◌, entity, role, link, intersection, Credential, ◌⟵◌, ValidRole, Valid}

module _ {E R B W : ℕ} (e : E ≤ B) (r : R ≤ W) where
  pub role_wider : (ρ : Role) → ValidRole E R ρ → ValidRole B W ρ
  role_wider (A · n) v = omega arith

  pub valid_wider : (k : Credential) → Valid E R k → Valid B W k
  valid_wider (ρ ⟵ entity X) v = (role_wider ρ v.0, omega arith)
  valid_wider (ρ ⟵ role σ) v = (role_wider ρ v.0, role_wider σ v.1)
  valid_wider (ρ ⟵ link r1 r2) v = (role_wider ρ v.0, omega arith)
  valid_wider (ρ ⟵ intersection parts) v = (role_wider ρ v.0, (v.1.0, v.1.1, λ σ i. role_wider σ (v.1.2 σ i)))
