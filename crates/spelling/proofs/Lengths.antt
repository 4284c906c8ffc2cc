-- How long a line can be: with numbers of at most k digits it has at most 8 k + 23 bytes. So that of a valid credential, over entities and names of one
-- digit or two, has at most 39, and that of any twelve bytes at most 47.
use Prim.Native.Nat.{ℕ, ◌+◌, ◌*◌, ◌<◌, ◌≤◌}
use native.Mathlib.Omega.{arith}
use mathlib.Core.Path.{refl}
use mathlib.Core.Bool.{Bool, true, false, cond}
use mathlib.Core.List.Memᴰ
use mathlib.Core.List.{List, [], ◌∷◌}
use lib.Dec.{eqb}
use lib.ListN.{length, length-append}
use Rattle.rt0.specs.Credential.{Role, ◌·◌, Body, entity, role, link, intersection, Credential, ◌⟵◌, ValidRole, ValidBody, Valid, ◌∈◌}
use Rattle.base.specs.Byte.{byte_at}
use Rattle.text.specs.Decimal.{decimal}
use Rattle.text.proofs.Decimal.{few_digits}
use Rattle.records.specs.Bytes.{body_in, credential_in}
use Rattle.spelling.specs.Line.{entity_text, name_text, role_text, parts_text, body_text, line_of}

-- both numbers of a role are below m, and all numbers of a body, which has at most three parts
abbrev BelowRole : ℕ → Role → Type 0
BelowRole m (A · r) = (A < m) × (r < m)

abbrev BelowBody : ℕ → Body → Type 0
BelowBody m (entity B) = B < m
BelowBody m (role ρ) = BelowRole m ρ
BelowBody m (link r1 r2) = (r1 < m) × (r2 < m)
BelowBody m (intersection parts) = (length parts ≤ 3) × ((ρ : Role) → ρ ∈ parts → BelowRole m ρ)

-- numbers below m have at most k digits
module _ (m k : ℕ) (few : (n : ℕ) → n < m → length (decimal n) ≤ k) where
  entity_short : (A : ℕ) → A < m → length (entity_text A) ≤ k + 1
  unfolding entity_text
  entity_short A l = omega (arith, few A l)

  name_short : (r : ℕ) → r < m → length (name_text r) ≤ k + 2
  unfolding name_text
  name_short r l = omega (arith, few r l)

  role_short : (ρ : Role) → BelowRole m ρ → length (role_text ρ) ≤ 2 * k + 3
  unfolding role_text
  role_short (A · r) (a, n) = rw (length-append (entity_text A) (name_text r)) (omega (arith, entity_short A a, name_short r n))

  body_short : (A : ℕ) (e : Body) → A < m → BelowBody m e → length (body_text A e) ≤ 6 * k + 15
  unfolding body_text parts_text
  body_short A (entity B) a b = omega (arith, entity_short B b)
  body_short A (role ρ) a v = omega (arith, role_short ρ v)
  body_short A (link r1 r2) a (n, l) =
      rw (length-append (role_text (A · r1)) (name_text r2)) (omega (arith, role_short (A · r1) (a, n), name_short r2 l))
  body_short A (intersection []) a v = omega arith
  body_short A (intersection (ρ ∷ [])) a (_, v) = omega (arith, role_short ρ (v ρ (Memᴰ.head refl)))
  body_short A (intersection (ρ ∷ σ ∷ [])) a (_, v) =
      simp length-append (omega (arith, role_short ρ (v ρ (Memᴰ.head refl)), role_short σ (v σ (Memᴰ.tail (Memᴰ.head refl)))))
  body_short A (intersection (ρ ∷ σ ∷ τ ∷ [])) a (_, v) =
      simp length-append (omega (
        arith,
        role_short ρ (v ρ (Memᴰ.head refl)),
        role_short σ (v σ (Memᴰ.tail (Memᴰ.head refl))),
        role_short τ (v τ (Memᴰ.tail (Memᴰ.tail (Memᴰ.head refl)))),
      ))
  body_short A (intersection (ρ ∷ σ ∷ τ ∷ υ ∷ more)) a (l, _) = absurd (omega arith)

  line_below : (A r : ℕ) (e : Body) → A < m → r < m → BelowBody m e → length (line_of (A · r ⟵ e)) ≤ 8 * k + 23
  unfolding line_of
  line_below A r e a n v = simp length-append (omega (arith, role_short (A · r) (a, n), body_short A e a v))

-- The line of a valid credential.

module _ (E R : ℕ) (few_entities : E < 100) (few_names : R < 100) where
  valid_role_lem : (ρ : Role) → ValidRole E R ρ → BelowRole 100 ρ
  valid_role_lem (A · r) (a, n) = (omega arith, omega arith)

  valid_body_lem : (e : Body) → ValidBody E R e → BelowBody 100 e
  valid_body_lem (entity B) b = omega arith
  valid_body_lem (role ρ) v = valid_role_lem ρ v
  valid_body_lem (link r1 r2) (n, l) = (omega arith, omega arith)
  valid_body_lem (intersection parts) (_, l, v) = (l, λ ρ m. valid_role_lem ρ (v ρ m))

  pub line_short : (c : Credential) → Valid E R c → length (line_of c) ≤ 39
  line_short (A · r ⟵ e) ((a, n), v) = line_below 100 2 (λ n l. few_digits n 1 (omega arith)) A r e (omega arith) (omega arith) (valid_body_lem e v)

-- The line of any twelve bytes.

below_cond : (m : ℕ) (t : Bool) (e f : Body) → BelowBody m e → BelowBody m f → BelowBody m (cond t e f)
below_cond m true e f h g = h
below_cond m false e f h g = g

below_none : (m : ℕ) (ρ : Role) → ρ ∈ [] → BelowRole m ρ
below_none m ρ i = absurd (Memᴰ.not-nil i)

below_more : (m : ℕ) (σ : Role) (parts : List Role) → BelowRole m σ → ((ρ : Role) → ρ ∈ parts → BelowRole m ρ) → (ρ : Role) → ρ ∈ σ ∷ parts → BelowRole m ρ
below_more m σ parts v h ρ (Memᴰ.head e) = rw e v
below_more m σ parts v h ρ (Memᴰ.tail i) = h ρ i

below_parts : (m : ℕ) (t : Bool) (ρ σ τ : Role) → BelowRole m ρ → BelowRole m σ → BelowRole m τ → BelowBody m (intersection (ρ ∷ σ ∷ cond t (τ ∷ []) []))
below_parts m true ρ σ τ a b c = (omega arith, below_more m ρ _ a (below_more m σ _ b (below_more m τ [] c (below_none m))))
below_parts m false ρ σ τ a b c = (omega arith, below_more m ρ _ a (below_more m σ [] b (below_none m)))

pub line_few : (bytes : List ℕ) → ((i : ℕ) → byte_at bytes i < 256) → length (line_of (credential_in bytes)) ≤ 47
unfolding credential_in
line_few bytes small =
    line_below 1000 3 (λ n l. few_digits n 2 (omega arith)) (byte_at bytes 1) (byte_at bytes 2) (body_in bytes) (below 1) (below 2)
    (below_cond 1000 (eqb (byte_at bytes 0) 1) _ _ (below 3)
    (below_cond 1000 (eqb (byte_at bytes 0) 2) _ _ (below 3, below 4)
    (below_cond 1000 (eqb (byte_at bytes 0) 3) _ _ (below 3, below 4)
    (below_parts 1000 (eqb (byte_at bytes 3) 3) _ _ _ (below 4, below 5) (below 6, below 7) (below 8, below 9)))))
  where
    below : (i : ℕ) → byte_at bytes i < 1000
    below i = omega (arith, small i)
