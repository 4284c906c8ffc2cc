-- The reader of records is not too strict: the twelve bytes of a valid credential, of each form and with two parts or three, have no mistake,
-- and they are that credential again. So a record has no mistake exactly if its twelve bytes are those of a valid credential.
use Rattle.std.specs.Prelude.{None}
use Prim.Native.Nat.{ℕ}
use mathlib.Core.Path.{◌≡◌, refl, sym, ◌∙◌}
use mathlib.Core.Bool.{false}
use mathlib.Core.Logic.{◌↔◌}
use mathlib.Core.List.Memᴰ
use mathlib.Core.List.{List, [], ◌∷◌}
use native.Mathlib.Omega.{arith}
use Rattle.rt0.specs.Credential.{◌·◌, entity, role, link, intersection, Credential, ◌⟵◌, IsEntity, IsName, Valid}
use Rattle.base.specs.Range.{outside}
use Rattle.base.specs.Lowest.{lowest}
use Rattle.base.proofs.Flags.{inside_flag}
use Rattle.records.specs.Kinds.{wrong_by}
use Rattle.records.specs.Mistake.{Mistaken, record_wrong}
use Rattle.records.specs.Bytes.{credential_in, bytes_of, twelve_in}
use Rattle.records.proofs.Mistakes.{right_record}
use Rattle.records.proofs.ValidRecord.{valid_record, own_bytes}

module _ (E R : ℕ) where
  entity_flag : (A : ℕ) → IsEntity E A → outside E A ≡ false
  entity_flag A h = inside_flag E A h.above h.within

  name_flag : (r : ℕ) → IsName R r → outside R r ≡ false
  name_flag r h = inside_flag R r h.above h.within

  right_bytes : (c : Credential) → Valid E R c → record_wrong E R (bytes_of c) ≡ false
  unfolding bytes_of wrong_by lowest
  right_bytes (A · r ⟵ entity B) ((a, n), b) = rw (entity_flag A a, name_flag r n, entity_flag B b)
  right_bytes (A · r ⟵ role (B · s)) ((a, n), (b, m)) = rw (entity_flag A a, name_flag r n, entity_flag B b, name_flag s m)
  right_bytes (A · r ⟵ link s t) ((a, n), (m, k)) = rw (entity_flag A a, name_flag r n, name_flag s m, name_flag t k)
  right_bytes (A · r ⟵ intersection []) ((a, n), (l, _, _)) = absurd (omega arith)
  right_bytes (A · r ⟵ intersection (ρ ∷ [])) ((a, n), (l, _, _)) = absurd (omega arith)
  right_bytes (A · r ⟵ intersection (B · s ∷ C · t ∷ [])) ((a, n), (_, _, v)) =
      let (b, m) = v (B · s) (Memᴰ.head refl) in
      let (d, k) = v (C · t) (Memᴰ.tail (Memᴰ.head refl)) in
      rw (entity_flag A a, name_flag r n, entity_flag B b, name_flag s m, entity_flag C d, name_flag t k)
  right_bytes (A · r ⟵ intersection (B · s ∷ C · t ∷ D · u ∷ [])) ((a, n), (_, _, v)) =
      let (b, m) = v (B · s) (Memᴰ.head refl) in
      let (d, k) = v (C · t) (Memᴰ.tail (Memᴰ.head refl)) in
      let (e, j) = v (D · u) (Memᴰ.tail (Memᴰ.tail (Memᴰ.head refl))) in
      rw (entity_flag A a, name_flag r n, entity_flag B b, name_flag s m, entity_flag C d, name_flag t k, entity_flag D e, name_flag u j)
  right_bytes (A · r ⟵ intersection (ρ ∷ σ ∷ τ ∷ υ ∷ more)) ((a, n), (_, l, _)) = absurd (omega arith)

  -- the bytes of a valid credential have no mistake
  pub encoded_right : (c : Credential) → Valid E R c → Mistaken E R (bytes_of c) None
  encoded_right c v = (right_record E R (bytes_of c)).0 (right_bytes c v)

  -- and are that credential
  pub encoded_credential : (c : Credential) → Valid E R c → credential_in (bytes_of c) ≡ c
  unfolding bytes_of credential_in
  encoded_credential (A · r ⟵ entity B) v = refl
  encoded_credential (A · r ⟵ role (B · s)) v = refl
  encoded_credential (A · r ⟵ link s t) v = refl
  encoded_credential (A · r ⟵ intersection []) (_, (l, _, _)) = absurd (omega arith)
  encoded_credential (A · r ⟵ intersection (ρ ∷ [])) (_, (l, _, _)) = absurd (omega arith)
  encoded_credential (A · r ⟵ intersection (B · s ∷ C · t ∷ [])) v = refl
  encoded_credential (A · r ⟵ intersection (B · s ∷ C · t ∷ D · u ∷ [])) v = refl
  encoded_credential (A · r ⟵ intersection (ρ ∷ σ ∷ τ ∷ υ ∷ more)) (_, (_, l, _)) = absurd (omega arith)

  -- what is wrong with a record is told by its twelve bytes
  same_twelve : (bytes : List ℕ) → record_wrong E R (twelve_in bytes) ≡ record_wrong E R bytes
  unfolding lowest
  same_twelve bytes = refl

  -- a record has no mistake exactly if its twelve bytes are those of a valid credential
  pub valid_exactly : (bytes : List ℕ) → Mistaken E R bytes None ↔ ((c : Credential) × Valid E R c × (twelve_in bytes ≡ bytes_of c))
  valid_exactly bytes = (
    λ m. let right = (right_record E R bytes).1 m in (credential_in bytes, valid_record E R bytes right, sym (own_bytes E R bytes right)),
    λ (c, v, e). (right_record E R bytes).0 (sym (same_twelve bytes) ∙ rw e (right_bytes c v)),
  )
