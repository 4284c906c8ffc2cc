-- Structurally well typed credentials, by three conditions; and who must store a credential, by two storage requirements.
use Rattle.std.specs.Prelude.{ℕ, ◌≡◌, ◌⊎◌, cond, List, [], ◌∷◌}
use Rattle.rt0.specs.Credential.{Role, ◌·◌, entity_of, name_of, Body, entity, role, link, intersection, Credential, ◌⟵◌, head, issuer, ◌∈◌}
use Rattle.types.specs.Name.{issuer_traces_def, NameType, Types, IssuerTracesAll, SubjectTracesAll, WellTyped, traces_all}
use Rattle.types.specs.Body.{BodyIssuerTracesAll, BodySubjectTracesAll, BodyWellTyped}

abbrev pub body_of : Credential → Body
body_of (ρ ⟵ e) = e

-- the type of a credential's head
abbrev pub head_type : Types → Credential → NameType
head_type T c = T (name_of (head c))

pub record StructurallyWellTyped (T : Types) (c : Credential) : Type 0 where
  -- both the head and the body are well typed
  pub head_typed : WellTyped (head_type T c)
  pub body_typed : BodyWellTyped T (body_of c)
  -- if the head is issuer-traces-all, the body must also be
  pub by_issuer_side : IssuerTracesAll (head_type T c) → BodyIssuerTracesAll T (body_of c)
  -- if the head is subject-traces-all, the body must also be
  pub by_subject_side : SubjectTracesAll (head_type T c) → BodySubjectTracesAll T (body_of c)

-- X is a subject of the credential: the entity of form 1, that of the role of form 2, the issuer of form 3, the entity of each part of form 4
abbrev pub IsSubject : Credential → ℕ → Type 0
IsSubject (A · r ⟵ entity B) X = X ≡ B
IsSubject (A · r ⟵ role ρ) X = X ≡ entity_of ρ
IsSubject (A · r ⟵ link r1 r2) X = X ≡ A
IsSubject (A · r ⟵ intersection parts) X = (ρ : Role) × (ρ ∈ parts) × (X ≡ entity_of ρ)

-- X must store the credential: its issuer, if the head is issuer-traces-def or issuer-traces-all; each subject, if it is subject-traces-all
abbrev pub MustStore : Types → Credential → ℕ → Type 0
MustStore T c X =
    ((((head_type T c).on_issuer ≡ issuer_traces_def) ⊎ IssuerTracesAll (head_type T c)) × (X ≡ issuer c))
    ⊎ (SubjectTracesAll (head_type T c) × IsSubject c X)

-- every credential of the list is structurally well typed
abbrev pub AllTyped : Types → List Credential → Type 0
AllTyped T cs = (c : Credential) → c ∈ cs → StructurallyWellTyped T c

-- no credential of the list is of form 4
abbrev pub NotTogether : Credential → Type 0
NotTogether (ρ ⟵ entity B) = Unit {0}
NotTogether (ρ ⟵ role σ) = Unit {0}
NotTogether (ρ ⟵ link r1 r2) = Unit {0}
NotTogether (ρ ⟵ intersection parts) = ⊥

abbrev pub NoneTogether : List Credential → Type 0
NoneTogether cs = (c : Credential) → c ∈ cs → NotTogether c

-- what is left of a list without every credential whose head's name is not issuer-traces-all
unfoldable pub traced : Types → List Credential → List Credential
traced T [] = []
traced T (c ∷ cs) = cond (traces_all (head_type T c).on_issuer) (c ∷ traced T cs) (traced T cs)
