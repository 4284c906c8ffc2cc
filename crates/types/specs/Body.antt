-- The types of the four bodies of a credential, by those of the names in them. An entity is both issuer-traces-all and subject-traces-all;
-- a role has the type of its name.
use Rattle.std.specs.Prelude.{ℕ, ◌⊎◌, List}
use Rattle.rt0.specs.Credential.{Role, name_of, Body, entity, role, link, intersection, ◌∈◌}
use Rattle.types.specs.Name.{Types, IssuerTracesAll, SubjectTracesAll, WeaklyWellTyped, WellTyped}

-- every part is well typed, and every part weakly
abbrev pub AllWellTyped : Types → List Role → Type 0
AllWellTyped T parts = (ρ : Role) → ρ ∈ parts → WellTyped (T (name_of ρ))

abbrev pub AllWeaklyWellTyped : Types → List Role → Type 0
AllWeaklyWellTyped T parts = (ρ : Role) → ρ ∈ parts → WeaklyWellTyped (T (name_of ρ))

-- a linked role if both its names are; an intersection if some part is, and all parts are well typed
abbrev pub BodyIssuerTracesAll : Types → Body → Type 0
BodyIssuerTracesAll T (entity B) = Unit {0}
BodyIssuerTracesAll T (role ρ) = IssuerTracesAll (T (name_of ρ))
BodyIssuerTracesAll T (link r1 r2) = IssuerTracesAll (T r1) × IssuerTracesAll (T r2)
BodyIssuerTracesAll T (intersection parts) = ((ρ : Role) × (ρ ∈ parts) × IssuerTracesAll (T (name_of ρ))) × AllWellTyped T parts

abbrev pub BodySubjectTracesAll : Types → Body → Type 0
BodySubjectTracesAll T (entity B) = Unit {0}
BodySubjectTracesAll T (role ρ) = SubjectTracesAll (T (name_of ρ))
BodySubjectTracesAll T (link r1 r2) = SubjectTracesAll (T r1) × SubjectTracesAll (T r2)
BodySubjectTracesAll T (intersection parts) = ((ρ : Role) × (ρ ∈ parts) × SubjectTracesAll (T (name_of ρ))) × AllWellTyped T parts

-- a linked role that is neither: its first name is issuer-traces-all and its second well typed, or its first is well typed and its second
-- subject-traces-all
abbrev pub LinkWeakly : Types → ℕ → ℕ → Type 0
LinkWeakly T r1 r2 = (IssuerTracesAll (T r1) × WellTyped (T r2)) ⊎ (WellTyped (T r1) × SubjectTracesAll (T r2))

abbrev pub BodyWeaklyWellTyped : Types → Body → Type 0
BodyWeaklyWellTyped T (entity B) = ⊥
BodyWeaklyWellTyped T (role ρ) = WeaklyWellTyped (T (name_of ρ))
BodyWeaklyWellTyped T (link r1 r2) =
    (BodyIssuerTracesAll T (link r1 r2) → ⊥) × (BodySubjectTracesAll T (link r1 r2) → ⊥) × LinkWeakly T r1 r2
BodyWeaklyWellTyped T (intersection parts) = AllWeaklyWellTyped T parts

abbrev pub BodyWellTyped : Types → Body → Type 0
BodyWellTyped T e = BodyIssuerTracesAll T e ⊎ (BodySubjectTracesAll T e ⊎ BodyWeaklyWellTyped T e)
