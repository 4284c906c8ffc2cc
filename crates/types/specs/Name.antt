-- The storage types of role names: on the issuer side one of three values, on the subject side one of two; and which names are well typed.
use Rattle.std.specs.Prelude.{ℕ, ◌≡◌, Bool, true, false, ◌⊎◌}

-- what the issuers of roles with the name keep
pub data IssuerSide : Type 0 where
  -- nothing
  issuer_traces_none : IssuerSide
  -- the credentials that define the role
  issuer_traces_def : IssuerSide
  -- these, and all members can be found from the issuer on
  issuer_traces_all : IssuerSide

-- what the subjects of credentials for such roles keep
pub data SubjectSide : Type 0 where
  -- nothing
  subject_traces_none : SubjectSide
  -- the credentials, and all such roles of a member can be found from the member on
  subject_traces_all : SubjectSide

pub record NameType : Type 0 where
  pub on_issuer : IssuerSide
  pub on_subject : SubjectSide

-- each role name has a type
abbrev pub Types : Type 0
Types = ℕ → NameType

abbrev pub IssuerTracesAll : NameType → Type 0
IssuerTracesAll t = t.on_issuer ≡ issuer_traces_all

abbrev pub SubjectTracesAll : NameType → Type 0
SubjectTracesAll t = t.on_subject ≡ subject_traces_all

abbrev pub StronglyWellTyped : NameType → Type 0
StronglyWellTyped t = IssuerTracesAll t ⊎ SubjectTracesAll t

abbrev pub WeaklyWellTyped : NameType → Type 0
WeaklyWellTyped t = (t.on_issuer ≡ issuer_traces_def) × (t.on_subject ≡ subject_traces_none)

abbrev pub WellTyped : NameType → Type 0
WellTyped t = StronglyWellTyped t ⊎ WeaklyWellTyped t

-- no one has to keep what defines a role with such a name
abbrev pub IllTyped : NameType → Type 0
IllTyped t = WellTyped t → ⊥

-- Tests that compute.

-- whether an issuer side is issuer-traces-all, and whether it is issuer-traces-def
abbrev pub traces_all : IssuerSide → Bool
traces_all issuer_traces_none = false
traces_all issuer_traces_def = false
traces_all issuer_traces_all = true

abbrev pub traces_def : IssuerSide → Bool
traces_def issuer_traces_none = false
traces_def issuer_traces_def = true
traces_def issuer_traces_all = false

-- whether a subject side is subject-traces-all
abbrev pub subjects_trace : SubjectSide → Bool
subjects_trace subject_traces_none = false
subjects_trace subject_traces_all = true
