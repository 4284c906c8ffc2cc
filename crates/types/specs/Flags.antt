-- The type system as tests that compute. A type is three flags (`Traces`): whether it is issuer-traces-all, subject-traces-all, and weakly
-- well typed. That they are the definitions of Name, Body and Typed is proved in proofs/Told.
use Rattle.std.specs.Prelude.{Bool, true, false, not, ◌&&◌, ◌||◌, List, [], ◌∷◌}
use Rattle.rt0.specs.Credential.{Role, name_of, Body, entity, role, link, intersection, Credential}
use Rattle.types.specs.declared.Traces.{Traces}
use Rattle.types.specs.Name.{NameType, Types, traces_all, traces_def, subjects_trace}
use Rattle.types.specs.Typed.{body_of, head_type}

-- of a role name
abbrev pub name_traces : NameType → Traces
name_traces t =
    record {
      issuer = traces_all t.on_issuer;
      subject = subjects_trace t.on_subject;
      weakly = traces_def t.on_issuer && not (subjects_trace t.on_subject);
    }

abbrev pub well_typed : Traces → Bool
well_typed t = t.issuer || t.subject || t.weakly

-- of an entity
abbrev pub entity_traces : Traces
entity_traces = record { issuer = true; subject = true; weakly = false }

-- of a linked role, from its two names
abbrev pub link_traces : Traces → Traces → Traces
link_traces one two =
    record {
      issuer = one.issuer && two.issuer;
      subject = one.subject && two.subject;
      weakly =
          not (one.issuer && two.issuer) && not (one.subject && two.subject)
          && (one.issuer && well_typed two || well_typed one && two.subject);
    }

-- of an intersection, from a part and the others together
abbrev pub both_traces : Traces → Traces → Traces
both_traces one two =
    record {
      issuer = (one.issuer || two.issuer) && (well_typed one && well_typed two);
      subject = (one.subject || two.subject) && (well_typed one && well_typed two);
      weakly = one.weakly && two.weakly;
    }

-- of no parts none traces all, and all are weakly well typed
abbrev pub parts_traces : Types → List Role → Traces
parts_traces T [] = record { issuer = false; subject = false; weakly = true }
parts_traces T (ρ ∷ []) = name_traces (T (name_of ρ))
parts_traces T (ρ ∷ σ ∷ ρs) = both_traces (name_traces (T (name_of ρ))) (parts_traces T (σ ∷ ρs))

abbrev pub body_traces : Types → Body → Traces
body_traces T (entity B) = entity_traces
body_traces T (role ρ) = name_traces (T (name_of ρ))
body_traces T (link r1 r2) = link_traces (name_traces (T r1)) (name_traces (T r2))
body_traces T (intersection parts) = parts_traces T parts

-- a head and a body meet the three conditions of a structurally well typed credential
abbrev pub three_conditions : Traces → Traces → Bool
three_conditions head body =
    (well_typed head && well_typed body) && (not head.issuer || body.issuer) && (not head.subject || body.subject)

-- a credential is structurally well typed
abbrev pub structurally : Types → Credential → Bool
structurally T c = three_conditions (name_traces (head_type T c)) (body_traces T (body_of c))
