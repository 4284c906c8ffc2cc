-- What is said of a record as functions that compute, for whatever a record's bytes are: of no credential it is that it is ill typed.
use Rattle.std.specs.Prelude.{ℕ, Bool, false, cond, ◌||◌, List, [], ◌∷◌, Option as Maybe, Some, None}
use Rattle.std.proofs.Math.Option.{Option, none, some}
use Rattle.std.specs.Int.Bits.{bit_or}
use Rattle.rt0.specs.Credential.{Role, ◌·◌, entity_of, entity, role, link, intersection, Credential, ◌⟵◌, issuer}
use Rattle.rt0.specs.Word.{pick_word}
use Rattle.types.specs.declared.Traces.{Traces}
use Rattle.types.specs.Name.{NameType, Types, traces_all, traces_def, subjects_trace}
use Rattle.types.specs.Typed.{body_of, head_type}
use Rattle.types.specs.Flags.{body_traces, structurally}
use Rattle.words.specs.Give.{single_of}
use Rattle.storage.specs.declared.typing.Sides.{Sides}

-- the sides of a type
abbrev pub sides_of : NameType → Sides
sides_of t = record { all = traces_all t.on_issuer; def = traces_def t.on_issuer; subject = subjects_trace t.on_subject }

-- the type of a body; where there is none, that of nothing
abbrev pub body_for : Types → Option Credential → Traces
body_for T none = record { issuer = false; subject = false; weakly = false }
body_for T (some c) = body_traces T (body_of c)

-- whether it is structurally well typed
abbrev pub structurally_for : Types → Option Credential → Bool
structurally_for T none = false
structurally_for T (some c) = structurally T c

-- the word of the entities of some parts
abbrev pub parts_word : List Role → ℕ
parts_word [] = 0
parts_word (ρ ∷ []) = single_of (entity_of ρ)
parts_word (ρ ∷ σ ∷ ρs) = bit_or (single_of (entity_of ρ)) (parts_word (σ ∷ ρs))

-- the word of a credential's subjects
abbrev pub subjects_word : Credential → ℕ
subjects_word (A · r ⟵ entity B) = single_of B
subjects_word (A · r ⟵ role ρ) = single_of (entity_of ρ)
subjects_word (A · r ⟵ link r1 r2) = single_of A
subjects_word (A · r ⟵ intersection parts) = parts_word parts

-- the word of those who must store it
abbrev pub shelves_word : Types → Credential → ℕ
shelves_word T c =
    let t = head_type T c in
    bit_or (pick_word (traces_def t.on_issuer || traces_all t.on_issuer) (single_of (issuer c)) 0)
    (pick_word (subjects_trace t.on_subject) (subjects_word c) 0)

abbrev pub subjects_for : Option Credential → ℕ
subjects_for none = 0
subjects_for (some c) = subjects_word c

abbrev pub shelves_for : Types → Option Credential → ℕ
shelves_for T none = 0
shelves_for T (some c) = shelves_word T c

-- what is said of it: the shelves, where it is structurally well typed
abbrev pub stored_for : Types → Option Credential → Maybe ℕ
stored_for T c = cond (structurally_for T c) (Some (shelves_for T c)) None
