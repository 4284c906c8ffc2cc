-- The two lists that are asked for, of a holding: all who are possible in a role, by their numbers; and all roles in which a person is
-- possible, by entity and then by name. Sure is RT0's least membership, possible is membership under some completion.
use Rattle.std.specs.Prelude.{ℕ, ◌<◌, ◌≡◌, ◌⊎◌, List}
use Rattle.rt0.specs.Credential.{Role, ◌·◌}
use Rattle.rt0.specs.Membership.{Member}
use Rattle.rt0.specs.Completion.{Completable}
use Rattle.rt0.specs.Holding.{Holding}
use Rattle.lines.specs.Right.{Line, RightList}

-- over the credentials that count
abbrev pub SureIn : Holding → Role → ℕ → Type 0
SureIn h ρ D = Member h.held ρ D

-- under some completion
abbrev pub PossibleIn : Holding → Role → ℕ → Type 0
PossibleIn h ρ D = Completable h.entities h.names h.is_open h.held ρ D

-- rising numbers
abbrev pub PersonBefore : ℕ → ℕ → Type 0
PersonBefore C D = C < D

-- the list of the members of a role
abbrev pub RightMembers : Holding → Role → List (Line ℕ) → Type 0
RightMembers h ρ = RightList PersonBefore (λ D. SureIn h ρ D) (λ D. PossibleIn h ρ D)

-- rising entity, then rising name
abbrev pub RoleBefore : Role → Role → Type 0
RoleBefore (A · r) (B · s) = (A < B) ⊎ ((A ≡ B) × (r < s))

-- the list of the roles of a person
abbrev pub RightRoles : Holding → ℕ → List (Line Role) → Type 0
RightRoles h D = RightList RoleBefore (λ ρ. SureIn h ρ D) (λ ρ. PossibleIn h ρ D)
