-- The promise of the two lists, for every bundle, question and lent memory: it fixes the answer and every lent byte. The rows are the reader's,
-- then 7 for what is asked, then 8 for memory below the bytes that a text can need.
use Rattle.std.specs.Prelude.{ℕ, ◌<◌, ◌≡◌, Bool, ◌||◌, ◌⊎◌, List, [], ◌∷◌, ◌++◌, length, drop, Result, Ok, Err}
use Rattle.rt0.specs.Credential.{Role, ◌·◌}
use Rattle.base.specs.declared.refusal.Refusal.{Refusal}
use Rattle.base.specs.Refused.{number_of, place_of}
use Rattle.base.specs.Range.{Outside, outside}
use Rattle.base.specs.Refusals.{Row, row, AtZero, Judged}
use Rattle.bundle.specs.Layout.{entities_of, names_of}
use Rattle.bundle.specs.Rows.{reader_rows}
use Rattle.bundle.specs.Held.{holding_in}
use Rattle.lines.specs.Right.{Line}
use Rattle.lists.specs.Asked.{RightMembers, RightRoles}
use Rattle.lines.specs.Text.{person_text, role_text, list_text}
use Rattle.lines.specs.Sizes.{members_bytes, roles_bytes}

-- refusal 7: the role that is asked about, or the person, is not among those of the bundle
abbrev pub RoleWrong : ℕ → ℕ → Role → Type 0
RoleWrong E R (A · r) = Outside E A ⊎ Outside R r

abbrev pub role_wrong : ℕ → ℕ → Role → Bool
role_wrong E R (A · r) = outside E A || outside R r

abbrev pub role_row : List ℕ → Role → Row
role_row bytes ρ = row 7 (AtZero (RoleWrong (entities_of bytes) (names_of bytes) ρ))

abbrev pub person_row : List ℕ → ℕ → Row
person_row bytes D = row 7 (AtZero (Outside (entities_of bytes) D))

-- refusal 8: the memory that is lent for the text is shorter than this
abbrev pub short_row : ℕ → List ℕ → Row
short_row needed before = row 8 (AtZero (length before < needed))

-- a table of refusals: the reader's rows, that of the question, and 8
abbrev pub list_rows : List ℕ → Row → ℕ → List ℕ → List Row
list_rows bytes asked needed before = reader_rows bytes ++ (asked ∷ short_row needed before ∷ [])

-- the length that an answer says
abbrev pub length_of : Result ℕ (Refusal ℕ) → ℕ
length_of (Ok n) = n
length_of (Err why) = 0

-- a refusal says no length, and touches nothing
pub record ListRefused (before after : List ℕ) (o : Result ℕ (Refusal ℕ)) : Type 0 where
  pub none : length_of o ≡ 0
  pub untouched : after ≡ before

-- the text of the right list stands at the front and has the length that is said; every byte behind it stays
pub record ListGiven {K : Type 0} (Right : List (Line K) → Type 0) (key_text : K → List ℕ) (before after : List ℕ) (o : Result ℕ (Refusal ℕ)) : Type 0 where
  pub list : List (Line K)
  pub right : Right list
  pub written : after ≡ list_text key_text list ++ drop (length_of o) before
  pub length_said : length_of o ≡ length (list_text key_text list)
  pub size : length after ≡ length before

abbrev pub ListPromise : {K : Type 0} → (List (Line K) → Type 0) → (K → List ℕ) → List Row → List ℕ → List ℕ → Result ℕ (Refusal ℕ) → Type 0
ListPromise Right key_text rows before after o =
    Judged rows (number_of o) (place_of o) (ListRefused before after o) (ListGiven Right key_text before after o)

-- all members of a role
abbrev pub members_rows : List ℕ → Role → List ℕ → List Row
members_rows bytes ρ before = list_rows bytes (role_row bytes ρ) members_bytes before

abbrev pub MembersPromise : List ℕ → Role → List ℕ → List ℕ → Result ℕ (Refusal ℕ) → Type 0
MembersPromise bytes ρ before after o =
    ListPromise (RightMembers (holding_in bytes) ρ) person_text (members_rows bytes ρ before) before after o

-- all roles of a person
abbrev pub roles_rows : List ℕ → ℕ → List ℕ → List Row
roles_rows bytes D before = list_rows bytes (person_row bytes D) roles_bytes before

abbrev pub RolesPromise : List ℕ → ℕ → List ℕ → List ℕ → Result ℕ (Refusal ℕ) → Type 0
RolesPromise bytes D before after o =
    ListPromise (RightRoles (holding_in bytes) D) role_text (roles_rows bytes D before) before after o
