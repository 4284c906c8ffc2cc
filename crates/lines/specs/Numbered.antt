-- A list worked out key by key: keys by numbers from 0, with a test of each for sure and one for possible. The two lists so, from the words of
-- the two tables.
use Rattle.std.specs.Prelude.{ℕ, zero, suc, ◌/◌, ◌%◌, Bool, true, false, List, [], ◌∷◌, ◌++◌, get_or, eqb}
use Rattle.rt0.specs.Credential.{Role, ◌·◌}
use Rattle.rt0.specs.Word.{bit}
use Rattle.words.specs.Sizes.{width}
use Rattle.lines.specs.Right.{Line, line, SURE, MAYBE}

-- the line of a key by its two tests, or none
abbrev pub line_for : {K : Type 0} → K → Bool → Bool → List (Line K)
line_for k true possible = line k SURE ∷ []
line_for k false true = line k MAYBE ∷ []
line_for k false false = []

-- the lines of the first n keys
unfoldable pub numbered : {K : Type 0} → (ℕ → K) → (ℕ → Bool) → (ℕ → Bool) → ℕ → List (Line K)
numbered key sure possible zero = []
numbered key sure possible (suc n) = numbered key sure possible n ++ line_for (key n) (sure n) (possible n)

-- the role whose word has a number, in tables of W words for each entity
abbrev pub role_at : ℕ → ℕ → Role
role_at W i = suc (i / W) · suc (i % W)

-- bit d of a word is 1
abbrev pub is_one : ℕ → ℕ → Bool
is_one w d = eqb (bit w d) 1

-- the members in a role's two words, up to the person n
abbrev pub members_up_to : ℕ → ℕ → ℕ → List (Line ℕ)
members_up_to sure possible n = numbered suc (λ i. is_one sure i) (λ i. is_one possible i) n

-- the roles in the first n words of the two tables that have bit d
abbrev pub roles_up_to : List ℕ → List ℕ → ℕ → ℕ → List (Line Role)
roles_up_to sure possible d n = numbered (role_at width) (λ i. is_one (get_or sure i 0) d) (λ i. is_one (get_or possible i 0) d) n
