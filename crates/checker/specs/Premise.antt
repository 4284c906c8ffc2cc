-- The test of one premise of a line, and so of a line: RT0's rules for a slip as tests that compute. That they are those rules is
-- proved in proofs/Rules.antt.
use Rattle.std.specs.Prelude.{ℕ, zero, suc, ◌*◌, Bool, true, false, not, ◌&&◌, ◌||◌, List, [], ◌∷◌, map, eqb}
use Rattle.std.proofs.Math.Option.{Option, none, some}
use Rattle.std.proofs.Math.ListN.{get_elem?}
use Rattle.rt0.specs.Credential.{◌·◌, entity, role, link, intersection, Credential, ◌⟵◌}
use Rattle.rt0.specs.Book.{Book, item}
use Rattle.rt0.specs.Slip.{Line, line, Fact, ◌∋◌, stated}
use Rattle.rt0.specs.Bytes.{line_from, lines_of}
use Rattle.base.specs.Lowest.{any_below}

-- what is stated is this fact
abbrev pub same_fact : Option Fact → Fact → Bool
same_fact none g = false
same_fact (some (A · r ∋ D)) (B · s ∋ X) = (eqb A B && eqb r s) && eqb D X

-- the member that is stated
abbrev pub member_of : Option Fact → ℕ
member_of none = 0
member_of (some (ρ ∋ X)) = X

-- premise j of a line, counted from 0
abbrev pub premise_of : Line → ℕ → ℕ
premise_of (line D c p q s) zero = p
premise_of (line D c p q s) (suc zero) = q
premise_of (line D c p q s) (suc (suc j)) = s

-- what the premises of a line have to state in turn, by the line's credential, for its member D: nothing, by form 1; D in B.r1;
-- X in A.r1 and D in X.r2, where X is the member that the first premise is about; D in each part
abbrev pub wanted : Credential → ℕ → ℕ → List Fact
wanted (A · r ⟵ entity B) D X = []
wanted (A · r ⟵ role ρ) D X = (ρ ∋ D) ∷ []
wanted (A · r ⟵ link r1 r2) D X = (A · r1 ∋ X) ∷ (X · r2 ∋ D) ∷ []
wanted (A · r ⟵ intersection parts) D X = map (λ ρ. ρ ∋ D) parts

abbrev pub wanted_at : Option Credential → ℕ → ℕ → ℕ → Option Fact
wanted_at none D X j = none
wanted_at (some k) D X j = get_elem? (wanted k D X) j

-- whatever its premises, no line with the member D is right: there is no such credential, or it has form 1 and gives another
abbrev pub useless : Option Credential → ℕ → Bool
useless none D = true
useless (some (ρ ⟵ entity B)) D = not (eqb D B)
useless (some (ρ ⟵ role σ)) D = false
useless (some (ρ ⟵ link r1 r2)) D = false
useless (some (ρ ⟵ intersection parts)) D = false

-- a premise p, which states what is found, is not what is wanted: that fact, or 0 where nothing is wanted
abbrev pub misses : Option Fact → Option Fact → ℕ → Bool
misses none found p = not (eqb p 0)
misses (some f) found p = not (same_fact found f)

-- premise j of a line is wrong, given the earlier lines
unfoldable pub premise_wrong : Book → List Line → Line → ℕ → Bool
premise_wrong book earlier (line D c p q s) j =
    let X = member_of (stated book (item earlier p)) in
    let n = premise_of (line D c p q s) j in
    useless (book c) D || misses (wanted_at (book c) D X j) (stated book (item earlier n)) n

-- premise j of line i is wrong, both counted from 0
abbrev pub premise_wrong_at : Book → List ℕ → ℕ → ℕ → Bool
premise_wrong_at book slip i j = premise_wrong book (lines_of slip i) (line_from slip (8 * i)) j

-- line i, counted from 0, is wrong: one of its three premises is
unfoldable pub line_wrong : Book → List ℕ → ℕ → Bool
line_wrong book slip i = any_below (premise_wrong_at book slip i) 3
