-- The premises of a line, taken from the index: for each form of credential, the lines of the facts that it needs. First as the functions
-- find them at every input, then as a line needs them.
use Rattle.std.specs.Prelude.{ℕ, ◌+◌, ◌-◌, ◌≡◌, Bool, cond, ◌&&◌, List, [], ◌∷◌, eqb, Option as Maybe, Some, None}
use Rattle.std.proofs.Math.Option.{Option, none, some}
use Rattle.rt0.specs.Credential.{Role, ◌·◌, entity, role, link, intersection, Credential, ◌⟵◌, IsEntity}
use Rattle.rt0.specs.Word.{bit}
use Rattle.rt0.specs.Slip.{AllNone}
use Rattle.records.specs.declared.form.Record.{Record}
use Rattle.records.specs.declared.form.Record.TheVariants as variant
use Rattle.records.specs.Form.{role_of}
use Rattle.base.specs.Range.{outside}
use Rattle.base.specs.Lowest.{lowest}
use Rattle.words.specs.Sizes.{most_entities}
use Rattle.words.specs.Give.{word_of}
use Rattle.premises.specs.declared.premise.Premises.{Premises}
use Rattle.premises.specs.Fact.{line_of}

-- ---- as they are found

-- the test whether entity x + 1 is in the word w, and D in that entity's role r2
abbrev pub is_between : List ℕ → ℕ → ℕ → ℕ → ℕ → Bool
is_between ws w r2 D x = eqb (bit w x) 1 && eqb (bit (word_of ws (x + 1) r2) (D - 1)) 1

-- the lowest X in the word w such that D is in X.r2, or one above all entities
abbrev pub lowest_between : List ℕ → ℕ → ℕ → ℕ → ℕ
lowest_between ws w r2 D = lowest (is_between ws w r2 D) most_entities + 1

abbrev pub three : ℕ → ℕ → ℕ → Premises
three p q s = record { first = p; second = q; third = s }

-- by a link of A: the lines of X in A.r1 and of D in X.r2, with that X
unfoldable pub link_premises : List ℕ → List ℕ → ℕ → ℕ → ℕ → ℕ → Premises
link_premises ws index A r1 r2 D =
    let X = lowest_between ws (word_of ws A r1) r2 D in three (line_of index (A · r1) X) (line_of index (X · r2) D) 0

-- by a record
unfoldable pub premises_in : List ℕ → List ℕ → Maybe Record → ℕ → Premises
premises_in ws index (Some (variant.Entity h B)) D = three 0 0 0
premises_in ws index (Some (variant.Role h ρ)) D = three (line_of index (role_of ρ) D) 0 0
premises_in ws index (Some (variant.Link h r1 r2)) D = link_premises ws index h.entity r1 r2 D
premises_in ws index (Some (variant.TwoParts h ρ σ)) D = three (line_of index (role_of ρ) D) (line_of index (role_of σ) D) 0
premises_in ws index (Some (variant.ThreeParts h ρ σ τ)) D =
    three (line_of index (role_of ρ) D) (line_of index (role_of σ) D) (line_of index (role_of τ) D)
premises_in ws index None D = three 0 0 0

-- none where D is nobody
unfoldable pub premises_by : List ℕ → List ℕ → Maybe Record → ℕ → Premises
premises_by ws index k D = cond (outside most_entities D) (three 0 0 0) (premises_in ws index k D)

-- ---- as a line needs them

-- X is in the word w, and D in X.r2
pub record Between (E : ℕ) (ws : List ℕ) (w r2 D X : ℕ) : Type 0 where
  pub is : IsEntity E X
  pub first : bit w (X - 1) ≡ 1
  pub second : bit (word_of ws X r2) (D - 1) ≡ 1

-- each premise in turn is the line of D in its part, and there are no others
abbrev pub LinesInTurn : List ℕ → ℕ → List Role → List ℕ → Type 0
LinesInTurn index D [] ps = AllNone ps
LinesInTurn index D (ρ ∷ ρs) [] = ⊥
LinesInTurn index D (ρ ∷ ρs) (p ∷ ps) = (p ≡ line_of index ρ D) × LinesInTurn index D ρs ps

-- the premises by which a link of A gives D: X in A.r1, and D in X.r2
abbrev pub LinkPremises : ℕ → List ℕ → List ℕ → ℕ → ℕ → ℕ → ℕ → ℕ → ℕ → ℕ → Type 0
LinkPremises E ws index A r1 r2 D p q s =
    (X : ℕ) × Between E ws (word_of ws A r1) r2 D X × (p ≡ line_of index (A · r1) X) × (q ≡ line_of index (X · r2) D) × AllNone (s ∷ [])

-- the premises p, q and s by which a credential gives D
abbrev pub PremisesFor : ℕ → List ℕ → List ℕ → Credential → ℕ → ℕ → ℕ → ℕ → Type 0
PremisesFor E ws index (A · r ⟵ entity B) D p q s = AllNone (p ∷ q ∷ s ∷ [])
PremisesFor E ws index (A · r ⟵ role ρ) D p q s = LinesInTurn index D (ρ ∷ []) (p ∷ q ∷ s ∷ [])
PremisesFor E ws index (A · r ⟵ link r1 r2) D p q s = LinkPremises E ws index A r1 r2 D p q s
PremisesFor E ws index (A · r ⟵ intersection parts) D p q s = LinesInTurn index D parts (p ∷ q ∷ s ∷ [])

abbrev pub PremisesOf : ℕ → List ℕ → List ℕ → Option Credential → ℕ → Premises → Type 0
PremisesOf E ws index none D ps = Unit {0}
PremisesOf E ws index (some k) D ps = PremisesFor E ws index k D ps.first ps.second ps.third
