-- Slips: a line, when a line is right given the earlier lines, a right slip, and the fact that a slip states.
-- A line names its credential by its number in a book. Lines are numbered from 1; as a premise, 0 means that there is none.
use Rattle.std.specs.Prelude.{ℕ, ◌≡◌, List, [], ◌∷◌, length, take}
use Rattle.std.proofs.Math.Option.{Option, none, some}
use Rattle.std.proofs.Math.ListN.{get_elem?}
use Rattle.rt0.specs.Credential.{Role, ◌·◌, entity, role, link, intersection, Credential, ◌⟵◌, head}
use Rattle.rt0.specs.Book.{Book}
pub use Rattle.rt0.specs.Book.{item}

infix 50 ◌∋◌
-- a member, the number of a credential, and three premises
pub data Line : Type 0 where
  line : ℕ → ℕ → ℕ → ℕ → ℕ → Line

-- ρ ∋ D: the fact that D is in ρ
pub data Fact : Type 0 where
  ◌∋◌ : Role → ℕ → Fact

-- with the credential that a line names, if there is one: that the line's member is in its head
abbrev pub fact_of : ℕ → Option Credential → Option Fact
fact_of D none = none
fact_of D (some k) = some (head k ∋ D)

-- the fact that a line states, if its number names a credential
abbrev pub stated : Book → Option Line → Option Fact
stated book none = none
stated book (some (line D c p q s)) = fact_of D (book c)

-- line number p of the lines states this fact
abbrev pub Says : Book → List Line → ℕ → Fact → Type 0
Says book lines p f = stated book (item lines p) ≡ some f

-- all these premises are missing
abbrev pub AllNone : List ℕ → Type 0
AllNone [] = Unit {0}
AllNone (p ∷ ps) = (p ≡ 0) × AllNone ps

-- each premise in turn states D in its part, and there are no others
abbrev pub InTurn : Book → List Line → ℕ → List Role → List ℕ → Type 0
InTurn book earlier D [] ps = AllNone ps
InTurn book earlier D (ρ ∷ ρs) [] = ⊥
InTurn book earlier D (ρ ∷ ρs) (p ∷ ps) = Says book earlier p (ρ ∋ D) × InTurn book earlier D ρs ps

-- by one use of the credential, that D is in its head follows from what the premises p, q and s state
abbrev pub Follows : Book → List Line → Credential → ℕ → ℕ → ℕ → ℕ → Type 0
Follows book earlier (A · r ⟵ entity B) D p q s = (D ≡ B) × AllNone (p ∷ q ∷ s ∷ [])
Follows book earlier (A · r ⟵ role ρ) D p q s = Says book earlier p (ρ ∋ D) × AllNone (q ∷ s ∷ [])
Follows book earlier (A · r ⟵ link r1 r2) D p q s =
    (X : ℕ) × Says book earlier p (A · r1 ∋ X) × Says book earlier q (X · r2 ∋ D) × AllNone (s ∷ [])
Follows book earlier (A · r ⟵ intersection parts) D p q s = InTurn book earlier D parts (p ∷ q ∷ s ∷ [])

-- a line is right given the earlier lines
abbrev pub RightLine : Book → List Line → Line → Type 0
RightLine book earlier (line D c p q s) = (k : Credential) × (book c ≡ some k) × Follows book earlier k D p q s

-- every line is right given the n lines before it
abbrev pub RightSlip : Book → List Line → Type 0
RightSlip book lines = (n : ℕ) (l : Line) → get_elem? lines n ≡ some l → RightLine book (take n lines) l

-- a right slip whose last line states that D is in ρ
pub record SlipFor (book : Book) (ρ : Role) (D : ℕ) (lines : List Line) : Type 0 where
  pub right : RightSlip book lines
  pub last : Says book lines (length lines) (ρ ∋ D)

-- no fact is stated by two lines
abbrev pub NoFactTwice : Book → List Line → Type 0
NoFactTwice book lines = (m n : ℕ) (f : Fact) → Says book lines m f → Says book lines n f → m ≡ n
