-- Refusals. A table of refusals is a list of rows in the order in which they go first; a row has its number and says at which place it
-- applies. Numbers need not rise, and one may occur twice. The refusal that is due is that of the first row that applies.
-- A promise says so of an answer's number and place (`Judged`); a test that computes each row's place (`Test`) links it to code.
use Rattle.std.specs.Prelude.{ℕ, suc, ◌+◌, ◌≤◌, ◌≡◌, Bool, cond, ◌⊎◌, ◌↔◌, List, [], ◌∷◌, ltb}
use Rattle.std.proofs.Math.Option.{Option, none, some}
use Rattle.base.specs.Lowest.{lowest}

-- a row: the number that it gives, and the places at which it applies
pub record Row : Type 1 where
  pub number : ℕ
  pub At : ℕ → Type 0

abbrev pub row : ℕ → (ℕ → Type 0) → Row
row n At = record { number = n; At = At }

-- where this holds, at that place
abbrev pub AtPlace : ℕ → Type 0 → ℕ → Type 0
AtPlace n P place = (place ≡ n) × P

abbrev pub AtZero : Type 0 → ℕ → Type 0
AtZero P = AtPlace 0 P

-- at the places of At, counted from 1 and not from 0
abbrev pub FromOne : (ℕ → Type 0) → ℕ → Type 0
FromOne At place = (k : ℕ) × (place ≡ suc k) × At k

-- the row applies, at some place
abbrev pub Applies : Row → Type 0
Applies r = (place : ℕ) × r.At place

-- no row applies
abbrev pub Clear : List Row → Type 0
Clear [] = Unit {0}
Clear (r ∷ rs) = (Applies r → ⊥) × Clear rs

-- the refusal with this number and place is due: its row applies there, and no row before it applies
abbrev pub Due : List Row → ℕ → ℕ → Type 0
Due [] number place = ⊥
Due (r ∷ rs) number place = ((r.number ≡ number) × r.At place) ⊎ ((Applies r → ⊥) × Due rs number place)

-- what an answer with this number and place comes to: a refusal that is due, with what every refusal keeps to; or, where no row applies,
-- number and place 0 and what is then given
pub data Judged (rows : List Row) (number place : ℕ) (Kept Given : Type 0) : Type 0 where
  refused : Due rows number place → Kept → Judged rows number place Kept Given
  passed : number ≡ 0 → place ≡ 0 → Clear rows → Given → Judged rows number place Kept Given

-- What a table has to be: each row applies at one place at most, and has a number, which 0 is not.

abbrev pub OnePlace : (ℕ → Type 0) → Type 0
OnePlace At = (p q : ℕ) → At p → At q → p ≡ q

abbrev pub AllOnePlace : List Row → Type 0
AllOnePlace [] = Unit {0}
AllOnePlace (r ∷ rs) = OnePlace r.At × AllOnePlace rs

abbrev pub AllNumbered : List Row → Type 0
AllNumbered [] = Unit {0}
AllNumbered (r ∷ rs) = (1 ≤ r.number) × AllNumbered rs

-- Tests.

-- a refusal, or none
pub data Refusal : Type 0 where
  given : ℕ → ℕ → Refusal
  clear : Refusal

-- a row as a test that computes: its number, and its place where it applies
pub record Test : Type 0 where
  pub number : ℕ
  pub place : Option ℕ

abbrev pub test : ℕ → Option ℕ → Test
test n p = record { number = n; place = p }

-- place 0 where this holds
abbrev pub zero_if : Bool → Option ℕ
zero_if b = cond b (some 0) none

-- this place where it is below n
abbrev pub place_below : ℕ → ℕ → ℕ → Option ℕ
place_below k n place = cond (ltb k n) (some place) none

-- the lowest number below n at which the test holds, counted from 1
abbrev pub lowest_from_one : (ℕ → Bool) → ℕ → Option ℕ
lowest_from_one holds n = place_below (lowest holds n) n (lowest holds n + 1)

abbrev pub pick : ℕ → Option ℕ → Refusal → Refusal
pick n (some p) later = given n p
pick n none later = later

-- the first test that applies
abbrev pub first : List Test → Refusal
first [] = clear
first (t ∷ ts) = pick t.number t.place (first ts)

-- the test's place is there exactly where the row applies
abbrev pub Finds : Option ℕ → (ℕ → Type 0) → Type 0
Finds found At = (p : ℕ) → (found ≡ some p) ↔ At p

-- each test decides the row at its place in the list
abbrev pub Decided : List Test → List Row → Type 0
Decided [] [] = Unit {0}
Decided [] (r ∷ rs) = ⊥
Decided (t ∷ ts) [] = ⊥
Decided (t ∷ ts) (r ∷ rs) = ((t.number ≡ r.number) × Finds t.place r.At) × Decided ts rs
