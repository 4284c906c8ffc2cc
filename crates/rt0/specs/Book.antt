-- A book: the credentials by number, from 1. Slips name credentials by their numbers in a book, so that a number can cease to name a
-- credential while the numbers of the others stay; membership is over a list of credentials. Here: the book of a list, when a book
-- numbers the credentials of a list, and when one book keeps what another names.
use Rattle.std.specs.Prelude.{ℕ, zero, suc, ◌≤◌, ◌≡◌, List}
use Rattle.std.proofs.Math.Option.{Option, none, some}
use Rattle.std.proofs.Math.ListN.{get_elem?}
use Rattle.rt0.specs.Credential.{Credential, ◌∈◌}

-- item n of a list, counted from 1
abbrev pub item : {A : Type 0} → List A → ℕ → Option A
item l zero = none
item l (suc n) = get_elem? l n

-- the credential that each number names, if it names one
abbrev pub Book : Type 0
Book = ℕ → Option Credential

-- the book of a list: number n names item n
abbrev pub book_of : List Credential → Book
book_of cs n = item cs n

-- every credential that the book names is in the list
abbrev pub NamesOnly : Book → List Credential → Type 0
NamesOnly book cs = (n : ℕ) (k : Credential) → book n ≡ some k → k ∈ cs

-- the book numbers the credentials of the list with numbers up to most
pub record Numbers (book : Book) (cs : List Credential) (most : ℕ) : Type 0 where
  -- a number that names a credential is 1 to most
  pub within : (n : ℕ) (k : Credential) → book n ≡ some k → (1 ≤ n) × (n ≤ most)
  -- and the credential is in the list
  pub only : NamesOnly book cs
  -- every credential of the list has a number
  pub every : (k : Credential) → k ∈ cs → (n : ℕ) × (book n ≡ some k)

-- the second book keeps what the first names
abbrev pub Keeps : Book → Book → Type 0
Keeps book more = (n : ℕ) (k : Credential) → book n ≡ some k → more n ≡ some k
