-- What the benchmark's functions give: the rounds that the tables say, and the length that a list says, 0 for a refusal.
use Rattle.std.specs.Prelude.{ℕ, ◌≡◌, List, Result}
use Rattle.rt0.specs.Credential.{Role}
use Rattle.base.specs.declared.refusal.Refusal.{Refusal}
use Rattle.tables.specs.declared.Filled.{Filled}
use Rattle.tables.specs.Promise.{Tables, TablesPromise, rounds_of}
use Rattle.lists.specs.Promise.{length_of, MembersPromise, RolesPromise}

pub record TablesRounds (bundle : List ℕ) (before after : Tables) (result : ℕ) : Type 0 where
  pub answer : Result Filled (Refusal ℕ)
  pub promise : TablesPromise bundle before after answer
  pub said : result ≡ rounds_of answer

pub record MembersLength (bundle : List ℕ) (ρ : Role) (before after : List ℕ) (result : ℕ) : Type 0 where
  pub answer : Result ℕ (Refusal ℕ)
  pub promise : MembersPromise bundle ρ before after answer
  pub said : result ≡ length_of answer

pub record RolesLength (bundle : List ℕ) (D : ℕ) (before after : List ℕ) (result : ℕ) : Type 0 where
  pub answer : Result ℕ (Refusal ℕ)
  pub promise : RolesPromise bundle D before after answer
  pub said : result ≡ length_of answer
