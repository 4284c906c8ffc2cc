-- The shelves that must hold a credential, as a word: one bit a shelf.
use Rattle.std.specs.Prelude.{ℕ, ◌-◌, ◌^◌, ◌<◌, ◌≡◌, ◌↔◌}
use Rattle.rt0.specs.Credential.{Credential, IsEntity}
use Rattle.rt0.specs.Word.{bit}
use Rattle.types.specs.Name.{Types}
use Rattle.types.specs.Typed.{MustStore}
use Rattle.words.specs.Sizes.{most_entities}

-- exactly the shelves of those who must store the credential: A is bit A − 1
pub record HeldOn (T : Types) (c : Credential) (shelves : ℕ) : Type 0 where
  pub each : (A : ℕ) → IsEntity most_entities A → (bit shelves (A - 1) ≡ 1) ↔ MustStore T c A
  -- there are no other bits
  pub small : shelves < 2 ^ most_entities
