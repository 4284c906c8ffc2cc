-- Any number of appends one after the other, each to the bundle that the one before left in the buffer.
use Rattle.std.specs.Prelude.{ℕ, List, [], ◌∷◌, ◌++◌, Ok}
use Rattle.rt0.specs.Credential.{Credential}
use Rattle.records.specs.Bytes.{credential_in}
use Rattle.writer.specs.Promise.{Appends}

-- from a buffer with a bundle of n bytes to one with a bundle of m bytes, and the credentials that were put last on the way, in order
pub data Appended (before : List ℕ) (n : ℕ) : List ℕ → ℕ → List Credential → Type 0 where
  no_more : Appended before n before n []
  one_more : {middle after : List ℕ} {k m : ℕ} {ks : List Credential} (bytes : List ℕ) → Appended before n middle k ks → Appends middle k bytes (Ok m) after
      → Appended before n after m (ks ++ (credential_in bytes ∷ []))
