-- What an accepted bundle holds, over its entities and width names: its credentials are valid and few, each record is the credential of its
-- number, and a question within it is within the tables.
use Prim.Native.Nat.{ℕ, ◌<◌, ◌≤◌}
use native.Mathlib.Nat.{le_refl}
use native.Mathlib.Omega.{arith}
use mathlib.Core.Path.{◌≡◌, ◌∙◌}
use mathlib.Core.Option.{some}
use mathlib.Core.List.{List}
use Rattle.rt0.specs.Credential.{◌·◌, Credential, head, Valid, AllValid, ValidRole, IsEntity, IsName}
use Rattle.rt0.proofs.Books.{book_numbers}
use Rattle.rt0.proofs.Least.{valid_head}
use Rattle.bundle.specs.declared.read.Sizes.{Sizes}
use Rattle.bundle.specs.Held.{held, book_in}
use Rattle.bundle.specs.Rows.{Accepts}
use Rattle.bundle.specs.Access.{record_of}
use Rattle.records.specs.Form.{credential_of}
use Rattle.bundle.proofs.Accepted.{Contents, accepted_contents, record_credential, record_there}
use Rattle.words.specs.Sizes.{most_entities, width, table_words}
use Rattle.words.specs.Give.{head_place}
use Rattle.words.proofs.Wider.{role_wider, valid_wider}
use Rattle.words.proofs.Given.{place_small, head_valid}

-- the credential that record k of a bundle is
pub record HeldRecord (bytes : List ℕ) (E k : ℕ) : Type 0 where
  pub credential : Credential
  pub numbered : book_in bytes k ≡ some credential
  pub read : credential_of (record_of bytes k) ≡ some credential
  pub valid : Valid E width credential

module _ (bytes : List ℕ) {s : Sizes} (h : Accepts bytes s) where
  contents : Contents bytes s
  contents = accepted_contents bytes s h

  pub held_entities : s.entities ≤ most_entities
  held_entities = contents.entities_most

  pub held_names : s.names ≤ width
  held_names = omega (arith, contents.names_most)

  pub held_valid : AllValid s.entities width (held bytes)
  held_valid k i = valid_wider (le_refl s.entities) held_names k (contents.valid k i)

  pub held_record : (k : ℕ) → 1 ≤ k → k ≤ s.records → HeldRecord bytes s.entities k
  held_record k l m =
      let (credential, numbered) = record_there bytes s h k l m in
      record {
        credential = credential;
        numbered = numbered;
        read = record_credential bytes s h k l m ∙ numbered;
        valid = held_valid credential ((book_numbers (held bytes)).only k credential numbered);
      }

  -- the head of a record has a word
  pub held_place : (k : ℕ) → 1 ≤ k → k ≤ s.records → head_place (record_of bytes k) < table_words
  held_place k l m =
      let this = held_record k l m in
      let ρ = head this.credential in
      let valid = role_wider held_entities (le_refl width) ρ (valid_head s.entities width this.credential this.valid) in
      rw (head_valid held_entities (record_of bytes k) this.credential this.read this.valid) (place_small ρ valid)

  pub question_within : (a r d : ℕ) → IsEntity s.entities d → ValidRole s.entities s.names (a · r) → IsEntity most_entities a × IsName width r × IsEntity most_entities d
  question_within a r d i v = omega (arith, contents.entities_most, contents.names_most)
