-- What the answers on storage come to, on the bytes of a bundle: where every record is answered with the shelves that must hold it, all
-- credentials are structurally well typed. If besides none of them is of form 4, leaving out every credential whose head's name is not
-- issuer-traces-all leaves the sure members of every issuer-traces-all role the same.
use Rattle.std.specs.Prelude.{Ok, Some}
use Prim.Native.Nat.{ℕ, ◌≤◌}
use mathlib.Core.Path.{◌≡◌, refl, sym, ◌∙◌}
use mathlib.Core.Logic.{◌↔◌}
use mathlib.Core.Option.{some-injective}
use mathlib.Core.List.{List}
use Rattle.rt0.specs.Credential.{Role, name_of}
use Rattle.rt0.specs.Membership.{Member}
use Rattle.base.proofs.Refusals.{judged_given}
use Rattle.bundle.specs.declared.read.Sizes.{Sizes}
use Rattle.bundle.specs.Layout.{records_of}
use Rattle.bundle.specs.Rows.{Accepts}
use Rattle.bundle.specs.Held.{held}
use Rattle.bundle.proofs.Accepted.{holding_sound}
use Rattle.types.specs.Name.{IssuerTracesAll}
use Rattle.types.specs.Typed.{AllTyped, NoneTogether, traced}
use Rattle.types.proofs.Traced.{traced_members}
use Rattle.sheet.specs.Types.{types_by}
use Rattle.storage.specs.Promise.{storage_rows, StoragePromise}
use Rattle.storage.proofs.Refusals.{storage_places, storage_numbers}

-- every record is answered with some shelves
abbrev AllHeld : List ℕ → List ℕ → Type 0
AllHeld bundle sheet = (n : ℕ) → 1 ≤ n → n ≤ records_of bundle → (shelves : ℕ) × StoragePromise bundle sheet n (Ok (Some shelves))

module _ (bundle sheet : List ℕ) (s : Sizes) (h : Accepts bundle s) (all : AllHeld bundle sheet) where
  pub held_typed : AllTyped (types_by sheet) (held bundle)
  held_typed c i =
      let numbered = (holding_sound bundle s h).numbered in
      let (n, there) = numbered.every c i in
      let (low, high) = numbered.within n c there in
      let (shelves, promise) = all n low high in
      let said = (judged_given (storage_rows bundle sheet n) (storage_places bundle sheet n) (storage_numbers bundle sheet n) promise refl).1 in
      let same : said.credential ≡ c = some-injective _ _ (sym said.there ∙ there) in
      rw same at said.said.0

  pub members_traced : NoneTogether (held bundle) → (ρ : Role) (D : ℕ) → IssuerTracesAll (types_by sheet (name_of ρ))
      → Member (held bundle) ρ D ↔ Member (traced (types_by sheet) (held bundle)) ρ D
  members_traced none = traced_members (types_by sheet) (held bundle) held_typed none
