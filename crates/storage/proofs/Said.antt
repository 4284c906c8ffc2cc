-- What the functions compute of a record is what the definitions say of the credential that it is.
use Rattle.std.specs.Prelude.{Option, Some, None}
use Prim.Native.Nat.{ℕ, ◌≤◌}
use native.Mathlib.Omega.{arith}
use mathlib.Core.Path.{◌≡◌, refl, sym, ap, ◌∙◌}
use mathlib.Core.Bool.{Bool, true, false, cond, ◌||◌, true≢false}
use mathlib.Core.Option.{some}
use mathlib.Core.List.{List}
use lib.Bits.{bit_or}
use Rattle.rt0.specs.Credential.{Credential, Valid}
use Rattle.rt0.specs.Word.{pick_word}
use Rattle.base.proofs.Flags.{Tells}
use Rattle.records.specs.declared.form.Role.{Role}
use Rattle.records.specs.declared.form.Record.{Record}
use Rattle.records.specs.declared.form.Record.TheVariants as variant
use Rattle.records.specs.Form.{head_of, credential_of}
use Rattle.bundle.specs.declared.read.Sizes.{Sizes}
use Rattle.bundle.specs.Rows.{Accepts}
use Rattle.bundle.specs.Access.{record_of}
use Rattle.bundle.proofs.Accepted.{accepted_contents, record_credential, record_there, holding_sound}
use Rattle.types.specs.declared.Traces.{Traces}
use Rattle.types.specs.Name.{Types}
use Rattle.types.specs.Typed.{StructurallyWellTyped}
use Rattle.types.specs.Flags.{name_traces, three_conditions, structurally}
use Rattle.types.proofs.Told.{structurally_told}
use Rattle.sheet.specs.Types.{types_by}
use Rattle.words.specs.Sizes.{most_entities}
use Rattle.words.specs.Give.{single_of}
use Rattle.storage.specs.declared.typing.Sides.{Sides}
use Rattle.storage.specs.Promise.{SaidOf, SaidOfRecord}
use Rattle.storage.specs.Stored.{sides_of, body_for, structurally_for, subjects_for, shelves_for, shelves_word, stored_for}
use Rattle.storage.proofs.Bits.{held_on}

-- ---- a record by its head

module _ (T : Types) where
  -- a record without a head is no credential
  pub no_head_typed : (k : Option Record) → head_of k ≡ None → false ≡ structurally_for T (credential_of k)
  no_head_typed (Some (variant.Entity h B)) e = cc
  no_head_typed (Some (variant.Role h ρ)) e = cc
  no_head_typed (Some (variant.Link h r1 r2)) e = cc
  no_head_typed (Some (variant.TwoParts h ρ σ)) e = cc
  no_head_typed (Some (variant.ThreeParts h ρ σ τ)) e = cc
  no_head_typed None e = refl

  pub no_head_held : (k : Option Record) → head_of k ≡ None → 0 ≡ shelves_for T (credential_of k)
  no_head_held (Some (variant.Entity h B)) e = cc
  no_head_held (Some (variant.Role h ρ)) e = cc
  no_head_held (Some (variant.Link h r1 r2)) e = cc
  no_head_held (Some (variant.TwoParts h ρ σ)) e = cc
  no_head_held (Some (variant.ThreeParts h ρ σ τ)) e = cc
  no_head_held None e = refl

  -- with a head, by the types of the head and of the body
  head_typed : (k : Option Record) (h : Role) → head_of k ≡ Some h
      → three_conditions (name_traces (T h.name)) (body_for T (credential_of k)) ≡ structurally_for T (credential_of k)
  head_typed (Some (variant.Entity g B)) h e = let same : g ≡ h = cc in rw same
  head_typed (Some (variant.Role g ρ)) h e = let same : g ≡ h = cc in rw same
  head_typed (Some (variant.Link g r1 r2)) h e = let same : g ≡ h = cc in rw same
  head_typed (Some (variant.TwoParts g ρ σ)) h e = let same : g ≡ h = cc in rw same
  head_typed (Some (variant.ThreeParts g ρ σ τ)) h e = let same : g ≡ h = cc in rw same
  head_typed None h e = cc

  pub typed_found : (k : Option Record) (h : Role) (found : Bool) (head body : Traces) → head_of k ≡ Some h → head ≡ name_traces (T h.name)
      → body ≡ body_for T (credential_of k) → found ≡ three_conditions head body → found ≡ structurally_for T (credential_of k)
  typed_found k h found head body e f g r = rw (r, f, g) (head_typed k h e)

  -- and the word of those who must store it, by the sides of its name
  abbrev held_by : Sides → ℕ → ℕ → ℕ
  held_by s A subjects = bit_or (pick_word (s.def || s.all) (single_of A) 0) (pick_word s.subject subjects 0)

  head_held : (k : Option Record) (h : Role) → head_of k ≡ Some h
      → held_by (sides_of (T h.name)) h.entity (subjects_for (credential_of k)) ≡ shelves_for T (credential_of k)
  head_held (Some (variant.Entity g B)) h e = let same : g ≡ h = cc in rw same
  head_held (Some (variant.Role g ρ)) h e = let same : g ≡ h = cc in rw same
  head_held (Some (variant.Link g r1 r2)) h e = let same : g ≡ h = cc in rw same
  head_held (Some (variant.TwoParts g ρ σ)) h e = let same : g ≡ h = cc in rw same
  head_held (Some (variant.ThreeParts g ρ σ τ)) h e = let same : g ≡ h = cc in rw same
  head_held None h e = cc

  pub held_found : (k : Option Record) (h : Role) (s : Sides) (one subjects by_issuer by_subjects : ℕ) → head_of k ≡ Some h → s ≡ sides_of (T h.name)
      → one ≡ single_of h.entity → subjects ≡ subjects_for (credential_of k) → by_issuer ≡ pick_word (s.def || s.all) one 0
      → by_subjects ≡ pick_word s.subject subjects 0 → bit_or by_issuer by_subjects ≡ shelves_for T (credential_of k)
  held_found k h s one subjects by_issuer by_subjects e sides o m i j = rw (i, j, o, m, sides) (head_held k h e)

  -- what is said of it
  pub stored_held : (k l : Option Record) (found : Bool) (shelves : ℕ) → k ≡ l → found ≡ structurally_for T (credential_of k) → found ≡ true
      → shelves ≡ shelves_for T (credential_of k) → Some shelves ≡ stored_for T (credential_of l)
  stored_held k l found shelves same e t s = rw (← same, ← e, t, s)

  pub stored_ill : (k l : Option Record) (found : Bool) → k ≡ l → found ≡ structurally_for T (credential_of k) → found ≡ false
      → None ≡ stored_for T (credential_of l)
  stored_ill k l found same e t = rw (← same, ← e, t)

  -- is what the definitions say
  stored_said : (E R : ℕ) → E ≤ most_entities → (c : Credential) → Valid E R c → SaidOf T c (stored_for T (some c))
  stored_said E R e c v = by (structurally T c) (structurally_told T c)
    where
      by : (b : Bool) → Tells b (StructurallyWellTyped T c) → SaidOf T c (cond b (Some (shelves_word T c)) None)
      by true t = (t.0 refl, held_on E R e T c v)
      by false t = λ w. true≢false (sym (t.1 w))

-- ---- a record of an accepted bundle

module _ (bundle sheet : List ℕ) (s : Sizes) (h : Accepts bundle s) where
  pub record_said : (n : ℕ) → 1 ≤ n → n ≤ s.records → (answer : Option ℕ)
      → answer ≡ stored_for (types_by sheet) (credential_of (record_of bundle n)) → SaidOfRecord bundle sheet n answer
  record_said n l m answer e =
      let (c, there) = record_there bundle s h n l m in
      let contents = accepted_contents bundle s h in
      let sound = holding_sound bundle s h in
      let is : answer ≡ stored_for (types_by sheet) (some c) = e ∙ ap (stored_for (types_by sheet)) (record_credential bundle s h n l m ∙ there) in
      record {
        credential = c;
        there = there;
        said = rw is (stored_said (types_by sheet) _ _ (omega (arith, contents.entities, contents.entities_most)) c (sound.valid c (sound.numbered.only n c there)));
      }
