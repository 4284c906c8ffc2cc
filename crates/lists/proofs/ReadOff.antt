-- The lists that are read off the two tables of a holding are right.
use Prim.Native.Nat.{ℕ, suc, ◌-◌, ◌<◌, ◌≤◌}
use native.Mathlib.Numerals.{sub-one}
use native.Mathlib.Omega.{arith}
use mathlib.Core.Path.{◌≡◌}
use mathlib.Core.Bool.{true}
use mathlib.Core.Logic.Iff
use mathlib.Core.Logic.{◌↔◌}
use mathlib.Core.List.{List}
use lib.ListN.{get_or}
use Rattle.rt0.specs.Credential.{◌·◌, IsEntity, IsName}
use Rattle.rt0.specs.Membership.{Assignment}
use Rattle.rt0.specs.Word.{bit, word_at, Shows}
use Rattle.rt0.specs.Holding.{Holding, SoundHolding}
use Rattle.rt0.proofs.Shown.{place_of_lem}
use Rattle.base.proofs.Flags.{eq_tells}
use Rattle.words.specs.Sizes.{most_entities, width, table_words}
use Rattle.words.specs.Give.{word_of}
use Rattle.words.proofs.Given.{word_valid}
use Rattle.lists.specs.Asked.{SureIn, PossibleIn, PersonBefore, RightMembers, RoleBefore, RightRoles}
use Rattle.lines.specs.Numbered.{role_at, is_one, members_up_to, roles_up_to}
use Rattle.lists.specs.Shown.{TablesOf}
use Rattle.lines.proofs.Numbering.{numbered_right}
use Rattle.lists.proofs.Found.{persons_rise, roles_rise, sure_possible, person_found, role_found}

module _ (P : Assignment) (ws : List ℕ) (shown : Shows most_entities width ws P) where
  -- bit i of a role's word is that of person i + 1
  person_told : (A r : ℕ) → IsEntity most_entities A → IsName width r → (i : ℕ) → i < most_entities → (is_one (word_of ws A r) i ≡ true) ↔ P (A · r) (suc i)
  person_told A r a n i l =
      let bit_told : (bit (word_at width ws (A · r)) i ≡ 1) ↔ P (A · r) (suc i) = rw (sub-one (suc i)) at (shown A r (suc i) a n (omega arith)) in
      rw (word_valid ws (A · r) (a, n)) (Iff.trans (eq_tells (bit (word_at width ws (A · r)) i) 1) bit_told)

  -- a person's bit of word i is that of the role with that word
  role_told : (D : ℕ) → IsEntity most_entities D → (i : ℕ) → i < table_words → (is_one (get_or ws i 0) (D - 1) ≡ true) ↔ P (role_at width i) D
  role_told D d i l =
      let (a, n, at) = place_of_lem most_entities width i l in
      Iff.trans (eq_tells (bit (get_or ws i 0) (D - 1)) 1) (rw at at (shown _ _ D a n d))

module _ (h : Holding) (sound : SoundHolding h) (entities : h.entities ≤ most_entities) (names : h.names ≤ width) {ws vs : List ℕ} (tables : TablesOf h ws vs) where
  pub members_right : (A r : ℕ) → IsEntity h.entities A → IsName h.names r
      → RightMembers h (A · r) (members_up_to (word_of ws A r) (word_of vs A r) most_entities)
  members_right A r a n =
      numbered_right suc (λ i. is_one (word_of ws A r) i) (λ i. is_one (word_of vs A r) i) PersonBefore persons_rise (λ D. SureIn h (A · r) D)
      (λ D. PossibleIn h (A · r) D) most_entities (λ D s. sure_possible h (A · r) D s)
      (λ D p. person_found h sound most_entities entities (A · r) D p)
      (person_told (SureIn h) ws tables.sure_shown A r (omega arith) (omega arith))
      (person_told (PossibleIn h) vs tables.possible_shown A r (omega arith) (omega arith))

  pub roles_right : (D : ℕ) → IsEntity h.entities D → RightRoles h D (roles_up_to ws vs (D - 1) table_words)
  roles_right D d =
      numbered_right (role_at width) (λ i. is_one (get_or ws i 0) (D - 1)) (λ i. is_one (get_or vs i 0) (D - 1)) RoleBefore (roles_rise width)
      (λ ρ. SureIn h ρ D) (λ ρ. PossibleIn h ρ D) table_words (λ ρ s. sure_possible h ρ D s)
      (λ ρ p. role_found h sound most_entities width entities names ρ D p)
      (role_told (SureIn h) ws tables.sure_shown D (omega arith)) (role_told (PossibleIn h) vs tables.possible_shown D (omega arith))
