-- A line follows from the premises that the index has: the facts that a credential needs are held by the words, and so have lines.
use Prim.Native.Nat.{ℕ, ◌-◌, ◌≤◌}
use native.Mathlib.Omega.{arith}
use mathlib.Core.Path.{◌≡◌, refl}
use mathlib.Core.List.Memᴰ
use mathlib.Core.List.{List, [], ◌∷◌}
use Rattle.rt0.specs.Credential.{Role, ◌·◌, entity, role, link, intersection, Credential, ◌⟵◌, ◌∈◌, entity_of, name_of}
use Rattle.rt0.specs.Credential.{Valid, ValidRole, IsEntity}
use Rattle.rt0.specs.Book.{Book}
use Rattle.rt0.specs.Slip.{Line, ◌∋◌, Says, InTurn, Follows}
use Rattle.rt0.specs.Word.{bit, word_at, give_word}
use Rattle.rt0.proofs.Bits.{bit_power}
use Rattle.rt0.proofs.Words.{meet_bit}
use Rattle.words.specs.Sizes.{most_entities, width}
use Rattle.words.specs.Give.{word_of}
use Rattle.words.proofs.Wider.{role_wider}
use Rattle.words.proofs.Given.{word_valid}
use Rattle.premises.specs.Fact.{line_of, Backed}
use Rattle.ledger.specs.Ledger.{Ledger}
use Rattle.premises.specs.Premise.{LinesInTurn, PremisesFor}
use Rattle.ledger.proofs.Ledgers.{line_there}

module _ (E : ℕ) (e : E ≤ most_entities) (book : Book) (index : List ℕ) (lines : List Line) (ledger : Ledger book index lines)
    (ws : List ℕ) (backed : Backed ws index) where
  -- the line of a fact that the words hold
  said : (ρ : Role) (D p : ℕ) → ValidRole E width ρ → IsEntity most_entities D → bit (word_at width ws ρ) (D - 1) ≡ 1 → p ≡ line_of index ρ D
      → Says book lines p (ρ ∋ D)
  said ρ D p v d h i = rw i (line_there book index lines ledger ws backed ρ D (role_wider e (omega arith) ρ v) d h)

  -- the word that is read of a valid role is the role's
  held_word : (ρ : Role) → ValidRole E width ρ → word_of ws (entity_of ρ) (name_of ρ) ≡ word_at width ws ρ
  held_word ρ v = word_valid ws ρ (role_wider e (omega arith) ρ v)

  in_turn : (D : ℕ) → IsEntity most_entities D → (ρs : List Role) (ps : List ℕ) → ((ρ : Role) → ρ ∈ ρs → ValidRole E width ρ)
      → ((ρ : Role) → ρ ∈ ρs → bit (word_at width ws ρ) (D - 1) ≡ 1) → LinesInTurn index D ρs ps → InTurn book lines D ρs ps
  in_turn D d [] ps v h t = t
  in_turn D d (ρ ∷ ρs) [] v h t = t
  in_turn D d (ρ ∷ ρs) (p ∷ ps) v h t = (
    said ρ D p (v ρ (Memᴰ.head refl)) d (h ρ (Memᴰ.head refl)) t.0,
    in_turn D d ρs ps (λ σ i. v σ (Memᴰ.tail i)) (λ σ i. h σ (Memᴰ.tail i)) t.1,
  )

  -- what a credential gives from the words follows from the premises that the index has
  pub premises_follow : (k : Credential) → Valid E width k → (D p q s : ℕ) → IsEntity most_entities D → bit (give_word E width ws k) (D - 1) ≡ 1
      → PremisesFor E ws index k D p q s → Follows book lines k D p q s
  unfolding give_word
  premises_follow (A · r ⟵ entity B) v D p q s d h t = (omega (arith, (bit_power (B - 1) (D - 1)).0 h), t)
  premises_follow (A · r ⟵ role ρ) v D p q s d h t = (said ρ D p v.1 d h t.0, t.1)
  premises_follow (A · r ⟵ link r1 r2) v D p q s d h (X, b, i, j, none) = (
    X,
    said (A · r1) X p (v.0.0, v.1.0) (omega arith) (rw (held_word (A · r1) (v.0.0, v.1.0)) at b.first) i,
    said (X · r2) D q (b.is, v.1.1) d (rw (held_word (X · r2) (b.is, v.1.1)) at b.second) j,
    none,
  )
  premises_follow (A · r ⟵ intersection []) v D p q s d h t = absurd (omega arith)
  premises_follow (A · r ⟵ intersection (ρ ∷ ρs)) v D p q s d h t =
      in_turn D d (ρ ∷ ρs) (p ∷ q ∷ s ∷ []) v.1.2 ((meet_bit width ws ρ ρs (D - 1)).0 h) t
