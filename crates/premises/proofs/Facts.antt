-- Facts by number: a fact's number gives back its role's word, its member's bit and the fact, and no two numbers have one fact.
use Prim.Native.Nat.{ℕ, suc, ◌+◌, ◌-◌, ◌*◌, ◌/◌, ◌%◌, ◌<◌}
use native.Mathlib.Omega.{arith}
use mathlib.Core.Path.{◌≡◌}
use mathlib.Core.List.{List}
use Rattle.rt0.specs.Credential.{Role, ◌·◌, entity_of, name_of, ValidRole, IsEntity}
use Rattle.rt0.specs.Slip.{◌∋◌}
use Rattle.rt0.specs.Word.{bit, place, word_at}
use Rattle.base.proofs.Flags.{inside_flag}
use Rattle.words.specs.Sizes.{most_entities, width, fact_count}
use Rattle.words.specs.Give.{place_of}
use Rattle.words.proofs.Given.{place_valid}
use Rattle.premises.specs.Fact.{fact_number, fact, HasFact}

-- the number of a fact of a valid role
abbrev numbered : Role → ℕ → ℕ
numbered ρ D = most_entities * place width ρ + (D - 1)

-- the number of a fact of the tables
pub number_member : (ρ : Role) (D : ℕ) → IsEntity most_entities D
    → fact_number ρ D ≡ most_entities * place_of (entity_of ρ) (name_of ρ) + (D - 1)
unfolding fact_number
number_member ρ D d = rw (inside_flag most_entities D d.above d.within)

number_is : (ρ : Role) (D : ℕ) → ValidRole most_entities width ρ → IsEntity most_entities D → fact_number ρ D ≡ numbered ρ D
number_is ρ D v d = rw (number_member ρ D d, place_valid ρ v)

pub number_within : (ρ : Role) (D : ℕ) → ValidRole most_entities width ρ → IsEntity most_entities D → fact_number ρ D < fact_count
number_within (A · r) D v d = rw (number_is (A · r) D v d) (omega arith)

pub number_fact : (ρ : Role) (D : ℕ) → ValidRole most_entities width ρ → IsEntity most_entities D → fact (fact_number ρ D) ≡ (ρ ∋ D)
unfolding fact
number_fact (A · r) D v d =
    let a : suc (numbered (A · r) D / most_entities / width) ≡ A = omega arith in
    let n : suc (numbered (A · r) D / most_entities % width) ≡ r = omega arith in
    let m : suc (numbered (A · r) D % most_entities) ≡ D = omega arith in
    rw (number_is (A · r) D v d, a, n, m)

-- the words hold a fact at its role's word and its member's bit
pub number_holds : (ws : List ℕ) (ρ : Role) (D : ℕ) → ValidRole most_entities width ρ → IsEntity most_entities D
    → bit (word_at width ws ρ) (D - 1) ≡ 1 → HasFact ws (fact_number ρ D)
number_holds ws (A · r) D v d h =
    let word : numbered (A · r) D / most_entities ≡ place width (A · r) = omega arith in
    let member : numbered (A · r) D % most_entities ≡ D - 1 = omega arith in
    rw (number_is (A · r) D v d, word, member) h

pub fact_injective : (f g : ℕ) → fact f ≡ fact g → f ≡ g
unfolding fact
fact_injective f g e =
    let a : suc (f / most_entities / width) ≡ suc (g / most_entities / width) = cc in
    let n : suc (f / most_entities % width) ≡ suc (g / most_entities % width) = cc in
    let m : suc (f % most_entities) ≡ suc (g % most_entities) = cc in
    omega arith
