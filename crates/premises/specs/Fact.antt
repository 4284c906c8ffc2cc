-- Facts by number, and the index that has the number of the line that states each. That D is in ρ is fact most_entities p + D − 1, p being
-- the number of ρ's word: facts are numbered as the bits of a table. 0 in the index means that no line states the fact.
use Rattle.std.specs.Prelude.{ℕ, suc, ◌+◌, ◌-◌, ◌*◌, ◌/◌, ◌%◌, ◌<◌, ◌≡◌, cond, List, get_or}
use Rattle.rt0.specs.Credential.{Role, ◌·◌, entity_of, name_of}
use Rattle.rt0.specs.Slip.{Fact, ◌∋◌}
use Rattle.rt0.specs.Word.{bit}
use Rattle.base.specs.Range.{outside}
use Rattle.words.specs.Sizes.{most_entities, width, fact_count}
use Rattle.words.specs.Give.{place_of}

-- the number of a fact, fact_count where D is nobody
unfoldable pub fact_number : Role → ℕ → ℕ
fact_number ρ D = cond (outside most_entities D) fact_count (most_entities * place_of (entity_of ρ) (name_of ρ) + (D - 1))

-- the fact of a number
unfoldable pub fact : ℕ → Fact
fact f = suc (f / most_entities / width) · suc (f / most_entities % width) ∋ suc (f % most_entities)

-- what the index has for a fact
abbrev pub line_of : List ℕ → Role → ℕ → ℕ
line_of index ρ D = get_or index (fact_number ρ D) 0

-- the index has a line for the fact of a number
abbrev pub HasLine : List ℕ → ℕ → Type 0
HasLine index f = get_or index f 0 ≡ 0 → ⊥

-- the words hold the fact of a number
abbrev pub HasFact : List ℕ → ℕ → Type 0
HasFact ws f = bit (get_or ws (f / most_entities) 0) (f % most_entities) ≡ 1

-- the index has a line for each fact that the words hold
abbrev pub Backed : List ℕ → List ℕ → Type 0
Backed ws index = (f : ℕ) → f < fact_count → HasFact ws f → HasLine index f
