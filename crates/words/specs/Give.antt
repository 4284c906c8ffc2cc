-- The words of a table and what one use of a record gives, as the functions answer at every input. A role outside the tables, of width
-- words for each of most_entities, has no word and holds nobody; so what a record gives has an answer whether or not the record is valid.
-- Of a valid record it is RT0's own (proofs/Given).
use Rattle.std.specs.Prelude.{ℕ, zero, suc, ◌-◌, ◌^◌, min, Bool, cond, ◌||◌, List, ◌++◌, length, get_or, set, take, drop, eqb, Option, Some, None}
use Rattle.std.specs.Int.Bits.{bit_and, bit_or}
use Rattle.rt0.specs.Credential.{◌·◌}
use Rattle.rt0.specs.Word.{bit, place, word_at, pick_word}
use Rattle.records.specs.declared.form.Role.{Role}
use Rattle.records.specs.declared.form.Record.{Record}
use Rattle.records.specs.declared.form.Record.TheVariants as variant
use Rattle.records.specs.Form.{head_of}
use Rattle.base.specs.Range.{outside}
use Rattle.words.specs.Sizes.{most_entities, width, table_words}

-- the role A.r is outside the tables
unfoldable pub outside_tables : ℕ → ℕ → Bool
outside_tables A r = outside most_entities A || outside width r

-- the number of a role's word, table_words where it has none
unfoldable pub place_of : ℕ → ℕ → ℕ
place_of A r = cond (outside_tables A r) table_words (place width (A · r))

-- the word of a role, 0 where it has none and where the words end before it
unfoldable pub word_of : List ℕ → ℕ → ℕ → ℕ
word_of ws A r = cond (outside_tables A r) 0 (word_at width ws (A · r))

-- the words of one table over those of another, as far as both go
unfoldable pub copied_over : List ℕ → List ℕ → List ℕ
copied_over from to = let n = min (length from) (length to) in take n from ++ drop n to

-- the word of one entity
unfoldable pub single_of : ℕ → ℕ
single_of B = cond (outside most_entities B) 0 (2 ^ (B - 1))

-- every member of X.r2, for every member X up to n of the word w
unfoldable pub link_of : List ℕ → ℕ → ℕ → ℕ → ℕ
link_of ws w r2 zero = 0
link_of ws w r2 (suc n) = bit_or (link_of ws w r2 n) (pick_word (eqb (bit w n) 1) (word_of ws (suc n) r2) 0)

-- what one use of a record gives from the words, over E entities
unfoldable pub give_of : ℕ → List ℕ → Option Record → ℕ
give_of E ws (Some (variant.Entity h B)) = single_of B
give_of E ws (Some (variant.Role h ρ)) = word_of ws ρ.entity ρ.name
give_of E ws (Some (variant.Link h r1 r2)) = link_of ws (word_of ws h.entity r1) r2 (min E most_entities)
give_of E ws (Some (variant.TwoParts h ρ σ)) = bit_and (word_of ws ρ.entity ρ.name) (word_of ws σ.entity σ.name)
give_of E ws (Some (variant.ThreeParts h ρ σ τ)) =
    bit_and (word_of ws ρ.entity ρ.name) (bit_and (word_of ws σ.entity σ.name) (word_of ws τ.entity τ.name))
give_of E ws None = 0

-- the number of the word of a head, table_words where there is none
abbrev pub head_word : Option Role → ℕ
head_word (Some h) = place_of h.entity h.name
head_word None = table_words

-- the number of the word of a record's head
abbrev pub head_place : Option Record → ℕ
head_place k = head_word (head_of k)

-- the words acc after one use of a record on the words ws
abbrev pub use_record : ℕ → List ℕ → List ℕ → Option Record → List ℕ
use_record E ws acc k = set acc (head_place k) (bit_or (get_or acc (head_place k) 0) (give_of E ws k))
