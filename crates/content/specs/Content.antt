-- What a bundle holds: E, R, the marks of the shelves and the records. When this is valid; the content that bytes have; and the content that
-- is given as E, R, a list of mark bytes and a list of records one after the other.
use Rattle.std.specs.Prelude.{ℕ, zero, suc, ◌+◌, ◌-◌, ◌*◌, ◌/◌, ◌<◌, ◌≤◌, ◌≡◌, Bool, false, cond, not, ◌&&◌, ◌||◌, List, [], ◌∷◌, ◌++◌, length, get_or, take, drop, eqb, ltb, leb, Option, Some, None}
use Rattle.base.specs.Byte.{byte_at}
use Rattle.base.specs.Range.{outside}
use Rattle.base.specs.Lowest.{any_below}
use Rattle.records.specs.Mistake.{record_wrong}
use Rattle.bundle.specs.declared.access.Mark.{Mark}
use Rattle.bundle.specs.declared.access.Mark.TheVariants.{Present, Absent}
use Rattle.bundle.specs.Edition.{most_names}
use Rattle.bundle.specs.Layout.{entities_of, names_of, records_of, record_bytes}

pub record Content : Type 0 where
  pub entities : ℕ
  pub names : ℕ
  -- one byte for each of the 32 shelves in order: 1 present, 2 absent, 0 for a shelf that is not there
  pub marks : List ℕ
  -- in order, each a list of twelve bytes
  pub records : List (List ℕ)

-- the most entities and records that a bundle has
abbrev pub most_entities : ℕ
most_entities = 32

abbrev pub most_records : ℕ
most_records = 240

-- the number of records, N
abbrev pub count : Content → ℕ
count c = length c.records

-- the record that has n before it; where there is none, no bytes
abbrev pub record_at : Content → ℕ → List ℕ
record_at c n = get_or c.records n []

-- the mark of shelf A, counted from 1
abbrev pub mark_in : Content → ℕ → Option Mark
mark_in c A =
    cond (outside 32 A) None (cond (eqb (byte_at c.marks (A - 1)) 1) (Some Present) (cond (eqb (byte_at c.marks (A - 1)) 2) (Some Absent) None))

-- the mark byte of the shelf that has i before it is wrong over E entities: 1 or 2 for those that there are, 0 for the others
abbrev pub mark_wrong : ℕ → ℕ → ℕ → Bool
mark_wrong E i b = (ltb i E && (not (eqb b 1) && not (eqb b 2))) || (leb E i && not (eqb b 0))

-- the marks are wrong: there are not 32, or one of them is wrong
unfoldable pub marks_wrong : ℕ → List ℕ → Bool
marks_wrong E marks = not (eqb (length marks) 32) || any_below (λ i. mark_wrong E i (byte_at marks i)) 32

-- a content that a bundle can have
pub record ValidContent (c : Content) : Type 0 where
  pub some_entity : 1 ≤ c.entities
  pub entities_most : c.entities ≤ most_entities
  pub some_name : 1 ≤ c.names
  pub names_most : c.names ≤ most_names
  pub right_marks : marks_wrong c.entities c.marks ≡ false
  pub records_most : count c ≤ most_records
  pub twelve : (n : ℕ) → n < count c → length (record_at c n) ≡ 12
  pub right_records : (n : ℕ) → n < count c → record_wrong c.entities c.names (record_at c n) ≡ false

-- the first n of what a function gives, in order
unfoldable pub tabulate : {A : Type 0} → (ℕ → A) → ℕ → List A
tabulate f zero = []
tabulate f (suc n) = tabulate f n ++ (f n ∷ [])

-- the content that bytes have
abbrev pub content_of : List ℕ → Content
content_of bytes =
    record {
      entities = entities_of bytes;
      names = names_of bytes;
      marks = tabulate (λ i. byte_at bytes (4 + i)) 32;
      records = tabulate (record_bytes bytes) (records_of bytes);
    }

-- the record that has n before it in a list of records one after the other, and the number of whole records of such a list
abbrev pub listed : List ℕ → ℕ → List ℕ
listed list n = take 12 (drop (12 * n) list)

abbrev pub whole_records : List ℕ → ℕ
whole_records list = length list / 12

-- the content that is given so
abbrev pub content_from : ℕ → ℕ → List ℕ → List ℕ → Content
content_from E R marks list =
    record { entities = E; names = R; marks = marks; records = tabulate (listed list) (whole_records list) }

-- one record more, put last
abbrev pub added : Content → List ℕ → Content
added c bytes = record { entities = c.entities; names = c.names; marks = c.marks; records = c.records ++ (bytes ∷ []) }
