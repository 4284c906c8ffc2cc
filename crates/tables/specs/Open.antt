-- Which roles are open: by the marks of a bundle and the names that any absent shelf opens; and as one value that the code computes once and
-- hands on, a word of entities and a word of names.
use Rattle.std.specs.Prelude.{ℕ, suc, ◌-◌, Bool, cond, ◌||◌, List, eqb}
use Rattle.rt0.specs.Credential.{◌·◌}
use Rattle.rt0.specs.Completion.{is_absent, Open, open_with}
use Rattle.rt0.specs.Word.{bit, bits_below, open_words}
use Rattle.bundle.specs.Layout.{entities_of}
use Rattle.bundle.specs.Held.{shelves}
use Rattle.tables.specs.declared.start.OpenRoles.{OpenRoles}
use Rattle.bundle.specs.declared.read.Sizes.{Sizes}
use Rattle.words.specs.Sizes.{width, table_words}

-- the names in a word: r at bit r − 1
abbrev pub names_in : ℕ → ℕ → Bool
names_in names r = eqb (bit names (r - 1)) 1

-- by a bundle's marks, with these names
abbrev pub open_names : ℕ → List ℕ → Open
open_names names bytes = open_with (names_in names) (shelves bytes) (entities_of bytes)

-- role A.r is open where bit A − 1 of the word of entities is 1, or bit r − 1 of the word of names
abbrev pub open_in : OpenRoles → Open
open_in o (A · r) = eqb (bit o.entities (A - 1)) 1 || eqb (bit o.names (r - 1)) 1

-- no role is open
abbrev pub nothing_open : OpenRoles
nothing_open = record { entities = 0; names = 0 }

-- the word of the absent entities up to n
unfoldable pub absent_word : List ℕ → ℕ → ℕ
absent_word bytes n = bits_below (λ d. is_absent (shelves bytes (suc d))) n

-- the roles of the absent entities up to E are open, and those of the names in a word if any entity is absent
abbrev pub opened_roles : List ℕ → ℕ → ℕ → OpenRoles
opened_roles bytes E names = record { entities = absent_word bytes E; names = cond (eqb (absent_word bytes E) 0) 0 names }

-- the table that the rounds start from: everyone in every open role, and nobody elsewhere
abbrev pub start_words : Sizes → OpenRoles → List ℕ
start_words s o = open_words s.entities s.names width (open_in o) table_words
