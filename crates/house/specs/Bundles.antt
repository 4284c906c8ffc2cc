-- The bundles of the small house and its sheet, byte by byte: block 0 from E, R, N and the marks, the record block from the paper's record lines, with
-- zeros filled in, and the two bytes of each block's check as numbers. That these are the right ones is part of what is proved.
use Rattle.std.specs.Prelude.{ℕ, ◌-◌, List, [], ◌∷◌, ◌++◌, length, take, drop, replicate}

-- these bytes, and zeros behind them up to n bytes
unfoldable pub filled : ℕ → List ℕ → List ℕ
filled n bytes = bytes ++ replicate (n - length bytes) 0

-- each record in its twelve bytes
unfoldable pub record_bytes : List (List ℕ) → List ℕ
record_bytes [] = []
record_bytes (bytes ∷ more) = filled 12 bytes ++ record_bytes more

-- block 0: 1, E, R, N, the marks, zeros up to byte 509, and the check, low byte first
unfoldable pub first_block : ℕ → ℕ → ℕ → List ℕ → ℕ → ℕ → List ℕ
first_block E R N marks low high = filled 510 (1 ∷ E ∷ R ∷ N ∷ marks) ++ (low ∷ high ∷ [])

-- record block 1: the records, zeros up to byte 507, the block's number, the number of records, and the check
unfoldable pub record_block : List (List ℕ) → ℕ → ℕ → List ℕ
record_block records low high = filled 508 (record_bytes records) ++ (1 ∷ length records ∷ low ∷ high ∷ [])

-- records 1 to 6 of the house, trailing zeros left off
unfoldable pub house_records : List (List ℕ)
house_records =
    (2 ∷ 1 ∷ 2 ∷ 2 ∷ 3 ∷ [])
    ∷ (1 ∷ 2 ∷ 3 ∷ 3 ∷ [])
    ∷ (3 ∷ 1 ∷ 1 ∷ 2 ∷ 4 ∷ [])
    ∷ (1 ∷ 3 ∷ 4 ∷ 4 ∷ [])
    ∷ (1 ∷ 5 ∷ 5 ∷ 4 ∷ [])
    ∷ (4 ∷ 1 ∷ 6 ∷ 2 ∷ 1 ∷ 1 ∷ 5 ∷ 5 ∷ [])
    ∷ []

-- the house with these marks of Archive, Board, Upland, Nina, Guild and Tomas, 1 present and 2 absent, and this check of block 0
unfoldable pub whole : List ℕ → ℕ → List ℕ
whole marks check = first_block 6 6 6 marks check 0 ++ record_block house_records 228 26

-- record 5 removed
unfoldable pub removed : List ℕ → ℕ → List ℕ
removed marks check = first_block 6 6 5 marks check 0 ++ record_block (take 4 house_records ++ drop 5 house_records) 192 20

abbrev pub all_present : List ℕ
all_present = whole (1 ∷ 1 ∷ 1 ∷ 1 ∷ 1 ∷ 1 ∷ []) 101

abbrev pub guild_absent : List ℕ
guild_absent = whole (1 ∷ 1 ∷ 1 ∷ 1 ∷ 2 ∷ 1 ∷ []) 110

abbrev pub upland_absent : List ℕ
upland_absent = whole (1 ∷ 1 ∷ 2 ∷ 1 ∷ 1 ∷ 1 ∷ []) 108

abbrev pub tomas_absent : List ℕ
tomas_absent = whole (1 ∷ 1 ∷ 1 ∷ 1 ∷ 1 ∷ 2 ∷ []) 111

abbrev pub both_absent : List ℕ
both_absent = whole (1 ∷ 1 ∷ 2 ∷ 1 ∷ 2 ∷ 1 ∷ []) 117

abbrev pub removed_all_present : List ℕ
removed_all_present = removed (1 ∷ 1 ∷ 1 ∷ 1 ∷ 1 ∷ 1 ∷ []) 97

abbrev pub removed_guild_absent : List ℕ
removed_guild_absent = removed (1 ∷ 1 ∷ 1 ∷ 1 ∷ 2 ∷ 1 ∷ []) 106

-- one entity, one name, and no record; its shelf present, and absent
abbrev pub empty : List ℕ
empty = first_block 1 1 0 (1 ∷ []) 12 0

abbrev pub empty_absent : List ℕ
empty_absent = first_block 1 1 0 (2 ∷ []) 17 0

-- one entity, one name, and one record, by which 1.1 is contained in itself
abbrev pub in_itself : List ℕ
in_itself = first_block 1 1 1 (1 ∷ []) 16 0 ++ record_block ((2 ∷ 1 ∷ 1 ∷ 1 ∷ 1 ∷ []) ∷ []) 12 4

-- a sheet: the codes of the names, zeros up to byte 507, 100, the number of names, and the check
unfoldable pub sheet_block : List ℕ → ℕ → ℕ → List ℕ
sheet_block codes low high = filled 508 codes ++ (100 ∷ length codes ∷ low ∷ high ∷ [])

-- student, name 4, has code 2, and the other names have code 3
abbrev pub student_loose : List ℕ
student_loose = sheet_block (3 ∷ 3 ∷ 3 ∷ 2 ∷ 3 ∷ 3 ∷ []) 4 211
