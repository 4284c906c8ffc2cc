-- The bytes of a record of twelve: byte 0 is the form, 1 the issuer, 2 the role name; then by the form what stands in bytes 3 to 9. Which
-- of them are entities, role names, the number of parts, or none of these and so zero; and when a byte is wrong, in five ways.
use Rattle.std.specs.Prelude.{ℕ, zero, suc, Bool, false, cond, not, ◌&&◌, ◌||◌, List, eqb}
use Rattle.base.specs.Byte.{byte_at}
use Rattle.base.specs.Range.{outside}

-- byte i of a record of this form with so many parts is an entity: the issuer; B of forms 1 and 2; the entity of each part
abbrev pub entity_byte : ℕ → ℕ → ℕ → Bool
entity_byte form parts i =
    eqb i 1
    || eqb i 3 && (eqb form 1 || eqb form 2)
    || eqb form 4 && (eqb i 4 || eqb i 6 || eqb i 8 && eqb parts 3)

-- it is a role name: that of the head; r1 of form 2; r1 and r2 of form 3; the name of each part
abbrev pub name_byte : ℕ → ℕ → ℕ → Bool
name_byte form parts i =
    eqb i 2
    || eqb i 4 && (eqb form 2 || eqb form 3)
    || eqb i 3 && eqb form 3
    || eqb form 4 && (eqb i 5 || eqb i 7 || eqb i 9 && eqb parts 3)

-- it is the number of parts
abbrev pub parts_byte : ℕ → ℕ → Bool
parts_byte form i = eqb i 3 && eqb form 4

-- it is none of these, nor the form, and so is 0
abbrev pub zero_byte : ℕ → ℕ → ℕ → Bool
zero_byte form parts i = not (eqb i 0 || parts_byte form i || entity_byte form parts i || name_byte form parts i)

-- the byte b at place i is wrong over E entities and R names, in one of five ways counted from 0: it is the form, and not 1 to 4; the number
-- of parts, and neither 2 nor 3; an entity, and not 1 to E; a role name, and not 1 to R; one that should be zero, and is not
unfoldable pub wrong_by : ℕ → ℕ → ℕ → ℕ → ℕ → ℕ → ℕ → Bool
wrong_by zero E R form parts i b = eqb i 0 && outside 4 b
wrong_by (suc zero) E R form parts i b = parts_byte form i && (not (eqb b 2) && not (eqb b 3))
wrong_by (suc (suc zero)) E R form parts i b = entity_byte form parts i && outside E b
wrong_by (suc (suc (suc zero))) E R form parts i b = name_byte form parts i && outside R b
wrong_by (suc (suc (suc (suc zero)))) E R form parts i b = zero_byte form parts i && not (eqb b 0)
wrong_by (suc (suc (suc (suc (suc k))))) E R form parts i b = false

-- byte i of a record is wrong in way k
abbrev pub byte_wrong : ℕ → ℕ → List ℕ → ℕ → ℕ → Bool
byte_wrong E R bytes k i = wrong_by k E R (byte_at bytes 0) (byte_at bytes 3) i (byte_at bytes i)

-- the number of the first of five flags that holds, or 5
abbrev pub first_of : Bool → Bool → Bool → Bool → Bool → ℕ
first_of one two three four five = cond one 0 (cond two 1 (cond three 2 (cond four 3 (cond five 4 5))))
