-- The line of a credential, as partner houses mail it:
--
--     e2.r3 <- e3
--     e1.r2 <- e2.r3
--     e1.r1 <- e1.r2.r4
--     e1.r6 <- e1.r1 & e5.r5
--     e1.r6 <- e1.r1 & e5.r5 & e2.r2
--
-- each ended by a newline. Numbers are decimal without leading zeros. This is the one definition of the text; a line is right over E and R
-- if it is the line of some credential that is valid over them.
use Rattle.std.specs.Prelude.{ℕ, ◌≡◌, List, [], ◌∷◌, ◌++◌}
use Rattle.rt0.specs.Credential.{Role, ◌·◌, Body, entity, role, link, intersection, Credential, ◌⟵◌, Valid}
use Rattle.text.specs.Ascii.{ascii, newline}
use Rattle.text.specs.Decimal.{decimal}

abbrev pub arrow : List ℕ
arrow = ascii " <- "

abbrev pub ampersand : List ℕ
ampersand = ascii " & "

-- e3
unfoldable pub entity_text : ℕ → List ℕ
entity_text A = ascii "e" ++ decimal A

-- .r4
unfoldable pub name_text : ℕ → List ℕ
name_text r = ascii ".r" ++ decimal r

-- e2.r3
unfoldable pub role_text : Role → List ℕ
role_text (A · r) = entity_text A ++ name_text r

-- e1.r1 & e5.r5
unfoldable pub parts_text : List Role → List ℕ
parts_text [] = []
parts_text (ρ ∷ []) = role_text ρ
parts_text (ρ ∷ σ ∷ more) = role_text ρ ++ (ampersand ++ parts_text (σ ∷ more))

-- the body of a credential whose issuer is A, which is the first entity of a linked body
unfoldable pub body_text : ℕ → Body → List ℕ
body_text A (entity B) = entity_text B
body_text A (role ρ) = role_text ρ
body_text A (link r1 r2) = role_text (A · r1) ++ name_text r2
body_text A (intersection parts) = parts_text parts

-- the line
unfoldable pub line_of : Credential → List ℕ
line_of (A · r ⟵ e) = role_text (A · r) ++ arrow ++ body_text A e ++ newline

-- every line of a record has fewer bytes
abbrev pub most_bytes : ℕ
most_bytes = 48

-- a line is right over E and R
abbrev pub RightLine : ℕ → ℕ → List ℕ → Type 0
RightLine E R line = (c : Credential) × Valid E R c × (line ≡ line_of c)
