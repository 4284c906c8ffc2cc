-- The texts of a record's bytes: what is written of them, byte by byte and form by form, is the text of the credential that they are.
use Prim.Native.Nat.{ℕ}
use mathlib.Core.Path.{◌≡◌, subst}
use mathlib.Core.List.{List, ◌++◌, append_assoc}
use borrow.Author.Tests.{ne_eqb}
use Rattle.rt0.specs.Credential.{◌·◌}
use Rattle.base.specs.Byte.{byte_at}
use Rattle.text.specs.Written.{Wrote}
use Rattle.records.specs.Bytes.{parts_in, body_in}
use Rattle.spelling.specs.Line.{ampersand, entity_text, name_text, role_text, parts_text, body_text}

-- what was written is another text that is the same
pub wrote_as : {before after more text : List ℕ} {at next : ℕ} → more ≡ text → Wrote before at more after next → Wrote before at text after next
wrote_as {before} {after} {at = at} {next} e w = subst (λ (t : List ℕ). Wrote before at t after next) e w

pub entity_as : {a A : ℕ} → a ≡ A → entity_text a ≡ entity_text A
entity_as e = rw e

pub name_as : {r s : ℕ} → r ≡ s → name_text r ≡ name_text s
name_as e = rw e

pub role_as : {a A r s : ℕ} → a ≡ A → r ≡ s → role_text (a · r) ≡ role_text (A · s)
role_as e f = rw (e, f)

module _ (bytes : List ℕ) where
  abbrev part : ℕ → ℕ → List ℕ
  part i j = role_text (byte_at bytes i · byte_at bytes j)

  -- the parts of an intersection
  pub parts_two : (byte_at bytes 3 ≡ 3 → ⊥) → part 4 5 ++ (ampersand ++ part 6 7) ≡ parts_text (parts_in bytes)
  unfolding parts_text
  parts_two h = rw (ne_eqb (byte_at bytes 3) 3 h)

  pub parts_three : byte_at bytes 3 ≡ 3 → part 4 5 ++ (ampersand ++ part 6 7) ++ (ampersand ++ part 8 9) ≡ parts_text (parts_in bytes)
  unfolding parts_text
  parts_three e = rw e (simp append_assoc)

  -- the body
  abbrev body : List ℕ
  body = body_text (byte_at bytes 1) (body_in bytes)

  pub body_entity : byte_at bytes 0 ≡ 1 → entity_text (byte_at bytes 3) ≡ body
  unfolding body_text
  body_entity e = rw e

  pub body_role : byte_at bytes 0 ≡ 2 → part 3 4 ≡ body
  unfolding body_text
  body_role e = rw e

  pub body_link : byte_at bytes 0 ≡ 3 → part 1 3 ++ name_text (byte_at bytes 4) ≡ body
  unfolding body_text
  body_link e = rw e

  pub body_parts : (byte_at bytes 0 ≡ 1 → ⊥) → (byte_at bytes 0 ≡ 2 → ⊥) → (byte_at bytes 0 ≡ 3 → ⊥) → parts_text (parts_in bytes) ≡ body
  unfolding body_text
  body_parts a b c = rw (ne_eqb (byte_at bytes 0) 1 a, ne_eqb (byte_at bytes 0) 2 b, ne_eqb (byte_at bytes 0) 3 c)
