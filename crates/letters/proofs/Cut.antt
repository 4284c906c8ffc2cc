-- The lines of a text, cut at its newlines: the first one and then those of the rest. The line of a credential has one newline, at its end, so
-- the lines of a text of credentials are theirs.
use Prim.Native.Nat.{ℕ, suc, ◌+◌, ◌<◌}
use native.Mathlib.Omega.{arith}
use native.Mathlib.Nat.{zero-add}
use mathlib.Core.Path.{◌≡◌, refl, ap, sym, ◌∙◌}
use mathlib.Core.Bool.{Bool, true, false, cond}
use mathlib.Core.List.{List, [], ◌∷◌, ◌++◌, append_assoc}
use lib.ListN.{length, get_or, take, drop, length-append}
use lib.Seq.{take_at, drop_at, drop-cons, drop-drop}
use lib.Dec.{eqb}
use borrow.Author.Tests.{ne_eqb}
use Rattle.rt0.specs.Credential.{Role, ◌·◌, Body, entity, role, link, intersection, Credential, ◌⟵◌, ◌∈◌}
use mathlib.Core.List.Memᴰ
use Rattle.text.specs.Ascii.{newline}
use Rattle.text.specs.Decimal.{decimal}
use Rattle.text.proofs.Decimal.{only_digits}
use Rattle.spelling.specs.Line.{arrow, ampersand, entity_text, name_text, role_text, parts_text, body_text, line_of}
use Rattle.letters.specs.Lines.{in_front, lines_of, line_count, line_at, first_length}

-- the first line of a text that has any, and the lines behind it
pub first_line : (b : ℕ) (text : List ℕ)
    → lines_of (b ∷ text) ≡ take (first_length (b ∷ text)) (b ∷ text) ∷ lines_of (drop (first_length (b ∷ text)) (b ∷ text))
unfolding lines_of first_length
first_line b [] = by (eqb b 10)
  where
    by : (t : Bool) → cond t ((b ∷ []) ∷ []) ((b ∷ []) ∷ []) ≡ take (cond t 1 1) (b ∷ []) ∷ lines_of (drop (cond t 1 1) (b ∷ []))
    by true = refl
    by false = refl
first_line b (x ∷ text) = by (eqb b 10) (first_line x text)
  where
    by : (t : Bool) → lines_of (x ∷ text) ≡ take (first_length (x ∷ text)) (x ∷ text) ∷ lines_of (drop (first_length (x ∷ text)) (x ∷ text))
        → cond t ((b ∷ []) ∷ lines_of (x ∷ text)) (in_front b (lines_of (x ∷ text)))
        ≡ take (cond t 1 (suc (first_length (x ∷ text)))) (b ∷ x ∷ text) ∷ lines_of (drop (cond t 1 (suc (first_length (x ∷ text)))) (b ∷ x ∷ text))
    by true e = refl
    by false e = rw e

-- from a place on
pub next_line : (text : List ℕ) (at : ℕ) → at < length text
    → lines_of (drop at text) ≡ take (first_length (drop at text)) (drop at text) ∷ lines_of (drop (at + first_length (drop at text)) text)
next_line text at l =
    rw (← drop-drop (first_length (drop at text)) at text, drop-cons text at 0 l) (first_line (get_or text at 0) (drop (suc at) text))

-- the first line of a text that has one
pub line_first : (text : List ℕ) → 0 < line_count text → line_at text 0 ≡ take (first_length text) text
unfolding lines_of
line_first [] some = absurd (omega arith)
line_first (b ∷ text) some = ap (λ (ls : List (List ℕ)). get_or ls 0 []) (first_line b text)

-- a text without a line has no bytes
pub none_left : (text : List ℕ) → line_count text ≡ 0 → text ≡ []
none_left [] e = refl
none_left (b ∷ text) e = absurd (omega (arith, ap length (first_line b text)))

-- and one without bytes has no line
pub no_lines : (text : List ℕ) → length text ≡ 0 → line_count text ≡ 0
unfolding lines_of
no_lines [] e = refl
no_lines (b ∷ text) e = absurd (omega arith)

-- Bytes without a newline.

record Plain (bytes : List ℕ) : Type 0 where
  before : (rest : List ℕ) → first_length (bytes ++ rest) ≡ length bytes + first_length rest

plain_none : Plain []
plain_none = record { before = λ rest. omega arith }

plain_byte : {b : ℕ} {bytes : List ℕ} → (b ≡ 10 → ⊥) → Plain bytes → Plain (b ∷ bytes)
unfolding first_length
plain_byte {b} h p = record { before = λ rest. rw (ne_eqb b 10 h) (omega (arith, p.before rest)) }

plain_both : {xs ys : List ℕ} → Plain xs → Plain ys → Plain (xs ++ ys)
plain_both {xs} {ys} p q =
    record { before = λ rest. rw (append_assoc xs ys rest) (omega (arith, p.before (ys ++ rest), q.before rest, length-append xs ys)) }

plain_all : (bytes : List ℕ) → ((b : ℕ) → b ∈ bytes → b ≡ 10 → ⊥) → Plain bytes
plain_all [] h = plain_none
plain_all (b ∷ bytes) h = plain_byte (h b (Memᴰ.head refl)) (plain_all bytes (λ x m. h x (Memᴰ.tail m)))

plain_number : (n : ℕ) → Plain (decimal n)
plain_number n = plain_all (decimal n) (λ d m e. omega (arith, only_digits n d m))

plain_entity : (A : ℕ) → Plain (entity_text A)
unfolding entity_text
plain_entity A = plain_byte (λ e. omega arith) (plain_number A)

plain_name : (r : ℕ) → Plain (name_text r)
unfolding name_text
plain_name r = plain_byte (λ e. omega arith) (plain_byte (λ e. omega arith) (plain_number r))

plain_role : (ρ : Role) → Plain (role_text ρ)
unfolding role_text
plain_role (A · r) = plain_both (plain_entity A) (plain_name r)

plain_arrow : Plain arrow
plain_arrow = plain_byte (λ e. omega arith) (plain_byte (λ e. omega arith) (plain_byte (λ e. omega arith) (plain_byte (λ e. omega arith) plain_none)))

plain_ampersand : Plain ampersand
plain_ampersand = plain_byte (λ e. omega arith) (plain_byte (λ e. omega arith) (plain_byte (λ e. omega arith) plain_none))

plain_parts : (parts : List Role) → Plain (parts_text parts)
unfolding parts_text
plain_parts [] = plain_none
plain_parts (ρ ∷ []) = plain_role ρ
plain_parts (ρ ∷ σ ∷ more) = plain_both (plain_role ρ) (plain_both plain_ampersand (plain_parts (σ ∷ more)))

plain_body : (A : ℕ) (e : Body) → Plain (body_text A e)
unfolding body_text
plain_body A (entity B) = plain_entity B
plain_body A (role ρ) = plain_role ρ
plain_body A (link r1 r2) = plain_both (plain_role (A · r1)) (plain_name r2)
plain_body A (intersection parts) = plain_parts parts

-- the line of a credential ends at its first newline
pub line_ends : (c : Credential) (rest : List ℕ) → first_length (line_of c ++ rest) ≡ length (line_of c)
unfolding line_of first_length
line_ends (A · r ⟵ e) rest =
    let words = role_text (A · r) ++ arrow ++ body_text A e in
    let plain = (plain_both (plain_both (plain_role (A · r)) plain_arrow) (plain_body A e)).before (newline ++ rest) in
    rw (append_assoc words newline rest) (plain ∙ sym (length-append words newline))

-- and has at least one byte
pub line_some : (c : Credential) → 0 < length (line_of c)
unfolding line_of
line_some (A · r ⟵ e) = simp length-append (omega arith)

-- the lines of a text that begins with the line of a credential
pub lines_more : (c : Credential) (rest : List ℕ) → lines_of (line_of c ++ rest) ≡ line_of c ∷ lines_of rest
lines_more c rest =
    let some : 0 < length (line_of c ++ rest) = rw (length-append (line_of c) rest) (omega (arith, line_some c)) in
    next_line (line_of c ++ rest) 0 some
    ∙ rw (line_ends c rest, zero-add (length (line_of c)), take_at (line_of c) rest (length (line_of c)) refl, drop_at (line_of c) rest (length (line_of c)) refl)
