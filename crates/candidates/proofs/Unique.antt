-- The candidate of the line of a valid credential is that credential's record: so two valid credentials with the same line are equal.
use Prim.Native.Nat.{ℕ, ◌+◌, ◌<◌}
use native.Mathlib.Omega.{arith}
use mathlib.Core.Path.{◌≡◌, refl, ap, sym, ◌∙◌}
use mathlib.Core.List.Memᴰ
use mathlib.Core.List.{List, [], ◌∷◌, ◌++◌, append_assoc}
use lib.ListN.{drop}
use Rattle.rt0.specs.Credential.{◌·◌, Body, entity, role, link, intersection, Credential, ◌⟵◌, Valid}
use Rattle.text.specs.Ascii.{ascii, newline}
use Rattle.text.specs.Decimal.{decimal}
use Rattle.records.specs.Bytes.{bytes_of, credential_in}
use Rattle.records.proofs.Encoded.{encoded_credential}
use Rattle.spelling.specs.Line.{entity_text, name_text, role_text, parts_text, body_text, line_of}
use Rattle.candidates.specs.Candidate.{begins, behind, parts_from, body_from, candidate_of}
use Rattle.candidates.proofs.Numbers.{first_there, further, stands, stands_behind}

-- a role name, and a further part up to its entity, with more behind them
abbrev named : ℕ → List ℕ → List ℕ
named r rest = ascii ".r" ++ (decimal r ++ rest)

abbrev joined : ℕ → List ℕ → List ℕ
joined A rest = ascii " & e" ++ (decimal A ++ rest)

abbrev end : List ℕ
end = newline

-- The body, by its form, at the place of its first number.

module _ (line : List ℕ) (A r at B : ℕ) (b : B < 100) where
  entity_read : drop at line ≡ decimal B ++ end → body_from line A r at ≡ 1 ∷ A ∷ r ∷ B ∷ 0 ∷ 0 ∷ 0 ∷ 0 ∷ 0 ∷ 0 ∷ 0 ∷ 0 ∷ []
  unfolding body_from
  entity_read e =
      let first = stands line at B 10 [] refl b e in
      rw (first_there line (behind line at) 10 [] first.more, first.number)

  module _ (s : ℕ) (m : s < 100) where
    role_read : drop at line ≡ decimal B ++ named s end → body_from line A r at ≡ 2 ∷ A ∷ r ∷ B ∷ s ∷ 0 ∷ 0 ∷ 0 ∷ 0 ∷ 0 ∷ 0 ∷ 0 ∷ []
    unfolding body_from
    role_read e =
        let first = stands line at B 46 _ refl b e in
        let dot = behind line at in
        let name = stands_behind line dot (ascii ".r") s 10 [] refl m first.more in
        rw (first_there line dot 46 _ first.more, first_there line (behind line (dot + 2)) 10 [] name.more, first.number, name.number)

    link_read : (t : ℕ) → t < 100 → drop at line ≡ decimal B ++ named s (named t end)
        → body_from line A r at ≡ 3 ∷ A ∷ r ∷ s ∷ t ∷ 0 ∷ 0 ∷ 0 ∷ 0 ∷ 0 ∷ 0 ∷ 0 ∷ []
    unfolding body_from begins
    link_read t k e =
        let first = stands line at B 46 _ refl b e in
        let dot = behind line at in
        let name = stands_behind line dot (ascii ".r") s 46 _ refl m first.more in
        let next = behind line (dot + 2) in
        let last = stands_behind line next (ascii ".r") t 10 [] refl k name.more in
        rw (first_there line dot 46 _ first.more, first_there line next 46 _ name.more, name.more, name.number, last.number)

    -- an intersection, up to where its second part begins
    parts_read : (rest : List ℕ) → drop at line ≡ decimal B ++ named s (ascii " & " ++ rest)
        → (next : ℕ) × (body_from line A r at ≡ parts_from line A r B s next) × (drop next line ≡ ascii " & " ++ rest)
    unfolding body_from begins
    parts_read rest e =
        let first = stands line at B 46 _ refl b e in
        let dot = behind line at in
        let name = stands_behind line dot (ascii ".r") s 32 _ refl m first.more in
        let next = behind line (dot + 2) in (
          next,
          rw (first_there line dot 46 _ first.more, first_there line next 32 _ name.more, name.more, first.number, name.number),
          name.more,
        )

module _ (line : List ℕ) (A r B s at C t : ℕ) (b : C < 100) (m : t < 100) where
  two_read : drop at line ≡ joined C (named t end) → parts_from line A r B s at ≡ 4 ∷ A ∷ r ∷ 2 ∷ B ∷ s ∷ C ∷ t ∷ 0 ∷ 0 ∷ 0 ∷ 0 ∷ []
  unfolding parts_from begins
  two_read e =
      let part = stands_behind line at (ascii " & e") C 46 _ refl b e in
      let name = stands_behind line (behind line (at + 4)) (ascii ".r") t 10 [] refl m part.more in
      rw (name.more, part.number, name.number)

  three_read : (D u : ℕ) → D < 100 → u < 100 → drop at line ≡ joined C (named t (joined D (named u end)))
      → parts_from line A r B s at ≡ 4 ∷ A ∷ r ∷ 3 ∷ B ∷ s ∷ C ∷ t ∷ D ∷ u ∷ 0 ∷ 0 ∷ []
  unfolding parts_from begins
  three_read D u d k e =
      let part = stands_behind line at (ascii " & e") C 46 _ refl b e in
      let name = stands_behind line (behind line (at + 4)) (ascii ".r") t 32 _ refl m part.more in
      let next = behind line (behind line (at + 4) + 2) in
      let third = stands_behind line next (ascii " & e") D 46 _ refl d name.more in
      let last = stands_behind line (behind line (next + 4)) (ascii ".r") u 10 [] refl k third.more in
      rw (name.more, part.number, name.number, third.number, last.number)

-- The head, up to the first number of the body.

head_read : (line : List ℕ) (A r : ℕ) (rest : List ℕ) → A < 100 → r < 100
    → line ≡ ascii "e" ++ (decimal A ++ named r (ascii " <- e" ++ rest))
    → (at : ℕ) × (candidate_of line ≡ body_from line A r at) × (drop at line ≡ rest)
unfolding candidate_of begins
head_read line A r rest a n e =
    let first = stands line 1 A 46 _ refl a (ap (drop 1) e) in
    let name = stands_behind line (behind line 1) (ascii ".r") r 32 _ refl n first.more in
    let next = behind line (behind line 1 + 2) in
    (next + 5, rw (name.more, first.number, name.number), further line next _ 5 name.more)

-- The line from its front on.

line_front : (A r : ℕ) (e : Body) (rest : List ℕ) → body_text A e ++ newline ≡ ascii "e" ++ rest
    → line_of (A · r ⟵ e) ≡ ascii "e" ++ (decimal A ++ named r (ascii " <- e" ++ rest))
unfolding line_of role_text entity_text name_text
line_front A r e rest h = simp append_assoc (rw h)

role_front : (A r : ℕ) (rest : List ℕ) → role_text (A · r) ++ rest ≡ ascii "e" ++ (decimal A ++ named r rest)
unfolding role_text entity_text name_text
role_front A r rest = simp append_assoc

name_front : (r : ℕ) (rest : List ℕ) → name_text r ++ rest ≡ named r rest
unfolding name_text
name_front r rest = refl

module _ (E R : ℕ) (few_entities : E < 100) (few_names : R < 100) where
  pub candidate_is : (c : Credential) → Valid E R c → candidate_of (line_of c) ≡ bytes_of c
  unfolding body_text parts_text entity_text bytes_of
  candidate_is (A · r ⟵ entity B) ((a, n), b) =
      let (at, c, there) = head_read _ A r (decimal B ++ end) (omega arith) (omega arith) (line_front A r (entity B) _ refl) in
      c ∙ entity_read _ A r at B (omega arith) there
  candidate_is (A · r ⟵ role (B · s)) ((a, n), (b, m)) =
      let (at, c, there) = head_read _ A r (decimal B ++ named s end) (omega arith) (omega arith) (line_front A r (role (B · s)) _ (role_front B s newline)) in
      c ∙ role_read _ A r at B (omega arith) s (omega arith) there
  candidate_is (A · r ⟵ link s t) ((a, n), (m, k)) =
      let (at, c, there) =
      head_read _ A r (decimal A ++ named s (named t end)) (omega arith) (omega arith) (line_front A r (link s t) _ (simp (append_assoc, role_front, name_front))) in
      c ∙ link_read _ A r at A (omega arith) s (omega arith) t (omega arith) there
  candidate_is (A · r ⟵ intersection []) (_, (l, _, _)) = absurd (omega arith)
  candidate_is (A · r ⟵ intersection (ρ ∷ [])) (_, (l, _, _)) = absurd (omega arith)
  candidate_is (A · r ⟵ intersection (B · s ∷ C · t ∷ [])) ((a, n), (_, _, v)) =
      let (b, m) = v (B · s) (Memᴰ.head refl) in
      let (d, k) = v (C · t) (Memᴰ.tail (Memᴰ.head refl)) in
      let (at, c, there) =
      head_read _ A r (decimal B ++ named s (joined C (named t end))) (omega arith) (omega arith)
      (line_front A r (intersection (B · s ∷ C · t ∷ [])) _ (simp (append_assoc, role_front))) in
      let (next, p, from) = parts_read _ A r at B (omega arith) s (omega arith) _ there in
      c ∙ p ∙ two_read _ A r B s next C t (omega arith) (omega arith) from
  candidate_is (A · r ⟵ intersection (B · s ∷ C · t ∷ D · u ∷ [])) ((a, n), (_, _, v)) =
      let (b, m) = v (B · s) (Memᴰ.head refl) in
      let (d, k) = v (C · t) (Memᴰ.tail (Memᴰ.head refl)) in
      let (f, j) = v (D · u) (Memᴰ.tail (Memᴰ.tail (Memᴰ.head refl))) in
      let (at, c, there) =
      head_read _ A r (decimal B ++ named s (joined C (named t (joined D (named u end))))) (omega arith) (omega arith)
      (line_front A r (intersection (B · s ∷ C · t ∷ D · u ∷ [])) _ (simp (append_assoc, role_front))) in
      let (next, p, from) = parts_read _ A r at B (omega arith) s (omega arith) _ there in
      c ∙ p ∙ three_read _ A r B s next C t (omega arith) (omega arith) D u (omega arith) (omega arith) from
  candidate_is (A · r ⟵ intersection (ρ ∷ σ ∷ τ ∷ υ ∷ more)) (_, (_, l, _)) = absurd (omega arith)

  -- two valid credentials with the same line are equal
  pub line_one : (c d : Credential) → Valid E R c → Valid E R d → line_of c ≡ line_of d → c ≡ d
  line_one c d v w e =
      sym (encoded_credential E R c v)
      ∙ ap credential_in (sym (candidate_is c v) ∙ ap candidate_of e ∙ candidate_is d w)
      ∙ encoded_credential E R d w
