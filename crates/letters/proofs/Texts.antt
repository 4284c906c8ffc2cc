-- Texts of credentials: their lines are those of the credentials, so a text is that of one list of valid credentials at most; and their
-- records.
use Prim.Native.Nat.{ℕ, zero, suc, ◌+◌, ◌*◌, ◌<◌}
use native.Mathlib.Omega.{arith}
use mathlib.Core.Path.{◌≡◌, refl, ap, sym, ◌∙◌}
use mathlib.Core.List.Memᴰ
use mathlib.Core.List.{List, [], ◌∷◌, ◌++◌, append_assoc, append-nil}
use mathlib.Core.Logic.{◌⊎◌, inl, inr}
use lib.ListN.{length, get_or, drop, length-append}
use lib.Seq.{drop_at}
use Rattle.rt0.specs.Credential.{Credential, Valid, AllValid, ◌∈◌}
use Rattle.records.specs.Bytes.{bytes_of}
use Rattle.spelling.specs.Line.{line_of, RightLine}
use Rattle.candidates.proofs.Unique.{line_one}
use Rattle.candidates.proofs.Records.{record_size}
use Rattle.letters.specs.Lines.{text_of, records_of, lines_of, line_count, line_at}
use Rattle.letters.proofs.Cut.{lines_more, line_some}

pub valid_none : (E R : ℕ) → AllValid E R []
valid_none E R c m = absurd (Memᴰ.not-nil m)

pub valid_last : (E R : ℕ) (cs : List Credential) (c : Credential) → AllValid E R cs → Valid E R c → AllValid E R (cs ++ (c ∷ []))
valid_last E R cs c h v d m = by (Memᴰ.append_cases cs m)
  where
    by : (d ∈ cs) ⊎ (d ∈ c ∷ []) → Valid E R d
    by (inl j) = h d j
    by (inr j) = rw (Memᴰ.eq_of_singleton j) v

-- one credential more, at the end
pub text_last : (cs : List Credential) (c : Credential) → text_of (cs ++ (c ∷ [])) ≡ text_of cs ++ line_of c
unfolding text_of
text_last [] c = append-nil (line_of c)
text_last (d ∷ cs) c = rw (text_last cs c, append_assoc (line_of d) (text_of cs) (line_of c))

-- the lines of a text that begins with that of credentials
front_lines : (c : Credential) (cs : List Credential) (rest : List ℕ) → lines_of (text_of (c ∷ cs) ++ rest) ≡ line_of c ∷ lines_of (text_of cs ++ rest)
unfolding text_of
front_lines c cs rest = ap lines_of (append_assoc (line_of c) (text_of cs) rest) ∙ lines_more c (text_of cs ++ rest)

pub front_count : (cs : List Credential) (rest : List ℕ) → line_count (text_of cs ++ rest) ≡ length cs + line_count rest
unfolding text_of
front_count [] rest = omega arith
front_count (c ∷ cs) rest = ap length (front_lines c cs rest) ∙ omega (arith, front_count cs rest)

pub front_next : (cs : List Credential) (rest : List ℕ) → line_at (text_of cs ++ rest) (length cs) ≡ line_at rest 0
unfolding text_of
front_next [] rest = refl
front_next (c ∷ cs) rest = ap (λ (lines : List (List ℕ)). get_or lines (suc (length cs)) []) (front_lines c cs rest) ∙ front_next cs rest

pub front_right : (E R : ℕ) (cs : List Credential) (rest : List ℕ) → AllValid E R cs → (j : ℕ) → j < length cs
    → RightLine E R (line_at (text_of cs ++ rest) j)
front_right E R [] rest v j l = absurd (omega arith)
front_right E R (c ∷ cs) rest v zero l = rw (front_lines c cs rest) (c, v c (Memᴰ.head refl), refl)
front_right E R (c ∷ cs) rest v (suc j) l =
    rw (front_lines c cs rest) (front_right E R cs rest (λ d m. v d (Memᴰ.tail m)) j (omega arith))

-- a text of n credentials has n lines
pub text_count : (cs : List Credential) → line_count (text_of cs) ≡ length cs
unfolding lines_of
text_count cs = ap line_count (sym (append-nil (text_of cs))) ∙ front_count cs [] ∙ omega arith

-- two lists of valid credentials with the same text are equal
module _ (E R : ℕ) (few_entities : E < 100) (few_names : R < 100) where
  pub text_one : (cs ds : List Credential) → AllValid E R cs → AllValid E R ds → text_of cs ≡ text_of ds → cs ≡ ds
  unfolding text_of
  text_one [] [] v w e = refl
  text_one [] (d ∷ ds) v w e = absurd (omega (arith, line_some d, length-append (line_of d) (text_of ds), ap length e))
  text_one (c ∷ cs) [] v w e = absurd (omega (arith, line_some c, length-append (line_of c) (text_of cs), ap length e))
  text_one (c ∷ cs) (d ∷ ds) v w e =
      let lines : line_of c ∷ lines_of (text_of cs) ≡ line_of d ∷ lines_of (text_of ds) =
      sym (lines_more c (text_of cs)) ∙ ap lines_of e ∙ lines_more d (text_of ds) in
      let same : line_of c ≡ line_of d = cc in
      let long : length (line_of d) ≡ length (line_of c) = ap length (sym same) in
      let rest : text_of cs ≡ text_of ds =
      sym (drop_at (line_of c) (text_of cs) (length (line_of c)) refl) ∙ ap (drop (length (line_of c))) e ∙ drop_at (line_of d) (text_of ds) (length (line_of c)) long in
      let first : c ≡ d = line_one E R few_entities few_names c d (v c (Memᴰ.head refl)) (w d (Memᴰ.head refl)) same in
      let others : cs ≡ ds = text_one cs ds (λ k m. v k (Memᴰ.tail m)) (λ k m. w k (Memᴰ.tail m)) rest in
      cc

-- Records.

pub records_size : (E R : ℕ) (cs : List Credential) → AllValid E R cs → length (records_of cs) ≡ 12 * length cs
unfolding records_of
records_size E R [] v = refl
records_size E R (c ∷ cs) v =
    length-append (bytes_of c) (records_of cs)
    ∙ omega (arith, record_size E R c (v c (Memᴰ.head refl)), records_size E R cs (λ d m. v d (Memᴰ.tail m)))
