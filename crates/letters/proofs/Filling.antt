-- Storing the records of a text line by line, and storing the lines of a list of records: what is known at each step, and at the end.
use Prim.Native.Nat.{ℕ, zero, suc, ◌+◌, ◌*◌, ◌<◌, ◌≤◌, min}
use native.Mathlib.Omega.{arith}
use native.Mathlib.Numerals.{add-one}
use mathlib.Core.Path.{◌≡◌, refl, ap, sym, subst, ◌∙◌}
use mathlib.Core.List.Memᴰ
use mathlib.Core.List.{List, [], ◌∷◌, ◌++◌, append_assoc, append-nil}
use lib.ListN.{length, get_or, take, length-append}
use lib.Seq.{take_all}
use Rattle.rt0.specs.Credential.{Credential, AllValid}
use Rattle.records.specs.Bytes.{credential_in}
use Rattle.content.specs.Content.{tabulate, listed}
use Rattle.text.specs.Written.{Wrote}
use Rattle.text.proofs.Written.{wrote_none, wrote_more}
use Rattle.spelling.specs.Line.{line_of, most_bytes}
use Rattle.candidates.specs.Candidate.{candidate_of}
use Rattle.candidates.proofs.Unique.{candidate_is}
use Rattle.letters.specs.Lines.{text_of, records_of, lines_of, line_count, candidates_of, counted_bytes}
use Rattle.letters.proofs.Cut.{lines_more}
use Rattle.letters.proofs.Texts.{text_last}

-- Records.

-- the records of the first n lines
abbrev pub candidates_to : List ℕ → ℕ → List ℕ
candidates_to text n = candidates_of (take n (lines_of text))

candidates_last : (ls : List (List ℕ)) (n : ℕ) (line : List ℕ) → n < length ls → line ≡ get_or ls n line
    → candidates_of (take (suc n) ls) ≡ candidates_of (take n ls) ++ candidate_of line
unfolding candidates_of
candidates_last [] n line l e = absurd (omega arith)
candidates_last (first ∷ ls) zero line l e = append-nil (candidate_of first) ∙ ap candidate_of (sym e)
candidates_last (first ∷ ls) (suc n) line l e =
    ap (λ (bytes : List ℕ). candidate_of first ++ bytes) (candidates_last ls n line (omega arith) e)
    ∙ sym (append_assoc (candidate_of first) (candidates_of (take n ls)) (candidate_of line))

-- they are stored
pub filling_none : (text before : List ℕ) → Wrote before 0 (candidates_to text 0) before 0
unfolding candidates_of
filling_none text before = wrote_none before 0

module _ (text : List ℕ) {before after : List ℕ} {place n : ℕ} (w : Wrote before 0 (candidates_to text n) after place) where
  pub filling_more : (line : List ℕ) {then : List ℕ} {next : ℕ} → (n < line_count text) × (line ≡ get_or (lines_of text) n line)
      → Wrote after place (candidate_of line) then next → Wrote before 0 (candidates_to text (n + 1)) then next
  filling_more line {then} {next} (l, e) v =
      subst (λ (bytes : List ℕ). Wrote before 0 bytes then next)
      (sym (candidates_last (lines_of text) n line l e) ∙ ap (candidates_to text) (sym (add-one n))) (wrote_more w v)

  pub filling_all : n ≡ line_count text → Wrote before 0 (candidates_of (lines_of text)) after place
  filling_all e =
      subst (λ (bytes : List ℕ). Wrote before 0 bytes after place) (ap candidates_of (take_all n (lines_of text) (omega arith))) w

-- the candidates of the lines of valid credentials are their records
pub candidates_are : (E R : ℕ) → E < 100 → R < 100 → (cs : List Credential) → AllValid E R cs → candidates_of (lines_of (text_of cs)) ≡ records_of cs
unfolding text_of records_of candidates_of lines_of
candidates_are E R a b [] v = refl
candidates_are E R a b (c ∷ cs) v =
    ap candidates_of (lines_more c (text_of cs))
    ∙ rw (candidate_is E R a b c (v c (Memᴰ.head refl)), candidates_are E R a b cs (λ d m. v d (Memᴰ.tail m)))

-- Lines.

module _ (list : List ℕ) where
  abbrev nth : ℕ → Credential
  nth n = credential_in (listed list n)

  -- the text of the first n records
  abbrev pub text_to : ℕ → List ℕ
  text_to n = text_of (tabulate nth n)

  pub text_none : text_to 0 ≡ []
  unfolding tabulate text_of
  text_none = refl

  pub text_more : (n : ℕ) → text_to (suc n) ≡ text_to n ++ line_of (nth n)
  unfolding tabulate
  text_more n = text_last (tabulate nth n) (nth n)

  -- the lines of the first n records are stored
  pub putting_none : (before : List ℕ) → Wrote before 0 (text_to 0) before 0
  putting_none before = subst (λ (bytes : List ℕ). Wrote before 0 bytes before 0) (sym text_none) (wrote_none before 0)

  pub putting_more : (before after then : List ℕ) (at next n : ℕ) → Wrote before 0 (text_to n) after at → Wrote after at (line_of (nth n)) then next
      → Wrote before 0 (text_to (n + 1)) then next
  putting_more before after then at next n w v =
      subst (λ (bytes : List ℕ). Wrote before 0 bytes then next) (sym (text_more n) ∙ ap text_to (sym (add-one n))) (wrote_more w v)

  -- their bytes, as they are counted
  pub counted_more : (n : ℕ) → counted_bytes list (n + 1) ≡ counted_bytes list n + min most_bytes (length (line_of (nth n)))
  unfolding counted_bytes
  counted_more n = rw (add-one n)

  pub counted_few : (n : ℕ) → counted_bytes list n ≤ 48 * n
  unfolding counted_bytes
  counted_few zero = omega arith
  counted_few (suc n) = omega (arith, counted_few n)

  pub counted_all : (n : ℕ) → ((k : ℕ) → k < n → length (line_of (nth k)) ≤ most_bytes) → counted_bytes list n ≡ length (text_to n)
  unfolding counted_bytes
  counted_all zero short = ap length (sym text_none)
  counted_all (suc n) short =
      let e : length (text_to (suc n)) ≡ length (text_to n) + length (line_of (nth n)) = ap length (text_more n) ∙ length-append (text_to n) (line_of (nth n)) in
      omega (arith, e, counted_all n (λ k l. short k (omega arith)), short n (omega arith))
