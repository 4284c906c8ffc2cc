-- A text that is longer than any right one is refused as every text that begins with it: a line that is wrong there stays wrong, and one that is
-- right is there to its end.
use Prim.Native.Nat.{ℕ, ◌<◌, ◌≤◌}
use native.Mathlib.Omega.{arith}
use mathlib.Core.Path.{◌≡◌, ap, sym, subst, ◌∙◌}
use mathlib.Core.Bool.{Bool, true, false, cond}
use mathlib.Core.List.{List, [], ◌∷◌, ◌++◌, append_assoc}
use lib.ListN.{length, length-append}
use lib.Dec.{eqb}
use Rattle.rt0.specs.Credential.{Credential, AllValid}
use Rattle.spelling.specs.Line.{line_of, RightLine}
use Rattle.spelling.proofs.Lengths.{line_short}
use Rattle.letters.specs.Lines.{text_of, in_front, lines_of, line_count, line_at}
use Rattle.letters.specs.Rows.{FirstWrong}
use Rattle.letters.proofs.Cut.{first_line}
use Rattle.letters.proofs.Texts.{front_count, front_right}
use Rattle.letters.proofs.Places.{text_short}
use Rattle.bundle_from_lines.specs.Input.{longest_text}
use Rattle.bundle_from_lines.proofs.Split.{Begins, Split, line_front, line_behind, front_part, right_begins, right_split}

-- a text that goes on has no fewer lines
pub lines_grow : (text more : List ℕ) → line_count text ≤ line_count (text ++ more)
unfolding lines_of
lines_grow [] more = omega arith
lines_grow (b ∷ text) more = by (eqb b 10) (lines_of text) (lines_of (text ++ more)) (lines_grow text more)
  where
    by : (t : Bool) (xs ys : List (List ℕ)) → length xs ≤ length ys
        → length (cond t ((b ∷ []) ∷ xs) (in_front b xs)) ≤ length (cond t ((b ∷ []) ∷ ys) (in_front b ys))
    by true xs ys l = omega arith
    by false [] [] l = omega arith
    by false [] (y ∷ ys) l = omega arith
    by false (x ∷ xs) [] l = absurd (omega arith)
    by false (x ∷ xs) (y ∷ ys) l = omega arith

-- a text that has a byte has a line
some_line : (text : List ℕ) → 0 < length text → 0 < line_count text
some_line [] l = absurd (omega arith)
some_line (b ∷ text) l = rw (first_line b text) (omega arith)

module _ (E R : ℕ) (few_entities : E < 100) (few_names : R < 100) where
  -- what is left behind fewer than 240 right lines of so long a text is longer than a line
  left_long : (text : List ℕ) (cs : List Credential) (rest : List ℕ) (k : ℕ) → longest_text < length text → k < 240 → AllValid E R cs → length cs ≡ k
      → text ≡ text_of cs ++ rest → 39 < length rest
  left_long text cs rest k long below v count e =
      omega (arith, text_short E R few_entities few_names cs v, ap length e, length-append (text_of cs) rest)

  -- a line that begins there is there to its end
  line_there : (front more : List ℕ) → 39 < length front → Begins E R (front ++ more) → Begins E R front
  line_there front more long b =
      let short = line_short E R few_entities few_names b.credential b.valid in
      let (m, e, _) = front_part front more (line_of b.credential) b.rest b.whole (omega arith) in
      record { credential = b.credential; valid = b.valid; rest = m; whole = e }

  line_onward : (front more : List ℕ) → Begins E R front → Begins E R (front ++ more)
  line_onward front more b =
      record {
        credential = b.credential;
        valid = b.valid;
        rest = b.rest ++ more;
        whole = ap (λ (t : List ℕ). t ++ more) b.whole ∙ append_assoc (line_of b.credential) b.rest more;
      }

  begins_right : (text : List ℕ) → Begins E R text → RightLine E R (line_at text 0)
  begins_right text b = (b.credential, b.valid, line_front b.credential text b.rest b.whole)

  -- right lines in front, and a wrong one behind them
  first_behind : (text : List ℕ) (k : ℕ) (cs : List Credential) (rest : List ℕ) → k < 240 → AllValid E R cs → length cs ≡ k → text ≡ text_of cs ++ rest
      → 0 < length rest → (Begins E R rest → ⊥) → FirstWrong E R text k
  first_behind text k cs rest below v count e some wrong =
      record {
        there = omega (arith, ap line_count e, front_count cs rest, some_line rest some);
        among = below;
        wrong = λ right. wrong (right_begins E R rest (subst (RightLine E R) (line_behind text cs rest k e count) right));
        before = λ j l. subst (λ (t : List ℕ). RightLine E R (line_at t j)) (sym e) (front_right E R cs rest v j (omega arith));
      }

  behind_wrong : (text : List ℕ) (k : ℕ) (first : FirstWrong E R text k) (s : Split E R text k) → Begins E R s.rest → ⊥
  behind_wrong text k first s b =
      first.wrong (subst (RightLine E R) (sym (line_behind text s.credentials s.rest k s.whole s.count)) (begins_right s.rest b))

  module _ (text more : List ℕ) (long : longest_text < length text) (k : ℕ) where
    pub wrong_onward : FirstWrong E R text k → FirstWrong E R (text ++ more) k
    wrong_onward first =
        let s = right_split E R k text first.before in
        let cs = s.credentials in
        let left = left_long text cs s.rest k long first.among s.valid s.count s.whole in
        let whole : text ++ more ≡ text_of cs ++ (s.rest ++ more) =
        ap (λ (t : List ℕ). t ++ more) s.whole ∙ append_assoc (text_of cs) s.rest more in
        first_behind (text ++ more) k cs (s.rest ++ more) first.among s.valid s.count whole (rw length-append (omega arith))
        (λ b. behind_wrong text k first s (line_there s.rest more left b))

    pub wrong_before : FirstWrong E R (text ++ more) k → FirstWrong E R text k
    wrong_before first =
        let s = right_split E R k (text ++ more) first.before in
        let cs = s.credentials in
        let short = text_short E R few_entities few_names cs s.valid in
        let (front, whole, rest) = front_part text more (text_of cs) s.rest s.whole (omega (arith, first.among, s.count)) in
        let left = left_long text cs front k long first.among s.valid s.count whole in
        first_behind text k cs front first.among s.valid s.count whole (omega arith)
        (λ b. behind_wrong (text ++ more) k first s (subst (Begins E R) (sym rest) (line_onward front more b)))
