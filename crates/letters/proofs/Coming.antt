-- What the iterators of a letter give: the lines of a text, cut behind each newline, and the records of a list, twelve bytes each.
use Prim.Native.Nat.{ℕ, zero, suc, ◌+◌, ◌-◌, ◌*◌, ◌<◌, ◌≤◌, min}
use native.Mathlib.Omega.{arith}
use mathlib.Core.Path.{◌≡◌, refl, ap, sym, subst, ◌∙◌}
use mathlib.Core.Bool.{Bool}
use mathlib.Core.List.{List, [], ◌∷◌, ◌++◌}
use lib.ListN.{length, get_or, take, drop, length-take, length-drop, length-append}
use lib.Seq.{take_at, drop_at, drop-drop, get_or-take}
use lib.Dec.{eqb}
use denote.Ref.{Bor}
use denote.Param.Members.{Mut}
use Rattle.std.specs.Prelude.{Option, None, Some}
use Rattle.std.specs.Option.{MatchOption}
use Rattle.std.specs.Fn.{ComputesKey, CalledAt}
use Rattle.std.specs.List.{IsFirstMatchOrLen}
use Rattle.std.specs.Iterator.{Yields}
use Rattle.std.specs.Iterator.Adapters.{take_source, take_count, take_steps}
use Rattle.std.specs.declared.iter.Take.{Take}
use Rattle.std.specs.Slice.Iter.{split_inclusive_rest, split_inclusive_callee, chunks_exact_rest, chunks_exact_size, chunks_exact_steps}
use Rattle.std.specs.declared.slice.SplitInclusive.{SplitInclusive}
use Rattle.std.specs.declared.slice.ChunksExact.{ChunksExact}
use Rattle.std.proofs.lemmas.Fn.{always_returns_same}
use Rattle.std.proofs.lemmas.Iterator.{YieldsList, YieldsList-from_take}
use Rattle.std.proofs.lemmas.Iterator.Consumers.{YieldsList-at, YieldsList-turn, YieldsList-end}
use Rattle.std.proofs.lemmas.Iterator.Splits.{YieldsList-from_shown_while}
use Rattle.content.specs.Content.{listed, whole_records}
use Rattle.letters.specs.Lines.{lines_of, line_count, line_at, first_length}
use Rattle.letters.proofs.Cut.{first_line, no_lines}

-- Lines.

-- the first line goes to the first newline, or to the end
first_cut : (bytes : List ℕ) (i : ℕ) → IsFirstMatchOrLen (λ b. eqb b 10) bytes i → first_length bytes ≡ min (i + 1) (length bytes)
unfolding first_length
first_cut [] i h = omega arith
first_cut (b ∷ bytes) zero h = rw (h.1 (omega arith) 0) (omega arith)
first_cut (b ∷ bytes) (suc i) h =
    rw (h.0 0 0 (omega arith) (omega arith))
    (omega (arith, first_cut bytes i (λ k d low l. h.0 (suc k) d (omega arith) (omega arith), λ l d. h.1 (omega arith) d)))

front_line : (bytes line left : List ℕ) (i : ℕ) → bytes ≡ line ++ left → length line ≡ min (i + 1) (length bytes)
    → IsFirstMatchOrLen (λ b. eqb b 10) bytes i → 0 < length bytes → lines_of bytes ≡ line ∷ lines_of left
front_line [] line left i e n h some = absurd (omega arith)
front_line (b ∷ bytes) line left i e n h some =
    let text : List ℕ = b ∷ bytes in
    let long : first_length text ≡ length line = first_cut text i h ∙ sym n in
    let front : take (length line) text ≡ line = ap (take (length line)) e ∙ take_at line left (length line) refl in
    let back : drop (length line) text ≡ left = ap (drop (length line)) e ∙ drop_at line left (length line) refl in
    first_line b bytes
    ∙ ap (λ (n : ℕ). take n text ∷ lines_of (drop n text)) long
    ∙ ap (λ (l : List ℕ). l ∷ lines_of (drop (length line) text)) front
    ∙ ap (λ (l : List ℕ). line ∷ lines_of l) back

-- one call of the iterator that cuts where a test holds
abbrev pub cuts : {F : Type 0} → Mut F (Bor ℕ × Unit {0}) Bool → SplitInclusive ℕ F → Option (Bor (List ℕ)) → SplitInclusive ℕ F → Type 0
cuts g s r t =
    MatchOption r ((length (split_inclusive_rest s) ≡ 0) × (t ≡ s))
    (λ x. (split_inclusive_rest s ≡ x.now ++ split_inclusive_rest t) × ((i : ℕ)
    × (length x.now ≡ min (i + 1) (length (split_inclusive_rest s)))
    × ((p : ℕ → Bool) → ComputesKey g p (split_inclusive_callee s) → ComputesKey g p (split_inclusive_callee t) × IsFirstMatchOrLen p (split_inclusive_rest s) i))
    × (0 < length (split_inclusive_rest s)))

-- where the test is that for a newline, the lines of the text come
pub lines_come : {F : Type 0} {s : SplitInclusive ℕ F} (g : Mut F (Bor ℕ × Unit {0}) Bool) {f : F} (text : List ℕ)
    → split_inclusive_rest s ≡ text → split_inclusive_callee s ≡ f
    → ((x : ℕ) (b : Bool) (q : F) → CalledAt g f x b q → (q ≡ f) × (b ≡ eqb x 10)) → YieldsList (cuts g) (λ x. x.now) s (lines_of text)
lines_come {s = s} g {f} text rest closure tests =
    subst (λ (bytes : List ℕ). YieldsList (cuts g) (λ x. x.now) s (lines_of bytes)) rest
    (YieldsList-from_shown_while (cuts g) (λ x. x.now) (λ t. lines_of (split_inclusive_rest t)) (λ t. ComputesKey g (λ b. eqb b 10) (split_inclusive_callee t))
    (λ t u h k. no_lines _ k.0)
    (λ t x u h k.
    let m = k.1.2 (λ b. eqb b 10) h in
    (m.0, front_line _ x.now _ k.1.0 k.0 k.1.1 m.1 k.2))
    s
    (subst (ComputesKey g (λ b. eqb b 10)) (sym closure)
    (always_returns_same g (λ a r. r ≡ eqb a.0.now 10) f
    (λ a r q k. let m = tests a.0.now r q (record { shown = a.0; shows = refl; called = k }) in (m.1, m.0)))))

-- the line at a place that there is, whatever stands for one that there is not
line_there : (ls : List (List ℕ)) (n : ℕ) (line : List ℕ) → n < length ls → line ≡ get_or ls n line → line ≡ get_or ls n []
line_there [] n line l e = absurd (omega arith)
line_there (first ∷ ls) zero line l e = e
line_there (first ∷ ls) (suc n) line l e = line_there ls n line (omega arith) e

-- where at most so many lines of a text come, and n have come
module _ {F : Type 0} (g : Mut F (Bor ℕ × Unit {0}) Bool) {s made : Take (SplitInclusive ℕ F)} {f : F} (text : List ℕ) {most : ℕ} (begun : s ≡ made)
    (count : take_count made ≡ most) (rest : split_inclusive_rest (take_source made) ≡ text) (closure : split_inclusive_callee (take_source made) ≡ f)
    (tests : (x : ℕ) (b : Bool) (q : F) → CalledAt g f x b q → (q ≡ f) × (b ≡ eqb x 10))
    (xs : List (Bor (List ℕ))) (t : Take (SplitInclusive ℕ F)) (y : Yields (take_steps (cuts g)) s xs t) (n : ℕ) (same : n ≡ length xs)
    (r : Option (Bor (List ℕ))) (u : Take (SplitInclusive ℕ F)) (k : take_steps (cuts g) t r u) where
  come : YieldsList (take_steps (cuts g)) (λ x. x.now) s (take most (lines_of text))
  come = YieldsList-at begun (YieldsList-from_take most (lines_come g text rest closure tests) count)

  -- the next is line n
  pub line_comes : (x : Bor (List ℕ)) → r ≡ Some x → (n < most) × (n < line_count text) × (x.now ≡ line_at text n)
  line_comes x e =
      let (l, here) = YieldsList-turn come xs t y r u x e k in
      let few = length-take most (lines_of text) in
      let low : length xs < most = omega (arith, few) in
      let there : length xs < line_count text = omega (arith, few) in
      rw same (low, there, line_there (lines_of text) (length xs) x.now there (here ∙ get_or-take most (lines_of text) (length xs) x.now low))

  -- all of them have come
  pub lines_end : r ≡ None → n ≡ min most (line_count text)
  lines_end e =
      let (_, all) = YieldsList-end come xs t y r u e k in
      same ∙ all ∙ length-take most (lines_of text)

-- Records.

-- what is left when so many records have come
left_behind : (xs : List (Bor (List ℕ))) (s t : ChunksExact ℕ) → Yields chunks_exact_steps s xs t → chunks_exact_size s ≡ 12
    → (chunks_exact_size t ≡ 12) × (chunks_exact_rest t ≡ drop (12 * length xs) (chunks_exact_rest s))
left_behind [] s t e size = (ap chunks_exact_size (sym e) ∙ size, ap chunks_exact_rest (sym e))
left_behind (x ∷ xs) s t (j, k, y) size =
    let first : drop 12 (chunks_exact_rest s) ≡ chunks_exact_rest j =
    ap (drop 12) k.1.0 ∙ drop_at x.now (chunks_exact_rest j) 12 (k.1.1 ∙ size) in
    let later = left_behind xs j t y (k.0 ∙ size) in
    let place : 12 + 12 * length xs ≡ 12 * length (x ∷ xs) = omega arith in (
      later.0,
      later.1
          ∙ ap (drop (12 * length xs)) (sym first)
          ∙ drop-drop (12 * length xs) 12 (chunks_exact_rest s)
          ∙ ap (λ (n : ℕ). drop n (chunks_exact_rest s)) place,
    )

module _ (list : List ℕ) (s : ChunksExact ℕ) (xs : List (Bor (List ℕ))) (t : ChunksExact ℕ) (whole : chunks_exact_rest s ≡ list)
    (size : chunks_exact_size s ≡ 12) (y : Yields chunks_exact_steps s xs t) where
  left : chunks_exact_rest t ≡ drop (12 * length xs) list
  left = (left_behind xs s t y size).1 ∙ ap (drop (12 * length xs)) whole

  left_length : length (chunks_exact_rest t) ≡ length list - 12 * length xs
  left_length = ap length left ∙ length-drop (12 * length xs) list

  -- the record that comes next
  pub record_comes : (r : Option (Bor (List ℕ))) (u : ChunksExact ℕ) (x : Bor (List ℕ)) → r ≡ Some x → chunks_exact_steps t r u
      → (x.now ≡ listed list (length xs)) × (length xs < whole_records list)
  record_comes r u x e k =
      let m = subst (λ (o : Option (Bor (List ℕ))). chunks_exact_steps t o u) e k in
      let long : length x.now ≡ 12 = m.1.1 ∙ (left_behind xs s t y size).0 in (
        sym (take_at x.now (chunks_exact_rest u) 12 long) ∙ ap (take 12) (sym m.1.0 ∙ left),
        omega (arith, left_length, ap length m.1.0, length-append x.now (chunks_exact_rest u)),
      )

  -- all have come
  pub records_end : (r : Option (Bor (List ℕ))) (u : ChunksExact ℕ) → r ≡ None → chunks_exact_steps t r u → length xs ≤ whole_records list
      → length xs ≡ whole_records list
  records_end r u e k few =
      let m = subst (λ (o : Option (Bor (List ℕ))). chunks_exact_steps t o u) e k in
      omega (arith, left_length, m.1.0, (left_behind xs s t y size).0)
