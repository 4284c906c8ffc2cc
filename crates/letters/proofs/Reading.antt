-- A text judged: E and R first, then line by line. What is known of the lines passed, how it goes on at the next, and the three ways in which it ends.
use Rattle.std.specs.Prelude.{Result, Ok, Err}
use Prim.Native.Nat.{ℕ, ◌+◌, ◌*◌, ◌<◌, ◌≤◌, min}
use native.Mathlib.Omega.{arith}
use native.Mathlib.Numerals.{add-one}
use mathlib.Core.Path.{◌≡◌, refl, ap, sym, subst, ◌∙◌}
use mathlib.Core.Bool.{true, false}
use mathlib.Core.Logic.{inl, inr}
use mathlib.Core.List.{List, [], ◌∷◌, ◌++◌, append_assoc, append-nil}
use lib.ListN.{length, take, drop, length-take, length-append, take-append-drop}
use Rattle.rt0.specs.Credential.{Credential, AllValid}
use Rattle.base.specs.declared.refusal.Refusal.{Refusal}
use Rattle.base.specs.Refused.{refusal_at}
use Rattle.base.specs.Range.{outside}
use Rattle.base.specs.Refusals.{AtPlace, FromOne, refused, passed}
use Rattle.base.proofs.Flags.{Tells, or_tells, outside_tells, or_false, inside, clash_flag}
use Rattle.base.proofs.Judging.{judged_more}
use Rattle.bundle.specs.Edition.{most_names}
use Rattle.content.specs.Content.{most_entities}
use Rattle.spelling.specs.Line.{line_of, RightLine}
use Rattle.letters.specs.Lines.{text_of, line_count, line_at, first_length}
use Rattle.letters.specs.Rows.{OutOfRange, out_of_range, FirstWrong, room_rows, line_rows, read_rows}
use Rattle.letters.specs.Promise.{Says, Letter, JudgedText}
use Rattle.letters.proofs.Cut.{line_first, none_left, no_lines}
use Rattle.letters.proofs.Texts.{valid_none, valid_last, text_last, front_count, front_next, front_right}

-- the first lines, so many bytes, are those of credentials that are valid
pub record Passed (E R : ℕ) (text : List ℕ) (at lines : ℕ) : Type 0 where
  pub so_far : List Credential
  pub left : List ℕ
  pub valid : AllValid E R so_far
  pub split : text ≡ text_of so_far ++ left
  pub bytes : at ≡ length (text_of so_far)
  pub count : length so_far ≡ lines

module _ (E R : ℕ) (text : List ℕ) where
  pub passed_none : Passed E R text 0 0
  unfolding text_of
  passed_none = record { so_far = []; left = text; valid = valid_none E R; split = refl; bytes = refl; count = refl }

  module _ (at lines : ℕ) (h : Passed E R text at lines) where
    -- the lines passed are right
    before_right : (j : ℕ) → j < lines → RightLine E R (line_at text j)
    before_right j l =
        subst (λ (t : List ℕ). RightLine E R (line_at t j)) (sym h.split) (front_right E R h.so_far h.left h.valid j (omega (arith, h.count)))

    counted : line_count text ≡ lines + line_count h.left
    counted = ap line_count h.split ∙ front_count h.so_far h.left ∙ ap (λ (n : ℕ). n + line_count h.left) h.count

    whole : length text ≡ at + length h.left
    whole = ap length h.split ∙ length-append (text_of h.so_far) h.left ∙ ap (λ (n : ℕ). n + length h.left) (sym h.bytes)

    -- the line that is next
    module _ (line : List ℕ) (more : lines < line_count text) (next : line ≡ line_at text lines) where
      here : line ≡ take (first_length h.left) h.left
      here =
          next
          ∙ ap (λ (t : List ℕ). line_at t lines) h.split
          ∙ ap (line_at (text_of h.so_far ++ h.left)) (sym h.count)
          ∙ front_next h.so_far h.left
          ∙ line_first h.left (omega (arith, counted))

      -- it ends within the text
      pub ends_within : at + length line ≤ length text
      ends_within = omega (arith, whole, ap length here, length-take (first_length h.left) h.left)

      -- one right line more
      pub passed_more : RightLine E R line → Passed E R text (at + length line) (lines + 1)
      passed_more (c, v, e) =
          let behind = drop (first_length h.left) h.left in
          let rest : h.left ≡ line_of c ++ behind =
          sym (take-append-drop (first_length h.left) h.left) ∙ ap (λ (line : List ℕ). line ++ behind) (sym here ∙ e) in
          let longer : length (text_of (h.so_far ++ (c ∷ []))) ≡ length (text_of h.so_far) + length (line_of c) =
          ap length (text_last h.so_far c) ∙ length-append (text_of h.so_far) (line_of c) in
          record {
            so_far = h.so_far ++ (c ∷ []);
            left = behind;
            valid = valid_last E R h.so_far c h.valid v;
            split =
                h.split
                ∙ ap (λ (left : List ℕ). text_of h.so_far ++ left) rest
                ∙ sym (append_assoc (text_of h.so_far) (line_of c) behind)
                ∙ ap (λ (front : List ℕ). front ++ behind) (sym (text_last h.so_far c));
            bytes = omega (arith, h.bytes, longer, ap length e);
            count = rw length-append (omega (arith, h.count));
          }

      -- it is wrong
      pub text_wrong : (size : ℕ) → lines < 240 → (RightLine E R line → ⊥)
          → JudgedText (line_rows E R text size) E R text (Err (refusal_at 14 (lines + 1)))
      text_wrong size among wrong =
          let first : FirstWrong E R text lines =
          record { there = more; among = among; wrong = λ right. wrong (subst (RightLine E R) (sym next) right); before = before_right } in
          refused (inl (refl, (lines, add-one lines, first))) tt

    -- something follows line 240
    pub text_many : lines ≡ min 240 (line_count text) → (size : ℕ) → at < length text → JudgedText (line_rows E R text size) E R text (Err (refusal_at 12 241))
    text_many all size more =
        let some : line_count h.left ≡ 0 → ⊥ = λ none. omega (arith, whole, ap length (none_left h.left none)) in
        let many : 240 < line_count text = omega (arith, counted, some) in
        refused (inr (λ (_, (k, _, first)). first.wrong (before_right k (omega (arith, first.among))), inl (refl, (refl, many)))) tt

    -- nothing follows
    pub text_whole : (size : ℕ) → length text ≤ at → lines ≤ 240 → (r : Result ℕ (Refusal ℕ)) → Says (room_rows lines size) r (12 * lines)
        → JudgedText (line_rows E R text size) E R text r
    text_whole size none few r says = by (subst (λ (n : ℕ). Says (room_rows n size) r (12 * n)) all says)
      where
        all : lines ≡ line_count text
        all = omega (arith, counted, no_lines h.left (omega (arith, whole)))

        letter : Letter E R text
        letter =
            record {
              credentials = h.so_far;
              valid = h.valid;
              text_is =
                  h.split
                  ∙ ap (λ (left : List ℕ). text_of h.so_far ++ left) (none_left h.left (omega (arith, counted, all)))
                  ∙ append-nil (text_of h.so_far);
            }

        right : (p : ℕ) × FromOne (FirstWrong E R text) p → ⊥
        right (_, (k, _, first)) = first.wrong (before_right k (omega (arith, first.there, all)))

        not_many : (p : ℕ) × AtPlace 241 (240 < line_count text) p → ⊥
        not_many (_, (_, l)) = omega (arith, all)

        by : Says (room_rows (line_count text) size) r (12 * line_count text) → JudgedText (line_rows E R text size) E R text r
        by (refused d k) = refused (inr (right, inr (not_many, d))) tt
        by (passed z p c g) = passed z p (right, (not_many, c)) (g, letter)

-- whether there is room
pub room_short : (lines size : ℕ) → size < 12 * lines → Says (room_rows lines size) (Err (refusal_at 13 0)) (12 * lines)
room_short lines size l = refused (inl (refl, (refl, l))) tt

pub room_enough : (lines size : ℕ) → 12 * lines ≤ size → Says (room_rows lines size) (Ok (12 * lines)) (12 * lines)
room_enough lines size l = passed refl refl (λ (_, (_, short)). omega arith, tt) refl

-- E and R: out of range exactly if the test says so; in range, they have one digit or two
pub range_tells : (E R : ℕ) → Tells (out_of_range E R) (OutOfRange E R)
range_tells E R = or_tells _ _ (outside_tells most_entities E) (outside_tells most_names R)

pub in_range : (E R : ℕ) → out_of_range E R ≡ false → (E < 100) × (R < 100)
in_range E R h =
    let (e, r) = or_false (outside most_entities E) (outside most_names R) h in
    (omega (arith, inside most_entities E e), omega (arith, inside most_names R r))

module _ (E R : ℕ) (text : List ℕ) (size : ℕ) where
  pub text_range : out_of_range E R ≡ true → JudgedText (read_rows E R text size) E R text (Err (refusal_at 3 0))
  text_range h = refused (inl (refl, (refl, (range_tells E R).0 h))) tt

  pub text_in_range : out_of_range E R ≡ false → (r : Result ℕ (Refusal ℕ)) → JudgedText (line_rows E R text size) E R text r → JudgedText (read_rows E R text size) E R text r
  text_in_range h r j = judged_more _ _ (λ (_, (_, out)). clash_flag ((range_tells E R).1 out) h) j
