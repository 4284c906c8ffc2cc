-- Lines written one behind the other: with the line of one key more the text goes on, and the counts with it.
use Prim.Native.Nat.{ℕ, ◌+◌}
use native.Mathlib.Numerals.{add-one}
use native.Mathlib.Nat.{zero-add, add-zero, add_assoc}
use mathlib.Core.Path.{◌≡◌, refl, sym, ◌∙◌}
use mathlib.Core.Bool.{Bool, true, false, ◌||◌}
use mathlib.Core.List.{List, [], ◌∷◌, ◌++◌, append-nil, append_assoc}
use lib.ListN.{length}
use Rattle.base.proofs.Flags.{clash_flag}
use Rattle.text.specs.Written.{Wrote}
use Rattle.text.proofs.Written.{wrote_none, wrote_more, wrote_length}
use Rattle.lines.specs.declared.line.Tally.{Tally}
use Rattle.lines.specs.Right.{Mark, SURE, MAYBE, Line, line, count, one_if}
use Rattle.lines.specs.Text.{mark_text, lines_text, end_text, list_text}
use Rattle.lines.specs.Numbered.{line_for, numbered}
use Rattle.lines.specs.Passing.{Passed, Marked, mark_if}

-- a mark that is written and counted, SURE and MAYBE
pub marked_sure : {before after : List ℕ} {at : ℕ} {t u : Tally} (sure : Bool) → sure ≡ true → Wrote before at (mark_text SURE) after u.next
    → u.sure ≡ t.sure + 1 → u.maybe ≡ t.maybe → Marked sure before at after t u
marked_sure {t = t} sure e w s m = rw e (record { wrote = w; sure_count = s; maybe_count = m ∙ sym (add-zero t.maybe) })

pub marked_maybe : {before after : List ℕ} {at : ℕ} {t u : Tally} (sure : Bool) → sure ≡ false → Wrote before at (mark_text MAYBE) after u.next
    → u.sure ≡ t.sure → u.maybe ≡ t.maybe + 1 → Marked sure before at after t u
marked_maybe {t = t} sure e w s m = rw e (record { wrote = w; sure_count = s ∙ sym (add-zero t.sure); maybe_count = m })

module _ {K : Type 0} where
  -- one key more
  pub numbered_more : (key : ℕ → K) (sure possible : ℕ → Bool) (i : ℕ) (k : K) (a b : Bool) → k ≡ key i → a ≡ sure i → b ≡ possible i
      → numbered key sure possible (i + 1) ≡ numbered key sure possible i ++ line_for k a b
  unfolding numbered
  numbered_more key sure possible i k a b e f g = rw (add-one, e, f, g)

  pub count_both : (m : Mark) (xs ys : List (Line K)) → count m (xs ++ ys) ≡ count m xs + count m ys
  unfolding count
  count_both m [] ys = sym (zero-add (count m ys))
  count_both m (x ∷ xs) ys = rw (count_both m xs ys) (sym (add_assoc (one_if m x.mark) (count m xs) (count m ys)))

  module _ (key_text : K → List ℕ) where
    pub lines_both : (xs ys : List (Line K)) → lines_text key_text (xs ++ ys) ≡ lines_text key_text xs ++ lines_text key_text ys
    unfolding lines_text
    lines_both [] ys = refl
    lines_both (x ∷ xs) ys = rw (lines_both xs ys) (sym (append_assoc (key_text x.key ++ mark_text x.mark) (lines_text key_text xs) (lines_text key_text ys)))

    -- no line yet
    pub passed_none : (before : List ℕ) (t : Tally) → t.next ≡ 0 → t.sure ≡ 0 → t.maybe ≡ 0 → Passed key_text [] before before t
    unfolding lines_text count
    passed_none before t n s m = record { wrote = rw n (wrote_none before 0); sure = s; maybe = m }

    -- the text of one line
    one_line : (k : K) (m : Mark) → lines_text key_text (line k m ∷ []) ≡ key_text k ++ mark_text m
    unfolding lines_text
    one_line k m = append-nil (key_text k ++ mark_text m)

    one_count : (m : Mark) (k : K) (n : Mark) → count m (line k n ∷ []) ≡ one_if m n
    unfolding count
    one_count m k n = add-zero (one_if m n)

    -- what stands for a key that is sure or possible
    line_there : (k : K) (sure possible : Bool) → (sure || possible) ≡ true → line_for k sure possible ≡ line k (mark_if sure) ∷ []
    line_there k true possible h = refl
    line_there k false true h = refl
    line_there k false false h = absurd (clash_flag h refl)

    module _ (k : K) (sure possible : Bool) {before now keyed after : List ℕ} (ls : List (Line K)) {t u : Tally} {at : ℕ} where
      -- a key is written, and its mark
      pub passed_line : (sure || possible) ≡ true → Wrote now t.next (key_text k) keyed at → Marked sure keyed at after t u
          → Passed key_text ls before now t → Passed key_text (ls ++ line_for k sure possible) before after u
      passed_line there w m p =
          rw (line_there k sure possible there) (record {
            wrote = rw (lines_both ls (line k (mark_if sure) ∷ []), one_line k (mark_if sure)) (wrote_more p.wrote (wrote_more w m.wrote));
            sure = m.sure_count ∙ rw (p.sure, count_both SURE ls (line k (mark_if sure) ∷ []), one_count SURE k (mark_if sure));
            maybe = m.maybe_count ∙ rw (p.maybe, count_both MAYBE ls (line k (mark_if sure) ∷ []), one_count MAYBE k (mark_if sure));
          })

    -- the memory keeps its length
    pub passed_length : {before now : List ℕ} {ls : List (Line K)} {t : Tally} → Passed key_text ls before now t → length now ≡ length before
    passed_length p = wrote_length p.wrote

    -- the last line behind the others
    pub passed_end : {before now after : List ℕ} (ls : List (Line K)) {t : Tally} {r : ℕ} → Passed key_text ls before now t
        → Wrote now t.next (end_text t.sure t.maybe) after r → Wrote before 0 (list_text key_text ls) after r
    unfolding list_text
    passed_end ls p w = wrote_more p.wrote (rw (p.sure, p.maybe) at w)
