-- What a list promises, with enough memory, is what may be printed: the text of the right list, or the line of the refusal that is due. Where two
-- right lists are equal, there is one such text.
use Rattle.std.specs.Prelude.{Result, Ok, Err}
use Prim.Native.Nat.{ℕ, ◌≤◌}
use native.Mathlib.Omega.{arith}
use mathlib.Core.Path.{◌≡◌, sym, ap, ◌∙◌}
use mathlib.Core.List.{List, [], ◌∷◌, ◌++◌, append-nil}
use lib.ListN.{length, take, length-append}
use lib.Seq.{take_at}
use Rattle.base.specs.declared.refusal.Refusal.{Refusal}
use Rattle.base.specs.Refusals.{Row, Clear, AllOnePlace, AllNumbered, refused, passed}
use Rattle.base.proofs.Refusals.{due_number}
use Rattle.answers.specs.Line.{refusal_line, Holds}
use Rattle.said.specs.Line.{LineBy}
use Rattle.said.proofs.Line.{line_refused, line_given, one_line}
use Rattle.lines.specs.Right.{Line}
use Rattle.lines.specs.Text.{list_text}
use Rattle.lists.specs.Promise.{short_row, ListGiven, ListPromise}
use Rattle.lists.proofs.Determined.{some_text}
use Rattle.listed.specs.declared.Listing.{Listing}
use Rattle.listed.specs.Listing.{ListsAllowed, Tells}
use Rattle.listed.specs.Given.{GivenText}

-- of an answer there is no message
pub no_problem : (o : Result ℕ (Refusal ℕ)) (l : Listing) → Tells o l → Holds l.problem []
no_problem (Ok n) l t = t.2
no_problem (Err why) l t = t.2

module _ {K : Type 0} (Right : List (Line K) → Type 0) (key_text : K → List ℕ) (rows : List Row) where
  -- the text at the front of what a list left
  text_front : {before after : List ℕ} (n : ℕ) (g : ListGiven Right key_text before after (Ok n)) → take n after ≡ list_text key_text g.list
  text_front n g = ap (take n) g.written ∙ take_at (list_text key_text g.list) _ n (sym g.length_said)

  text_inside : {before after : List ℕ} (n : ℕ) → ListGiven Right key_text before after (Ok n) → n ≤ length after
  text_inside {before} {after} n g = rw (g.written, length-append) (omega (arith, g.length_said))

  module _ (needed : ℕ) (before after : List ℕ) (room : needed ≤ length before) (numbered : AllNumbered (rows ++ (short_row needed before ∷ []))) where
    no_short : Clear (short_row needed before ∷ [])
    no_short = ((λ (_, (_, l)). omega arith), tt)

    pub prints_listed : (o : Result ℕ (Refusal ℕ)) (l : Listing) → ListPromise Right key_text (rows ++ (short_row needed before ∷ [])) before after o → Tells o l
        → ListsAllowed after l (LineBy rows (GivenText Right key_text))
    prints_listed (Ok n) l (refused d k) t = absurd (omega (arith, due_number (rows ++ (short_row needed before ∷ [])) numbered 0 0 d))
    prints_listed (Ok n) l (passed _ _ c g) (size, line, problem) =
        record {
          inside = rw size (text_inside n g);
          line = [];
          holds = line;
          allowed =
              rw (size, append-nil (take n after))
              (line_given rows (GivenText Right key_text) (short_row needed before ∷ []) no_short c
              (record { list = g.list; right = g.right; text = text_front n g }));
        }
    prints_listed (Err why) l (refused d k) (size, line, problem) =
        record {
          inside = omega arith;
          line = refusal_line why.number why.place;
          holds = line;
          allowed = rw size (line_refused rows (GivenText Right key_text) (short_row needed before ∷ []) no_short why.number why.place d);
        }
    prints_listed (Err why) l (passed _ _ c g) t = absurd (omega (arith, some_text key_text g.list, g.length_said))

  -- one text
  pub prints_one : AllOnePlace rows → ((xs ys : List (Line K)) → Right xs → Right ys → xs ≡ ys) → (one two : List ℕ)
      → LineBy rows (GivenText Right key_text) one → LineBy rows (GivenText Right key_text) two → one ≡ two
  prints_one places once = one_line rows (GivenText Right key_text) places same
    where
      same : (one two : List ℕ) → GivenText Right key_text one → GivenText Right key_text two → one ≡ two
      same one two g h = g.text ∙ ap (list_text key_text) (once g.list h.list g.right h.right) ∙ sym h.text
