-- The output of an input: it is that of what the program answers; an input that is longer than any that is not refused has the output of every
-- input that begins with it; and no input has two.
use Rattle.std.specs.Prelude.{Result, Err}
use Prim.Native.Nat.{ℕ, ◌-◌, ◌<◌}
use native.Mathlib.Omega.{arith}
use mathlib.Core.Path.{◌≡◌, refl, ap, sym, subst, subst₂, ◌∙◌}
use mathlib.Core.Logic.{inl, inr}
use mathlib.Core.List.{List, [], ◌++◌}
use lib.ListN.{length, take, drop, length-drop, length-take, get_or-append}
use lib.Seq.{take_all, take-append-le, drop-append-le}
use borrow.Author.Tests.{ne_eqb}
use Rattle.std.specs.Prelude.{Result, Ok}
use Rattle.rt0.specs.Credential.{Credential}
use Rattle.base.specs.declared.refusal.Refusal.{Refusal}
use Rattle.base.specs.Refused.{refusal_at}
use Rattle.base.specs.Refusals.{Clear, AllOnePlace, AllNumbered, refused}
use Rattle.base.proofs.Flags.{not_true_false}
use Rattle.base.proofs.Refusals.{zero_place}
use Rattle.content.specs.Content.{marks_wrong}
use Rattle.content.specs.Encode.{encode}
use Rattle.writer.specs.Rows.{HeadWrong}
use Rattle.letters.specs.Lines.{line_count}
use Rattle.letters.proofs.Texts.{text_count, text_one}
use Rattle.letters.proofs.Reading.{range_tells, in_range}
use Rattle.letters.proofs.Kept.{read_places}
use Rattle.letters.proofs.Places.{text_short}
use Rattle.answers.specs.Line.{Holds}
use Rattle.input.specs.declared.Input.{Input}
use Rattle.input.specs.declared.Input.TheVariants.{Longer}
use Rattle.said.specs.Said.{PrintsLonger}
use Rattle.said.specs.Line.{LineBy, refuses, gives}
use Rattle.said.proofs.Line.{one_line}
use Rattle.said.proofs.Saying.{by_longer}
use Rattle.listed.specs.declared.Listing.{Listing}
use Rattle.listed.specs.Listing.{ListsAllowed, RightlyListed}
use Rattle.desk.specs.Answer.{Gives}
use Rattle.desk.proofs.Given.{lists_others}
use Rattle.bundle_from_lines.specs.Input.{head_bytes, longest_text, longest_input, entities_given, names_given, marks_given, text_given}
use Rattle.bundle_from_lines.specs.Prints.{head_rows, content_with, BundleOf, bundle_rows, BundleFrom, Prints, unreadable}
use Rattle.bundle_from_lines.proofs.Made.{no_range, few_lines}
use Rattle.bundle_from_lines.proofs.Onward.{lines_grow, wrong_onward, wrong_before}

-- E and R of a right head
head_range : (E R : ℕ) (marks : List ℕ) → (HeadWrong E R marks → ⊥) → (E < 100) × (R < 100)
head_range E R marks right = in_range E R (not_true_false _ (λ out. no_range E R marks right ((range_tells E R).0 out)))

-- fewer bytes than a head
pub head_short : (input : List ℕ) → length input < head_bytes → HeadWrong (entities_given input) (names_given input) (marks_given input)
unfolding marks_wrong
head_short input short =
    inr (inr (rw (ne_eqb (length (marks_given input)) 32 (λ e. omega (arith, e, length-take 32 (drop 2 input), length-drop 2 input))) refl))

module _ (E R : ℕ) (marks : List ℕ) where
  abbrev PrintsOf : List ℕ → List ℕ → Type 0
  PrintsOf text = LineBy (head_rows E R marks text) (BundleOf E R marks text)

  -- a text that is longer than any right one
  onward : (text more : List ℕ) → longest_text < length text → (shown : List ℕ) → PrintsOf text shown → PrintsOf (text ++ more) shown
  onward text more long shown (refuses number place (inl head) e) = refuses number place (inl head) e
  onward text more long shown (refuses number place (inr (head, inl (n, (k, at, first)))) e) =
      let (a, b) = head_range E R marks (λ wrong. head (0, (refl, wrong))) in
      refuses number place (inr (head, inl (n, (k, at, wrong_onward E R a b text more long k first)))) e
  onward text more long shown (refuses number place (inr (head, inr (lines, inl (n, (at, many))))) e) =
      let (a, b) = head_range E R marks (λ wrong. head (0, (refl, wrong))) in
      refuses number place
      (inr (head, inr (λ (p, (k, at, first)). lines (p, (k, at, wrong_before E R a b text more long k first)), inl (n, (at, omega (arith, lines_grow text more)))))) e
  onward text more long shown (refuses number place (inr (head, inr (lines, inr (_, none)))) e) = absurd none
  onward text more long shown (gives (head, (lines, (many, _))) made) =
      let right : HeadWrong E R marks → ⊥ = λ wrong. head (0, (refl, wrong)) in
      let (a, b) = head_range E R marks right in
      let cs = made.letter.credentials in
      let count : line_count text ≡ length cs = ap line_count made.letter.text_is ∙ text_count cs in
      absurd (omega (arith, count, few_lines E R marks text right (lines, (many, tt)), text_short E R a b cs made.letter.valid, ap length made.letter.text_is))

  -- one output
  places : (text : List ℕ) → AllOnePlace (head_rows E R marks text)
  places text = let (_, (lines, (many, _))) = read_places E R text 0 in (zero_place _, (lines, (many, tt)))

  bundle_once : (text : List ℕ) → (E < 100) × (R < 100) → (one two : List ℕ) → BundleOf E R marks text one → BundleOf E R marks text two → one ≡ two
  bundle_once text (a, b) one two x y =
      let same = text_one E R a b x.letter.credentials y.letter.credentials x.letter.valid y.letter.valid (sym x.letter.text_is ∙ y.letter.text_is) in
      x.bytes ∙ ap (λ (cs : List Credential). encode (content_with E R marks cs)) same ∙ sym y.bytes

  -- what is given where no row applies is given with that
  with_clear : (text shown : List ℕ) → PrintsOf text shown → LineBy (head_rows E R marks text) (λ s. Clear (head_rows E R marks text) × BundleOf E R marks text s) shown
  with_clear text shown (refuses number place d e) = refuses number place d e
  with_clear text shown (gives clear made) = gives clear (clear, made)

  once : (text one two : List ℕ) → PrintsOf text one → PrintsOf text two → one ≡ two
  once text one two p q =
      one_line (head_rows E R marks text) (λ s. Clear (head_rows E R marks text) × BundleOf E R marks text s) (places text)
      (λ x y (clear, a) (_, b). bundle_once text (head_range E R marks (λ wrong. clear.0 (0, (refl, wrong)))) x y a b) one two
      (with_clear text one p) (with_clear text two q)

pub prints_once : (input one two : List ℕ) → Prints input one → Prints input two → one ≡ two
prints_once input = once (entities_given input) (names_given input) (marks_given input) (text_given input)

-- What the program's functions answer.

module _ (input after : List ℕ) where
  pub short_refused : length input < head_bytes → Gives (bundle_rows input) (BundleFrom input) after (Err (refusal_at 3 0))
  short_refused short = refused (inl (refl, (refl, head_short input short))) (omega arith)

  -- from the parts of an input that has a head
  pub from_parts : (E R : ℕ) (w : Result ℕ (Refusal ℕ)) → E ≡ entities_given input → R ≡ names_given input
      → Gives (head_rows E R (marks_given input) (take (length input - 34) (drop 34 input))) (BundleOf E R (marks_given input) (take (length input - 34) (drop 34 input))) after w
      → Gives (bundle_rows input) (BundleFrom input) after w
  from_parts E R w e r h =
      let all : take (length input - 34) (drop 34 input) ≡ text_given input = take_all (length input - 34) (drop 34 input) (omega (arith, length-drop 34 input)) in
      subst (λ (t : List ℕ). Gives (head_rows (entities_given input) (names_given input) (marks_given input) t)
      (BundleOf (entities_given input) (names_given input) (marks_given input) t) after w) all
      (subst₂ (λ (a b : ℕ). Gives (head_rows a b (marks_given input) (take (length input - 34) (drop 34 input)))
      (BundleOf a b (marks_given input) (take (length input - 34) (drop 34 input))) after w) e r h)

-- the table's numbers
pub numbered : (input : List ℕ) → AllNumbered (bundle_rows input)
numbered input = (omega arith, (omega arith, (omega arith, tt)))

-- an input that is longer than any that is not refused
pub prints_onward : (input : List ℕ) → longest_input < length input → (shown : List ℕ) → Prints input shown → (more : List ℕ) → Prints (input ++ more) shown
prints_onward input long shown p more =
    let E : entities_given input ≡ entities_given (input ++ more) = sym (get_or-append input more 0 0 (omega arith)) in
    let R : names_given input ≡ names_given (input ++ more) = sym (get_or-append input more 0 1 (omega arith)) in
    let marks : marks_given input ≡ marks_given (input ++ more) =
    sym (ap (take 32) (drop-append-le 2 input more (omega arith)) ∙ take-append-le 32 (drop 2 input) more (omega (arith, length-drop 2 input))) in
    let text : text_given input ++ more ≡ text_given (input ++ more) = sym (drop-append-le 34 input more (omega arith)) in
    let same = onward (entities_given input) (names_given input) (marks_given input) (text_given input) more (omega (arith, length-drop 34 input)) shown p in
    subst (λ (e : ℕ). PrintsOf e (names_given (input ++ more)) (marks_given (input ++ more)) (text_given (input ++ more)) shown) E
    (subst (λ (r : ℕ). PrintsOf (entities_given input) r (marks_given (input ++ more)) (text_given (input ++ more)) shown) R
    (subst (λ (m : List ℕ). PrintsOf (entities_given input) (names_given input) m (text_given (input ++ more)) shown) marks
    (subst (λ (t : List ℕ). PrintsOf (entities_given input) (names_given input) (marks_given input) t shown) text same)))

-- what is listed of the bytes of a full buffer is listed of every input that is longer
pub lists_onward : (buffer text : List ℕ) (l : Listing) → longest_input < length buffer → ListsAllowed text l (Prints buffer)
    → ListsAllowed text l (PrintsLonger Prints buffer)
lists_onward buffer text l long out = lists_others text l (λ shown p more some. prints_onward buffer long shown p more) out

-- .. and so it is rightly said of it
pub said_onward : {E : Type 0} (got : Result Input E) (buffer text : List ℕ) (l : Listing) → longest_input < length buffer → got ≡ Ok Longer → ListsAllowed text l (Prints buffer)
    → Holds l.problem [] → RightlyListed Prints unreadable got buffer text l
said_onward got buffer text l long e out problem =
    by_longer (ListsAllowed text l) l.problem Prints unreadable got buffer e
    (lists_onward buffer text l long out) problem
