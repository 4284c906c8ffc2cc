-- The promise of a list leaves nothing open: two calls that keep it for the same bundle, question and memory give the same answer and leave
-- the same bytes.
use Rattle.std.specs.Prelude.{Result, Ok, Err}
use Rattle.base.specs.declared.refusal.Refusal.{Refusal}
use Rattle.base.specs.Refused.{refusal_at, number_of, place_of}
use Rattle.base.proofs.Refused.{refused_same}
use Prim.Native.Nat.{ℕ, ◌≤◌}
use native.Mathlib.Omega.{arith}
use mathlib.Core.Path.{◌≡◌, sym, ap, ◌∙◌}
use mathlib.Core.Logic.{◌⊎◌, inl, inr}
use mathlib.Core.List.{List, [], ◌∷◌, ◌++◌}
use lib.ListN.{length, drop, length-append}
use Rattle.rt0.specs.Credential.{Role}
use Rattle.base.specs.Refusals.{Row, AllOnePlace, AllNumbered}
use Rattle.base.proofs.Refusals.{judged_same, judged_given, one_place_both, numbered_both, zero_place}
use Rattle.bundle.specs.Rows.{reader_rows}
use Rattle.bundle.specs.Held.{holding_in}
use Rattle.bundle.proofs.Refusals.{reader_places, reader_numbers}
use Rattle.lines.specs.Right.{Line}
use Rattle.lists.specs.Asked.{RightMembers, RightRoles}
use Rattle.lines.specs.Text.{person_text, role_text, list_text}
use Rattle.lines.specs.Sizes.{members_bytes, roles_bytes}
use Rattle.lists.specs.Promise.{role_row, person_row, short_row, list_rows, length_of, ListRefused, ListGiven, ListPromise}
use Rattle.lists.specs.Promise.{MembersPromise, RolesPromise}
use Rattle.lines.proofs.Once.{right_once}
use Rattle.lists.proofs.Found.{persons_one_way, roles_one_way}

-- no text is empty
pub some_text : {K : Type 0} (key_text : K → List ℕ) (ls : List (Line K)) → 1 ≤ length (list_text key_text ls)
unfolding list_text
some_text key_text ls = simp length-append (omega arith)

-- the same answers, and the same bytes
abbrev pub Same : Result ℕ (Refusal ℕ) → List ℕ → Result ℕ (Refusal ℕ) → List ℕ → Type 0
Same one after_one two after_two = (one ≡ two) × (after_one ≡ after_two)

module _ {K : Type 0} (Right : List (Line K) → Type 0) (once : (xs ys : List (Line K)) → Right xs → Right ys → xs ≡ ys) (key_text : K → List ℕ)
    (rows : List Row) (places : AllOnePlace rows) (numbers : AllNumbered rows) (before : List ℕ) where
  abbrev Keeps : List ℕ → Result ℕ (Refusal ℕ) → Type 0
  Keeps after o = ListPromise Right key_text rows before after o

  abbrev Both : List ℕ → Result ℕ (Refusal ℕ) → List ℕ → Result ℕ (Refusal ℕ) → Type 0
  Both after_one one after_two two =
      (ListRefused before after_one one × ListRefused before after_two two)
      ⊎ (ListGiven Right key_text before after_one one × ListGiven Right key_text before after_two two)

  same_length : (after_one after_two : List ℕ) (one two : Result ℕ (Refusal ℕ)) → Both after_one one after_two two → length_of one ≡ length_of two
  same_length after_one after_two one two (inl (k, l)) = k.none ∙ sym l.none
  same_length after_one after_two one two (inr (g, h)) =
      g.length_said ∙ ap (λ (ls : List (Line K)). length (list_text key_text ls)) (once g.list h.list g.right h.right) ∙ sym h.length_said

  same_bytes : (after_one after_two : List ℕ) (one two : Result ℕ (Refusal ℕ)) → Both after_one one after_two two → after_one ≡ after_two
  same_bytes after_one after_two one two (inl (k, l)) = k.untouched ∙ sym l.untouched
  same_bytes after_one after_two one two (inr (g, h)) =
      g.written
      ∙ ap (λ (ls : List (Line K)). list_text key_text ls ++ drop (length_of one) before) (once g.list h.list g.right h.right)
      ∙ ap (λ (n : ℕ). list_text key_text h.list ++ drop n before) (same_length after_one after_two one two (inr (g, h)))
      ∙ sym h.written

  -- a refusal has a number
  no_number : (after : List ℕ) (n p : ℕ) → Keeps after (Err (refusal_at n p)) → n ≡ 0 → ⊥
  no_number after n p k z =
      let g = (judged_given rows places numbers k z).1 in
      omega (arith, some_text key_text g.list, g.length_said)

  same_answer : (after_one after_two : List ℕ) (one two : Result ℕ (Refusal ℕ)) → Keeps after_one one → Keeps after_two two → number_of one ≡ number_of two
      → place_of one ≡ place_of two → length_of one ≡ length_of two → one ≡ two
  same_answer after_one after_two (Ok n) (Ok m) p q number place size = ap Ok size
  same_answer after_one after_two (Ok n) (Err why) p q number place size = absurd (no_number after_two why.number why.place q (sym number))
  same_answer after_one after_two (Err why) (Ok m) p q number place size = absurd (no_number after_one why.number why.place p number)
  same_answer after_one after_two (Err why) (Err other) p q number place size = refused_same _ _ number place

  list_determined : (after_one after_two : List ℕ) (one two : Result ℕ (Refusal ℕ)) → Keeps after_one one → Keeps after_two two → Same one after_one two after_two
  list_determined after_one after_two one two p q =
      let (number, place, both) = judged_same rows places p q in (
        same_answer after_one after_two one two p q number place (same_length after_one after_two one two both),
        same_bytes after_one after_two one two both,
      )

module _ (bytes : List ℕ) (asked : Row) (needed : ℕ) (before : List ℕ) where
  abbrev later : List Row
  later = asked ∷ short_row needed before ∷ []

  pub list_places : AllOnePlace (asked ∷ []) → AllOnePlace (list_rows bytes asked needed before)
  list_places one = one_place_both (reader_rows bytes) later (reader_places bytes) (one.0, (zero_place _, tt))

  pub list_numbers : 1 ≤ asked.number → AllNumbered (list_rows bytes asked needed before)
  list_numbers one = numbered_both (reader_rows bytes) later (reader_numbers bytes) (one, (omega arith, tt))

module _ (bytes before after_one after_two : List ℕ) (one two : Result ℕ (Refusal ℕ)) where
  pub members_determined : (ρ : Role) → MembersPromise bytes ρ before after_one one → MembersPromise bytes ρ before after_two two
      → Same one after_one two after_two
  members_determined ρ p q =
      list_determined (RightMembers (holding_in bytes) ρ) (right_once _ persons_one_way) person_text (list_rows bytes (role_row bytes ρ) members_bytes before)
      (list_places bytes (role_row bytes ρ) members_bytes before (zero_place _, tt)) (list_numbers bytes (role_row bytes ρ) members_bytes before (omega arith))
      before after_one after_two one two p q

  pub roles_determined : (D : ℕ) → RolesPromise bytes D before after_one one → RolesPromise bytes D before after_two two
      → Same one after_one two after_two
  roles_determined D p q =
      list_determined (RightRoles (holding_in bytes) D) (right_once _ roles_one_way) role_text (list_rows bytes (person_row bytes D) roles_bytes before)
      (list_places bytes (person_row bytes D) roles_bytes before (zero_place _, tt)) (list_numbers bytes (person_row bytes D) roles_bytes before (omega arith))
      before after_one after_two one two p q
