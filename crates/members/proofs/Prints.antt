-- The text of an input: it is that of what the list promises; an input that is too long for any question has the line of refusal 1 at 0; and no
-- input has two texts.
use Rattle.std.specs.Prelude.{Result}
use Prim.Native.Nat.{ℕ, ◌-◌, ◌<◌, ◌≤◌, min}
use native.Mathlib.Omega.{arith}
use mathlib.Core.Path.{◌≡◌, refl, subst₂}
use mathlib.Core.Logic.{inl, inr}
use mathlib.Core.List.{List, [], ◌∷◌}
use lib.ListN.{length, take, drop, length-drop}
use Rattle.rt0.specs.Credential.{Role, ◌·◌}
use Rattle.base.specs.declared.refusal.Refusal.{Refusal}
use Rattle.base.specs.Byte.{byte_at}
use Rattle.base.proofs.Refusals.{one_place_both, zero_place}
use Rattle.bundle.specs.Rows.{reader_rows}
use Rattle.bundle.specs.Held.{holding_in}
use Rattle.bundle.proofs.Refusals.{reader_places}
use Rattle.answers.specs.Line.{refusal_line}
use Rattle.said.specs.Line.{refuses}
use Rattle.asked.proofs.Input.{bundle_part}
use Rattle.lines.specs.Sizes.{members_bytes}
use Rattle.lines.specs.Text.{person_text}
use Rattle.lines.proofs.Once.{right_once}
use Rattle.lists.specs.Asked.{RightMembers}
use Rattle.lists.specs.Promise.{role_row, MembersPromise}
use Rattle.lists.proofs.Found.{persons_one_way}
use Rattle.lists.proofs.Determined.{list_numbers}
use Rattle.listed.specs.declared.Listing.{Listing}
use Rattle.listed.specs.Listing.{ListsAllowed, Tells}
use Rattle.listed.proofs.Given.{prints_listed, prints_one}
use Rattle.members.specs.Input.{question_bytes, longest_input, bundle_of, role_of}
use Rattle.members.specs.Prints.{members_rows, Prints}

-- the part behind the question is the bundle, and the first two bytes are the question
pub asked : (input : List ℕ) (start a r : ℕ) (before after : List ℕ) (o : Result ℕ (Refusal ℕ)) → start ≡ min question_bytes (length input)
    → a ≡ byte_at input 0 → r ≡ byte_at input 1 → MembersPromise (take (length input - start) (drop start input)) (a · r) before after o
    → MembersPromise (bundle_of input) (role_of input) before after o
asked input start a r before after o s e f p =
    let same : a · r ≡ role_of input = cc in
    subst₂ (λ (bytes : List ℕ) (ρ : Role). MembersPromise bytes ρ before after o) (bundle_part question_bytes input start s) same p

module _ (input : List ℕ) where
  pub prints_list : (before after : List ℕ) (o : Result ℕ (Refusal ℕ)) (l : Listing) → members_bytes ≤ length before
      → MembersPromise (bundle_of input) (role_of input) before after o → Tells o l → ListsAllowed after l (Prints input)
  prints_list before after o l room =
      prints_listed (RightMembers (holding_in (bundle_of input)) (role_of input)) person_text (members_rows input) members_bytes before after room
      (list_numbers (bundle_of input) (role_row (bundle_of input) (role_of input)) members_bytes before (omega arith)) o l

  pub prints_longer : longest_input < length input → Prints input (refusal_line 1 0)
  prints_longer long = refuses 1 0 (inl (refl, (refl, inr (inl (omega (arith, length-drop question_bytes input)))))) refl

  pub prints_once : (one two : List ℕ) → Prints input one → Prints input two → one ≡ two
  prints_once =
      prints_one (RightMembers (holding_in (bundle_of input)) (role_of input)) person_text (members_rows input)
      (one_place_both (reader_rows (bundle_of input)) (role_row (bundle_of input) (role_of input) ∷ []) (reader_places (bundle_of input)) (zero_place _, tt))
      (right_once _ persons_one_way)
