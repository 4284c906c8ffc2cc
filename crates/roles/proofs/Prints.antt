-- The text of an input: it is that of what the list promises; an input that is too long for any question has the line of refusal 1 at 0; and no
-- input has two texts.
use Rattle.std.specs.Prelude.{Result}
use Prim.Native.Nat.{ℕ, ◌-◌, ◌<◌, ◌≤◌, min}
use native.Mathlib.Omega.{arith}
use mathlib.Core.Path.{◌≡◌, refl, subst₂}
use mathlib.Core.Logic.{inl, inr}
use mathlib.Core.List.{List, [], ◌∷◌}
use lib.ListN.{length, take, drop, length-drop}
use Rattle.base.specs.declared.refusal.Refusal.{Refusal}
use Rattle.base.specs.Byte.{byte_at}
use Rattle.base.proofs.Refusals.{one_place_both, zero_place}
use Rattle.bundle.specs.Rows.{reader_rows}
use Rattle.bundle.specs.Held.{holding_in}
use Rattle.bundle.proofs.Refusals.{reader_places}
use Rattle.answers.specs.Line.{refusal_line}
use Rattle.said.specs.Line.{refuses}
use Rattle.asked.proofs.Input.{bundle_part}
use Rattle.lines.specs.Sizes.{roles_bytes}
use Rattle.lines.specs.Text.{role_text}
use Rattle.lines.proofs.Once.{right_once}
use Rattle.lists.specs.Asked.{RightRoles}
use Rattle.lists.specs.Promise.{person_row, RolesPromise}
use Rattle.lists.proofs.Found.{roles_one_way}
use Rattle.lists.proofs.Determined.{list_numbers}
use Rattle.listed.specs.declared.Listing.{Listing}
use Rattle.listed.specs.Listing.{ListsAllowed, Tells}
use Rattle.listed.proofs.Given.{prints_listed, prints_one}
use Rattle.roles.specs.Input.{question_bytes, longest_input, bundle_of, person_of}
use Rattle.roles.specs.Prints.{roles_rows, Prints}

-- the part behind the question is the bundle, and the first byte is the question
pub asked : (input : List ℕ) (start d : ℕ) (before after : List ℕ) (o : Result ℕ (Refusal ℕ)) → start ≡ min question_bytes (length input) → d ≡ byte_at input 0
    → RolesPromise (take (length input - start) (drop start input)) d before after o → RolesPromise (bundle_of input) (person_of input) before after o
asked input start d before after o s e p =
    subst₂ (λ (bytes : List ℕ) (D : ℕ). RolesPromise bytes D before after o) (bundle_part question_bytes input start s) e p

module _ (input : List ℕ) where
  pub prints_list : (before after : List ℕ) (o : Result ℕ (Refusal ℕ)) (l : Listing) → roles_bytes ≤ length before
      → RolesPromise (bundle_of input) (person_of input) before after o → Tells o l → ListsAllowed after l (Prints input)
  prints_list before after o l room =
      prints_listed (RightRoles (holding_in (bundle_of input)) (person_of input)) role_text (roles_rows input) roles_bytes before after room
      (list_numbers (bundle_of input) (person_row (bundle_of input) (person_of input)) roles_bytes before (omega arith)) o l

  pub prints_longer : longest_input < length input → Prints input (refusal_line 1 0)
  prints_longer long = refuses 1 0 (inl (refl, (refl, inr (inl (omega (arith, length-drop question_bytes input)))))) refl

  pub prints_once : (one two : List ℕ) → Prints input one → Prints input two → one ≡ two
  prints_once =
      prints_one (RightRoles (holding_in (bundle_of input)) (person_of input)) role_text (roles_rows input)
      (one_place_both (reader_rows (bundle_of input)) (person_row (bundle_of input) (person_of input) ∷ []) (reader_places (bundle_of input)) (zero_place _, tt))
      (right_once _ roles_one_way)
