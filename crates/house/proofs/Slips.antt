-- The checker's answers to the paper's slip for P1 and to its variants are those that the paper gives: one equation computed over the list.
-- P1's bundle is read once, in Cases; what is computed here is over the credentials that it holds.
use Rattle.std.specs.Prelude.{ℕ, Result}
use mathlib.Core.Path.{◌≡◌, refl, sym}
use mathlib.Core.List.Memᴰ
use mathlib.Core.List.{List, map, zip_with}
use Rattle.rt0.specs.Credential.{◌·◌, ◌∈◌}
use Rattle.rt0.specs.Book.{book_of}
use Rattle.rt0.specs.Slip.{Line}
use Rattle.rt0.specs.Bytes.{lines_of, bytes_of}
use Rattle.rt0.specs.House.{Archive, Nina, signer, house, cases}
use Rattle.base.specs.declared.refusal.Refusal.{Refusal}
use Rattle.base.specs.Lowest.{lowest}
use Rattle.bundle.specs.declared.read.Sizes.{Sizes}
use Rattle.bundle.specs.Rows.{Accepts}
use Rattle.bundle.specs.Held.{held as held_in}
use Rattle.checker.specs.Premise.{premise_wrong, line_wrong}
use Rattle.checker.specs.Checking.{last_tests, line_tests, slip_tests, check_by}
use Rattle.checker.proofs.Refusals.{slip_answered}
use Rattle.house.specs.Bundles.{all_present}
use Rattle.house.specs.Cases.{bundles, cases_on_bytes}
use Rattle.house.specs.Slips.{SlipCase, slips, asked_of_p1, RightAnswer}
use Rattle.house.proofs.Computed.{same_at}
use Rattle.house.proofs.Cases.{cases_right}

abbrev six : Sizes
six = record { entities = 6; names = 6; records = 6 }

-- P1's bundle is accepted, and holds the house's credentials
first_read : Accepts all_present six × (held_in all_present ≡ house)
unfolding cases_on_bytes zip_with bundles cases house
first_read = let right = cases_right _ (Memᴰ.head refl) in (right.asked.accepts, right.held)

-- so what the checker answers is what it answers over these
answer : List Line → Result ℕ (Refusal ℕ)
answer lines = check_by (bytes_of lines) (slip_tests (book_of house) (Archive · signer) Nina (bytes_of lines))

all_as_stated : map (λ s. answer s.lines) slips ≡ map (λ s. s.answer) slips
unfolding answer slips house bytes_of lines_of check_by slip_tests line_tests last_tests line_wrong premise_wrong lowest
all_as_stated = refl

-- the slip and its three variants
pub slips_right : (s : SlipCase) → s ∈ slips → RightAnswer s
unfolding answer
slips_right s i =
    let (accepts, held) = first_read in
    slip_answered all_present asked_of_p1 (bytes_of s.lines) six accepts s.answer refl
    (rw held (sym (same_at (λ s. answer s.lines) (λ s. s.answer) slips all_as_stated s i)))
