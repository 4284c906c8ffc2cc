-- The book of a list. It numbers the list's credentials, with the list's length as the highest number; the book of a longer list keeps
-- what that of the shorter names, and so a slip stays right when credentials are appended after the last.
use Prim.Native.Nat.{ℕ, zero, suc, ◌≤◌, ◌<◌}
use native.Mathlib.Omega.{arith}
use mathlib.Core.Path.{◌≡◌}
use mathlib.Core.Option.{some, none-ne-some}
use mathlib.Core.List.{List, ◌++◌}
use lib.ListN.{length}
use Rattle.rt0.specs.Credential.{Role, Credential}
use Rattle.rt0.specs.Book.{book_of, NamesOnly, Numbers, Keeps}
use Rattle.rt0.specs.Slip.{Line, SlipFor}
use Rattle.rt0.proofs.Items.{item_within, item_occurs, occurs_item, item_append}
use Rattle.rt0.proofs.Slips.{slip_lasts}

pub book_numbers : (cs : List Credential) → Numbers (book_of cs) cs (length cs)
book_numbers cs = record { within = within; only = only; every = λ k i. let (n, e) = occurs_item i in (suc n, e) }
  where
    within : (n : ℕ) (k : Credential) → book_of cs n ≡ some k → (1 ≤ n) × (n ≤ length cs)
    within zero k e = absurd (none-ne-some k e)
    within (suc n) k e = let inside : n < length cs = item_within cs n k e in omega arith

    only : NamesOnly (book_of cs) cs
    only zero k e = absurd (none-ne-some k e)
    only (suc n) k e = item_occurs cs n k e

pub book_keeps : (cs ks : List Credential) → Keeps (book_of cs) (book_of (cs ++ ks))
book_keeps cs ks zero k e = e
book_keeps cs ks (suc n) k e = let inside : n < length cs = item_within cs n k e in rw item_append e

pub slip_appended : (cs ks : List Credential) (lines : List Line) (ρ : Role) (D : ℕ)
    → SlipFor (book_of cs) ρ D lines → SlipFor (book_of (cs ++ ks)) ρ D lines
slip_appended cs ks = slip_lasts (book_of cs) (book_of (cs ++ ks)) (book_keeps cs ks)
