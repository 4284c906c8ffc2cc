-- What an answer by a program's table comes to is what may be printed: the bytes that it left, or the line of the refusal that is due.
use Rattle.std.specs.Prelude.{Result, Ok, Err}
use Prim.Native.Nat.{ℕ, min}
use native.Mathlib.Omega.{arith}
use mathlib.Core.Path.{◌≡◌, refl, ap}
use mathlib.Core.List.{List, [], append-nil}
use lib.ListN.{take}
use Rattle.base.specs.declared.refusal.Refusal.{Refusal}
use Rattle.base.specs.Refusals.{Row, AllNumbered, refused, passed}
use Rattle.base.proofs.Refusals.{due_number}
use Rattle.letters.proofs.Kept.{no_both}
use Rattle.answers.specs.Line.{refusal_line}
use Rattle.said.specs.Line.{LineBy, refuses, gives}
use Rattle.listed.specs.declared.Listing.{Listing}
use Rattle.listed.specs.Listing.{ListsAllowed, Tells}
use Rattle.desk.specs.Answer.{most_place, listed_as, Gives}

module _ (rows : List Row) (Given : List ℕ → Type 0) (numbered : AllNumbered rows) (after : List ℕ) (l : Listing) where
  pub prints_answer : (r : Result ℕ (Refusal ℕ)) → Gives rows Given after r → Tells (listed_as r) l → ListsAllowed after l (LineBy rows Given)
  prints_answer (Ok n) (refused d _) t = absurd (omega (arith, due_number rows numbered 0 0 d))
  prints_answer (Ok n) (passed _ _ clear front) (size, line, problem) =
      let same : l.length ≡ front.size = cc (size, front.answer) in
      record {
        inside = rw same front.inside;
        line = [];
        holds = line;
        allowed = rw (same, append-nil (take front.size after)) (gives clear front.given);
      }
  prints_answer (Err why) (refused d low) (size, line, problem) =
      let said : min most_place why.place ≡ why.place = omega arith in
      record {
        inside = omega arith;
        line = refusal_line why.number (min most_place why.place);
        holds = line;
        allowed = rw size (refuses why.number why.place d (ap (refusal_line why.number) said));
      }
  prints_answer (Err why) (passed _ _ _ front) t = no_both (Err why) front.size why.number why.place front.answer refl

-- bytes that may be printed for one input, where whatever may be printed for it may be printed for another
pub lists_others : {One Other : List ℕ → Type 0} (text : List ℕ) (l : Listing) → ((shown : List ℕ) → One shown → Other shown) → ListsAllowed text l One
    → ListsAllowed text l Other
lists_others text l more a = record { inside = a.inside; line = a.line; holds = a.holds; allowed = more _ a.allowed }
