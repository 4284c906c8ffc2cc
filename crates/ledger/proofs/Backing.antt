-- A record's use: what it gives, put into the words, leaves each fact that they hold with a line, once each given fact has one.
use Prim.Native.Nat.{ℕ, ◌+◌, ◌*◌, ◌/◌, ◌%◌, ◌<◌}
use native.Mathlib.Decide.{ℕ_discrete}
use native.Mathlib.Omega.{arith}
use mathlib.Core.Path.{◌≡◌}
use mathlib.Core.Logic.{⊎_elim, by_cases}
use mathlib.Core.List.{List}
use lib.ListN.{length, get_or, set}
use lib.Seq.{get_or-set_same, get_or-set_other, set-get_or}
use lib.Bits.{bit_or}
use Rattle.rt0.specs.Book.{Book}
use Rattle.rt0.proofs.Bits.{bit_or_lem}
use Rattle.words.specs.Sizes.{most_entities}
use Rattle.premises.specs.Fact.{HasLine, Backed}
use Rattle.ledger.specs.Ledger.{Extended}
use Rattle.ledger.specs.Writing.{AllStated}

module _ (said : List ℕ) (at given : ℕ) where
  -- the words with a word of given members more
  abbrev more : List ℕ
  more = set said at (bit_or (get_or said at 0) given)

  pub backed_more : {book : Book} {index slip : List ℕ} {n : ℕ} {index' slip' : List ℕ} {n' : ℕ}
      → Extended book index slip n index' slip' n' → at < length said
      → Backed said index → AllStated index' (most_entities * at) given most_entities → Backed more index'
  backed_more {index' = index'} x l backed stated f b h = by_cases (ℕ_discrete (f / most_entities) at) here
      (λ d. x.keeps f (backed f b (rw (get_or-set_other said at (f / most_entities) (bit_or (get_or said at 0) given) 0 d) at h)))
    where
      here : f / most_entities ≡ at → HasLine index' f
      here e =
          let whole : most_entities * at + f % most_entities ≡ f = omega arith in
          let word = rw (e, get_or-set_same said at (bit_or (get_or said at 0) given) 0 l) at h in
          ⊎_elim (λ o. x.keeps f (backed f b (rw e o))) (λ o. rw whole at (stated (f % most_entities) (omega arith) o))
          ((bit_or_lem (get_or said at 0) given (f % most_entities)).0 word)

  -- where nothing is new the words stay
  pub none_new : bit_or (get_or said at 0) given ≡ get_or said at 0 → more ≡ said
  none_new e = rw e (set-get_or said at 0)
