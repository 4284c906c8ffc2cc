-- Steps of a slip's writing: no line, more lines and more after them; up to a fact; at most one line more; and so a line for each member
-- that a record gives.
use Prim.Native.Nat.{ℕ, ◌+◌, ◌*◌, ◌<◌}
use native.Mathlib.Decide.{ℕ_discrete}
use native.Mathlib.Omega.{arith}
use mathlib.Core.Path.{◌≡◌, refl, sym, ◌∙◌}
use mathlib.Core.Logic.{inl, inr, ⊎_elim, by_cases}
use mathlib.Core.List.{List}
use lib.ListN.{length, set}
use lib.Seq.{get_or-set_same, get_or-set_other}
use Rattle.rt0.specs.Book.{Book}
use Rattle.rt0.specs.Bytes.{lines_of}
use Rattle.rt0.specs.Word.{bit}
use Rattle.rt0.proofs.Bits.{bit_cases}
use Rattle.words.specs.Sizes.{table_words}
use Rattle.premises.specs.Fact.{HasLine, Backed}
use Rattle.ledger.specs.Ledger.{Ledger, Extended}
use Rattle.bundle.specs.Held.{book_in}
use Rattle.ledger.specs.Writing.{Writing, NoneOrLast, AtMostOneMore, Unsaid, Progress, AllStated}
use Rattle.tables.proofs.Comparing.{drop_later}

-- ---- none, and two

pub extended_same : {book : Book} {index slip : List ℕ} {n : ℕ} → Ledger book index (lines_of slip n)
    → Extended book index slip n index slip n
extended_same ledger = record { ledger = ledger; size = refl; more = omega arith; rest = refl; keeps = λ f h. h }

pub extended_twice : {book : Book} {index slip : List ℕ} {n : ℕ} {index' slip' : List ℕ} {n' : ℕ}
    {index'' slip'' : List ℕ} {n'' : ℕ} → Extended book index slip n index' slip' n' → Extended book index' slip' n' index'' slip'' n''
    → Extended book index slip n index'' slip'' n''
extended_twice {slip = slip} {slip' = slip'} {n' = n'} {n'' = n''} x y = record {
  ledger = y.ledger;
  size = y.size ∙ x.size;
  more = omega arith;
  rest = y.rest ∙ drop_later slip' slip (8 * n') (8 * n'') (omega arith) x.rest;
  keeps = λ f h. y.keeps f (x.keeps f h);
}

-- with other words, whose facts all have lines too
pub writing_words : {bytes : List ℕ} {E : ℕ} {ws index slip : List ℕ} {n : ℕ} {index' slip' : List ℕ} {n' : ℕ}
    → Writing bytes E ws index slip n → Extended (book_in bytes) index slip n index' slip' n'
    → (said : List ℕ) → length said ≡ table_words → Backed said index' → Writing bytes E said index' slip' n'
writing_words w x said size backed = record {
  accepts = w.accepts;
  words = size;
  room = omega (arith, w.room, x.size);
  ledger = x.ledger;
  backed = backed;
}

-- ---- up to a fact

-- with the fact's line, which is the last
pub progress_stop : {book : Book} {index slip : List ℕ} {n : ℕ} {index' slip' : List ℕ} {n' : ℕ} {P : Type 0} (f : ℕ)
    → Extended book index slip n index' slip' n' → NoneOrLast index' n' f → HasLine index' f → Progress book index slip n f index' slip' n' P
progress_stop f x last has = record { extended = x; last = last; otherwise = λ none. absurd (has none) }

-- without it
pub progress_end : {book : Book} {index slip : List ℕ} {n : ℕ} {index' slip' : List ℕ} {n' : ℕ} {P : Type 0} {f : ℕ}
    → Extended book index slip n index' slip' n' → Unsaid index' f → P → Progress book index slip n f index' slip' n' P
progress_end x unsaid p = record { extended = x; last = inl unsaid.none; otherwise = λ _. p }

-- ---- at most one more

-- one more line, which states fact f
pub record OneMore (bytes index slip : List ℕ) (n f : ℕ) (index' slip' : List ℕ) (n' : ℕ) : Type 0 where
  pub extended : Extended (book_in bytes) index slip n index' slip' n'
  pub lines : n' ≡ n + 1
  pub entry : index' ≡ set index f n'

-- none, where the fact has a line if it is given
pub none_more : {bytes : List ℕ} {E : ℕ} {ws index slip : List ℕ} {n : ℕ} (f given : ℕ) → Writing bytes E ws index slip n
    → (given ≡ 1 → HasLine index f) → AtMostOneMore bytes index slip n f given index slip n
none_more f given w h = record { extended = extended_same w.ledger; newest = λ g z. inl z; stated = h }

pub one_at_most : {bytes index slip : List ℕ} {n f : ℕ} (given : ℕ) {index' slip' : List ℕ} {n' : ℕ} → f < length index
    → OneMore bytes index slip n f index' slip' n' → AtMostOneMore bytes index slip n f given index' slip' n'
one_at_most {index = index} {f = f} given {n' = n'} l m = record {
  extended = m.extended;
  newest = λ g z. by_cases (ℕ_discrete g f)
      (λ e. inr (rw (e, m.entry) (get_or-set_same index f n' 0 l)))
      (λ d. inl (rw m.entry (get_or-set_other index f g n' 0 d ∙ z)));
  stated = λ one z. omega (arith, m.lines, sym (rw m.entry at z) ∙ get_or-set_same index f n' 0 l);
}

-- a bit that is not 0 is 1
pub bit_one : (w d : ℕ) → (bit w d ≡ 0 → ⊥) → bit w d ≡ 1
bit_one w d h = ⊎_elim (λ z. absurd (h z)) (λ o. o) (bit_cases w d)

-- ---- the members that a record gives, one after the other

pub stated_more : (first given i : ℕ) {bytes index slip : List ℕ} {n : ℕ} {index' slip' : List ℕ} {n' : ℕ}
    → AtMostOneMore bytes index slip n (first + i) (bit given i) index' slip' n' → AllStated index first given i
    → AllStated index' first given (i + 1)
stated_more first given i m h j l b = by_cases (ℕ_discrete j i)
    (λ e. rw e (m.stated (rw e at b)))
    (λ d. m.extended.keeps (first + j) (h j (omega arith) b))
