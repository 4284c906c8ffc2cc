-- From what the tables show to the word for a question, and what each answer rests on; and the whole answer from its parts.
use Prim.Native.Nat.{ℕ, ◌-◌}
use mathlib.Core.Path.{◌≡◌, refl, sym, ap, ◌∙◌}
use mathlib.Core.Bool.{Bool, true, false}
use mathlib.Core.Logic.{◌↔◌}
use mathlib.Core.List.{List}
use lib.Dec.{eqb}
use borrow.Author.Tests.{eqb-true, eqb-false}
use Rattle.rt0.specs.Credential.{IsEntity, IsName}
use Rattle.rt0.specs.Membership.{Assignment, Member}
use Rattle.rt0.specs.Completion.{Completable, YES, NO, UNSURE}
use Rattle.rt0.specs.Holding.{Holding}
use Rattle.rt0.specs.Word.{bit, Shows}
use Rattle.bundle.specs.declared.read.Sizes.{Sizes}
use Rattle.bundle.specs.declared.question.Question.{Question}
use Rattle.bundle.specs.Layout.{entities_of, names_of}
use Rattle.bundle.specs.Held.{held, book_in}
use Rattle.bundle.specs.Question.{role_asked, Asked}
use Rattle.answers.specs.Answer.{Outcome, answered}
use Rattle.words.specs.Sizes.{most_entities, width}
use Rattle.words.specs.Give.{word_of}
use Rattle.tables.specs.Promise.{tables, FilledWith}
use Rattle.words.proofs.Given.{word_valid}
use Rattle.tables.proofs.Held.{question_within}
use Rattle.search.specs.Promise.{lent, AnsweredWith}
use Rattle.search.specs.Concluded.{SureShows, Concluded, ConcludedBy}
use Rattle.search.specs.Written.{Written}

-- the person asked about has a bit in the tables
pub person_within : {bytes : List ℕ} {s : Sizes} {q : Question} → Asked bytes s q → IsEntity most_entities q.person
person_within {bytes} {q = q} a =
    let (_, _, person) = question_within bytes a.accepts q.entity q.name q.person a.person (a.entity, a.name) in person

-- the three conclusions, from what the tables' bits were found to be
module _ {bytes : List ℕ} {s : Sizes} {n : ℕ} {sure : List ℕ} {q : Question} (right : Asked bytes s q)
    (shown : SureShows (held bytes) n sure) where
  abbrev held_by : List ℕ → Bool
  held_by ws = eqb (bit (word_of ws q.entity q.name) (q.person - 1)) 1

  -- a right question is within the tables
  within_tables : IsEntity most_entities q.entity × IsName width q.name × IsEntity most_entities q.person
  within_tables = question_within bytes right.accepts q.entity q.name q.person right.person (right.entity, right.name)

  -- what the question's bit in a table tells of the assignment that the table shows
  shown_bit : (ws : List ℕ) (P : Assignment) → Shows most_entities width ws P
      → (bit (word_of ws q.entity q.name) (q.person - 1) ≡ 1) ↔ P (role_asked q) q.person
  shown_bit ws P shows =
      let (entity, name, person) = within_tables in
      rw (word_valid ws (role_asked q) (entity, name)) (shows q.entity q.name q.person entity name person)

  bit_set : (ws : List ℕ) {found : Bool} → found ≡ held_by ws → found ≡ true → bit (word_of ws q.entity q.name) (q.person - 1) ≡ 1
  bit_set ws e h = eqb-true (bit (word_of ws q.entity q.name) (q.person - 1)) 1 (sym e ∙ h)

  bit_clear : (ws : List ℕ) {found : Bool} → found ≡ held_by ws → found ≡ false
      → bit (word_of ws q.entity q.name) (q.person - 1) ≡ 1 → ⊥
  bit_clear ws e h = eqb-false (bit (word_of ws q.entity q.name) (q.person - 1)) 1 (sym e ∙ h)

  -- what the slip writer asks for
  pub slip_due : {found : Bool} → found ≡ held_by sure → found ≡ true → Member (held bytes) (role_asked q) q.person
  slip_due e h = (shown_bit sure (Member (held bytes)) shown.sure).0 (bit_set sure e h)

  pub conclude_yes : (possible before after : List ℕ) (lines : ℕ) {found : Bool} → found ≡ held_by sure → found ≡ true
      → Written (book_in bytes) (role_asked q) q.person before lines after
      → ConcludedBy bytes q n possible before after (answered YES n lines)
  conclude_yes possible before after lines e h w is_open shows = record { word = YES; answers = slip_due e h; outcome = refl; slip = w }

  pub conclude_unsure : (possible before : List ℕ) {found other : Bool} → found ≡ held_by sure → found ≡ false → other ≡ held_by possible
      → other ≡ true → ConcludedBy bytes q n possible before before (answered UNSURE n 0)
  conclude_unsure possible before e h f k is_open shows =
      record {
        word = UNSURE;
        answers = (
          λ member. bit_clear sure e h ((shown_bit sure (Member (held bytes)) shown.sure).1 member),
          λ never. never ((shown_bit possible (Completable (entities_of bytes) (names_of bytes) is_open (held bytes)) shows).0 (bit_set possible f k)),
        );
        outcome = refl;
        slip = (refl, refl);
      }

  pub conclude_no : (possible before : List ℕ) {other : Bool} → other ≡ held_by possible → other ≡ false
      → ConcludedBy bytes q n possible before before (answered NO n 0)
  conclude_no possible before f k is_open shows =
      record {
        word = NO;
        answers = λ completed. bit_clear possible f k ((shown_bit possible (Completable (entities_of bytes) (names_of bytes) is_open (held bytes)) shows).1 completed);
        outcome = refl;
        slip = (refl, refl);
      }

-- what the first of the filled tables shows
pub sure_shown : {h : Holding} {n : ℕ} {sure sure' possible possible' : List ℕ}
    → FilledWith h (tables sure possible) (tables sure' possible') n → SureShows h.held n sure'
sure_shown f = record { rounds = f.rounds; sure = f.sure.shows }

-- the whole answer from its parts
pub answered_with : {h : Holding} {n : ℕ} {sure sure' possible possible' slip slip' : List ℕ} {q : Question} {o : Outcome}
    → FilledWith h (tables sure possible) (tables sure' possible') n → Concluded h q n slip slip' o
    → AnsweredWith h q (lent sure possible slip) (lent sure' possible' slip') o
answered_with {n = n} {o = o} f c =
    let same : o.rounds ≡ n = ap (λ (x : Outcome). x.rounds) c.outcome in
    record {
      word = c.word;
      answers = c.answers;
      outcome = c.outcome ∙ ap (λ (k : ℕ). answered c.word k o.lines) (sym same);
      rounds = rw same f.rounds;
      few_rounds = rw same f.few_rounds;
      sure = f.sure;
      possible = f.possible;
      slip = c.slip;
    }
