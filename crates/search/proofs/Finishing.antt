-- The start and the end of a slip's writing: nothing is written and nobody is said; and once the fact in question has the last line
-- the lines are the slip that is asked for.
use Prim.Native.Nat.{ℕ, ◌+◌, ◌-◌, ◌%◌, ◌≤◌}
use native.Mathlib.Numerals.{add-one}
use native.Mathlib.Omega.{arith}
use mathlib.Core.Path.{◌≡◌, refl, subst}
use mathlib.Core.Logic.{⊎_elim}
use mathlib.Core.List.{List}
use lib.ListN.{length}
use Rattle.rt0.specs.Credential.{Credential, ValidRole, IsEntity}
use Rattle.rt0.specs.Book.{Book}
use Rattle.rt0.specs.Holding.{SoundHolding}
use Rattle.rt0.specs.Slip.{◌∋◌, Says, SlipFor, NoFactTwice}
use Rattle.rt0.specs.Bytes.{lines_of}
use Rattle.rt0.specs.Word.{bit, word_at, round_words, times_words, none_words}
use Rattle.rt0.specs.Membership.{Member}
use Rattle.rt0.specs.Table.{Rounds}
use Rattle.rt0.specs.Sizes.{slip_lines, slip_bytes}
use Rattle.rt0.proofs.Bits.{bit_zero}
use Rattle.rt0.proofs.Tables.{rounds_member}
use Rattle.rt0.proofs.Shown.{times_shows}
use Rattle.rt0.proofs.Words.{none_length, none_at}
use Rattle.rt0.proofs.Bounds.{slip_most}
use Rattle.rt0.proofs.SlipBytes.{length_lines_of}
use Rattle.bundle.specs.declared.read.Sizes.{Sizes}
use Rattle.bundle.specs.declared.question.Question.{Question}
use Rattle.bundle.specs.Layout.{names_of, records_of}
use Rattle.bundle.specs.Rows.{Accepts}
use Rattle.bundle.specs.Held.{held, book_in, holding_in}
use Rattle.bundle.specs.Question.{role_asked, Asked}
use Rattle.bundle.proofs.Accepted.{Contents, accepted_contents, holding_sound}
use Rattle.words.specs.Sizes.{most_entities, width, table_words, fact_count}
use Rattle.premises.specs.Fact.{fact_number, HasLine, HasFact, Backed}
use Rattle.ledger.specs.Ledger.{Extended}
use Rattle.words.specs.Step.{Steps}
use Rattle.tables.proofs.Rounds.{all_stepped, steps_there}
use Rattle.ledger.specs.Writing.{sizes_with, Writing, HasSteps, NoneOrLast, Unsaid, Finished}
use Rattle.search.specs.Written.{Written}
use Rattle.premises.proofs.Facts.{number_within, number_fact, number_holds}
use Rattle.ledger.proofs.Ledgers.{ledger_nil, ledger_once}
use Rattle.tables.proofs.Held.{held_entities, held_names, held_valid, question_within}

-- ---- the start

none_backed : (index : List ℕ) → Backed (none_words table_words) index
none_backed index f l h = absurd (omega (arith, bit_zero (f % most_entities), rw none_at at h))

writing_none : (bytes : List ℕ) (E : ℕ) (slip : List ℕ) → Accepts bytes (sizes_with bytes E) → slip_bytes ≤ length slip
    → Writing bytes E (none_words table_words) (none_words fact_count) slip 0
unfolding lines_of
writing_none bytes E slip accepts room = record {
  accepts = accepts;
  words = none_length table_words;
  room = room;
  ledger = ledger_nil (book_in bytes) (none_words fact_count) (none_length fact_count) (none_at fact_count);
  backed = none_backed (none_words fact_count);
}

-- ---- round after round

pub times_none : (E : ℕ) (cs : List Credential) (start : List ℕ) → start ≡ times_words E width cs 0 start
unfolding times_words
times_none E cs start = refl

pub times_more : (E : ℕ) (cs : List Credential) (start said said' : List ℕ) (n : ℕ) → said ≡ times_words E width cs n start
    → said' ≡ round_words E width cs said → said' ≡ times_words E width cs (n + 1) start
unfolding times_words
times_more E cs start said said' n e r = rw (add-one, r, e)

-- ---- the end

-- a fact that has none or the last line, and has one, has the last
pub last_line : {book : Book} {index slip : List ℕ} {n : ℕ} {index' slip' : List ℕ} {n' : ℕ} (f : ℕ)
    → Extended book index slip n index' slip' n' → NoneOrLast index' n' f → HasLine index' f → Finished book slip f index' slip' n'
last_line f x last has = record {
  ledger = x.ledger;
  rest = x.rest;
  size = x.size;
  has = has;
  last = ⊎_elim (λ none. absurd (has none)) (λ e. e) last;
}

module _ (bytes : List ℕ) (s : Sizes) (q : Question) (asked : Asked bytes s q) where
  accepts : Accepts bytes s
  accepts = asked.accepts

  contents : Contents bytes s
  contents = accepted_contents bytes s accepts

  -- with the sizes that the bundle says
  said_so : Accepts bytes (sizes_with bytes s.entities)
  said_so =
      let R : s.names ≡ names_of bytes = contents.names in
      let N : s.records ≡ records_of bytes = contents.records in
      subst (Accepts bytes) (λ i. record { entities = s.entities; names = R i; records = N i }) accepts

  -- the question is within the tables
  within : ValidRole most_entities width (role_asked q) × IsEntity most_entities q.person
  within =
      let (entity, name, member) = question_within bytes accepts q.entity q.name q.person asked.person (asked.entity, asked.name) in
      ((entity, name), member)

  -- who is a member is in its role's word after that many rounds
  reached : (rounds : ℕ) → Rounds (held bytes) rounds → Member (held bytes) (role_asked q) q.person
      → bit (word_at width (times_words s.entities width (held bytes) rounds (none_words table_words)) (role_asked q)) (q.person - 1) ≡ 1
  reached rounds least m =
      (times_shows s.entities s.names most_entities width (held_entities bytes accepts) (held_names bytes accepts) (held bytes) contents.valid
      rounds q.entity q.name q.person within.0.0 within.0.1 within.1).1
      ((rounds_member (held bytes) rounds least (role_asked q) q.person).0 m)

  -- all that the rounds ask, from nobody and an index of zeros
  pub ready : (slip : List ℕ) (goal rounds : ℕ) → goal ≡ fact_number (role_asked q) q.person → slip_bytes ≤ length slip
      → Rounds (held bytes) rounds → Member (held bytes) (role_asked q) q.person
      → {before steps : List ℕ} → Steps bytes before steps → length before ≡ 240
      → Writing bytes s.entities (none_words table_words) (none_words fact_count) slip 0 × (s.records ≡ records_of bytes)
      × HasSteps bytes steps
      × Unsaid (none_words fact_count) goal × HasFact (times_words s.entities width (held bytes) rounds (none_words table_words)) goal
  ready slip goal rounds g room least m w lent = (
    writing_none bytes s.entities slip said_so room,
    contents.records,
    record { enough = rw contents.records at (steps_there bytes accepts w lent); stepped = rw contents.records at (all_stepped bytes accepts w lent) },
    record { inside = rw g (number_within (role_asked q) q.person within.0 within.1); none = none_at fact_count goal },
    rw g (number_holds (times_words s.entities width (held bytes) rounds (none_words table_words)) (role_asked q) q.person within.0 within.1
        (reached rounds least m)),
  )

  pub written : (slip index' slip' : List ℕ) (goal n : ℕ) → goal ≡ fact_number (role_asked q) q.person
      → Finished (book_in bytes) slip goal index' slip' n → Written (book_in bytes) (role_asked q) q.person slip n slip'
  written slip index' slip' goal n g f =
      record { some_line = most.0; most_lines = most.1; right = right; once = once; rest = f.rest; size = f.size }
    where
      sound : SoundHolding (holding_in bytes)
      sound = holding_sound bytes s accepts

      once : NoFactTwice (book_in bytes) (lines_of slip' n)
      once =
          ledger_once s.entities width (held_entities bytes accepts) (omega arith) (held bytes) (held_valid bytes accepts) (book_in bytes)
          sound.numbered.only index' (lines_of slip' n) f.ledger

      last : Says (book_in bytes) (lines_of slip' n) n (role_asked q ∋ q.person)
      last =
          let number = number_within (role_asked q) q.person within.0 within.1 in
          rw (g, number_fact (role_asked q) q.person within.0 within.1) at (rw f.last at (f.ledger.there goal (rw g number) f.has))

      right : SlipFor (book_in bytes) (role_asked q) q.person (lines_of slip' n)
      right = record { right = f.ledger.right; last = rw length_lines_of last }

      most : (1 ≤ n) × (n ≤ slip_lines)
      most =
          let slip_length = slip_most s.entities width (held_entities bytes accepts) (held bytes) (held_valid bytes accepts) (book_in bytes)
          sound.numbered sound.few _ (role_asked q) q.person right once in
          rw length_lines_of at slip_length
