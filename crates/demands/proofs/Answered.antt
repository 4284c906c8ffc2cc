-- Unless refused: YES exactly if RT0's least membership over the credentials held contains the person; NO exactly if they are no member
-- under any completion; UNSURE in every other case, and never where every shelf is present. With YES the checker accepts the slip, with that
-- number of lines.
use Rattle.std.specs.Prelude.{Ok, Some}
use Prim.Native.Nat.{ℕ, ◌*◌, ◌-◌, ◌≤◌, ◌<◌}
use native.Mathlib.Decide.{dec_lt}
use native.Mathlib.Omega.{arith}
use mathlib.Core.Path.{◌≡◌, refl, ap}
use mathlib.Core.Logic.{◌↔◌, inr, ⊎_elim}
use mathlib.Core.List.Memᴰ
use mathlib.Core.List.{List, [], ◌∷◌, ◌++◌}
use lib.ListN.{length, take}
use Rattle.rt0.specs.Credential.{◌·◌, IsEntity, IsName, ValidRole}
use Rattle.rt0.specs.Membership.{Member}
use Rattle.rt0.specs.Table.{Rounds}
use Rattle.rt0.specs.Completion.{No, Unsure, Verdict, YES, NO, UNSURE, Answers}
use Rattle.rt0.specs.Word.{bit, word_at}
use Rattle.rt0.specs.Sizes.{slip_bytes}
use Rattle.rt0.proofs.Least.{member_within}
use Rattle.rt0.proofs.Possible.{all_present_lem}
use Rattle.base.specs.Refusals.{Row, Clear}
use Rattle.base.proofs.Refusals.{clear_first, clear_later, judged_given}
use Rattle.bundle.specs.declared.question.Question.{Question}
use Rattle.bundle.specs.declared.access.Mark.TheVariants.{Present}
use Rattle.bundle.specs.Layout.{entities_of, names_of, sizes_in}
use Rattle.bundle.specs.Rows.{reader_rows}
use Rattle.bundle.specs.Access.{mark_of}
use Rattle.bundle.specs.Held.{held, book_in, open_of, shelves, shelf_of, holding_in}
use Rattle.bundle.specs.Question.{role_asked, question_row, Asked}
use Rattle.bundle.proofs.Accepted.{Contents, accepted_contents}
use Rattle.bundle.proofs.Questions.{clear_asked}
use Rattle.answers.specs.Answer.{Outcome, verdict_number}
use Rattle.checker.specs.Rows.{Checks}
use Rattle.checker.proofs.Accepts.{written_accepted}
use Rattle.words.specs.Sizes.{most_entities, width}
use Rattle.search.specs.Promise.{Lent, lent_row, search_rows, AnsweredWith, Promise}
use Rattle.search.specs.Written.{Written}
use Rattle.search.proofs.Judging.{search_places, search_numbers}
use Rattle.demands.proofs.Words.{word_is, word_exactly}

-- what is not shorter is long enough
not_shorter : (n m : ℕ) → (n < m → ⊥) → m ≤ n
not_shorter n m none = by (dec_lt n m)
  where
    by : Dec (n < m) → m ≤ n
    by (yes l) = absurd (none l)
    by (no l) = omega arith

module _ (bytes : List ℕ) (q : Question) (before after : Lent) (o : Outcome) (p : Promise bytes q before after o)
    (unrefused : o.number ≡ 0) where
  abbrev own : List Row
  own = question_row bytes q ∷ lent_row before ∷ []

  -- no row applies, and the answer that was given
  given : Clear (search_rows bytes q before) × AnsweredWith (holding_in bytes) q before after o
  given = judged_given (search_rows bytes q before) (search_places bytes q before) (search_numbers bytes q before) p unrefused

  answer : AnsweredWith (holding_in bytes) q before after o
  answer = given.1

  -- so the question is asked of an accepted bundle, and there is room for any slip
  asked : Asked bytes (sizes_in bytes) q
  asked = clear_asked bytes (sizes_in bytes) q (record { clear = clear_first (reader_rows bytes) own given.0; said = refl })
      (clear_later (reader_rows bytes) own given.0).0

  contents : Contents bytes (sizes_in bytes)
  contents = accepted_contents bytes (sizes_in bytes) asked.accepts

  room : slip_bytes ≤ length before.slip
  room = not_shorter _ _ (λ l. (clear_later (reader_rows bytes) own given.0).1.0 (0, (refl, inr (inr l))))

  -- the verdict is a word's number exactly if that word is the answer
  exactly : (word : Verdict) → (o.verdict ≡ verdict_number word)
      ↔ Answers (entities_of bytes) (names_of bytes) (open_of bytes) (held bytes) (role_asked q) q.person word
  exactly = word_exactly answer

  pub yes_exactly : (o.verdict ≡ 1) ↔ Member (held bytes) (role_asked q) q.person
  yes_exactly = exactly YES

  pub no_exactly : (o.verdict ≡ 2) ↔ No (entities_of bytes) (names_of bytes) (open_of bytes) (held bytes) (role_asked q) q.person
  no_exactly = exactly NO

  pub unsure_exactly : (o.verdict ≡ 3) ↔ Unsure (entities_of bytes) (names_of bytes) (open_of bytes) (held bytes) (role_asked q) q.person
  unsure_exactly = exactly UNSURE

  -- where every shelf of the bundle is marked present the verdict is never UNSURE
  pub never_unsure : ((A : ℕ) → IsEntity (entities_of bytes) A → mark_of bytes A ≡ Some Present) → o.verdict ≡ 3 → ⊥
  never_unsure present e =
      all_present_lem (entities_of bytes) (names_of bytes) (shelves bytes) (λ A i. ap shelf_of (present A i)) (held bytes) (role_asked q) q.person
      (unsure_exactly.0 e)

  pub rounds_exactly : Rounds (held bytes) o.rounds
  rounds_exactly = answer.rounds

  -- what the slip buffer holds with YES
  written : o.verdict ≡ 1 → Written (book_in bytes) (role_asked q) q.person before.slip o.lines after.slip
  written y = rw (word_is answer YES y) at answer.slip

  pub slip_accepted : o.verdict ≡ 1 → Checks bytes q (take (8 * o.lines) after.slip) (Ok o.lines)
  slip_accepted y =
      let w = written y in
      let inside : 8 * o.lines ≤ length after.slip = omega (arith, w.most_lines, w.size, room) in
      written_accepted bytes (sizes_in bytes) q asked after.slip o.lines w.some_line w.most_lines inside w.right

  -- words of entities or names beyond E or R hold nobody, and no word holds a number beyond E
  pub sure_within : (A r D : ℕ) → IsEntity most_entities A → IsName width r → IsEntity most_entities D
      → bit (word_at width after.sure (A · r)) (D - 1) ≡ 1 → ValidRole (entities_of bytes) (names_of bytes) (A · r) × IsEntity (entities_of bytes) D
  sure_within A r D a n d b = member_within _ _ _ contents.valid (A · r) D ((answer.sure.shows A r D a n d).0 b)

  pub possible_within : (A r D : ℕ) → IsEntity most_entities A → IsName width r → IsEntity most_entities D
      → bit (word_at width after.possible (A · r)) (D - 1) ≡ 1 → ValidRole (entities_of bytes) (names_of bytes) (A · r) × IsEntity (entities_of bytes) D
  possible_within A r D a n d b =
      let (ks, completion, m) = (answer.possible.shows A r D a n d).0 b in
      member_within _ _ (held bytes ++ ks)
      (λ k i. ⊎_elim (contents.valid k) (λ j. (completion k j).0) (Memᴰ.append_cases (held bytes) i)) (A · r) D m
