-- Every case of the paper is right on its bytes: one equation computed over the list of cases, and the law that a case which states what
-- is computed is right. Word and rounds are those that RT0 proves of its own list.
use Prim.Native.Nat.{ℕ, ◌/◌}
use mathlib.Core.Path.{◌≡◌, refl, sym, ap, ◌∙◌, subst}
use mathlib.Core.Bool.{Bool, true, false, not, ◌||◌}
use mathlib.Core.Option.{Option, none, some}
use mathlib.Core.List.Memᴰ
use mathlib.Core.List.{List, [], ◌∷◌, map, zip_with}
use lib.ListN.{length}
use Rattle.rt0.specs.Credential.{Role, ◌·◌, entity_of, name_of, IsEntity, IsName, Credential, ◌∈◌}
use Rattle.rt0.specs.Completion.{Shelf, is_absent, some_absent}
use Rattle.rt0.specs.Table.{Rounds}
use Rattle.rt0.specs.House.{RightCase, cases, house, house_without5, present_but, among, opens}
use Rattle.rt0.proofs.Lists.{up_to, up_to_holds}
use Rattle.rt0.proofs.Tables.{rounds_unique}
use Rattle.rt0.proofs.Possible.{SameWithin, answers_within, answer_unique}
use Rattle.rt0.proofs.House as RT0
use Rattle.base.specs.Lowest.{lowest}
use Rattle.base.specs.Refusals.{Row, Clear, Judged, refused, passed as answer_given}
use Rattle.base.proofs.Refusals.{due_clear, clear_first, clear_later, clear_both}
use Rattle.records.specs.Kinds.{wrong_by}
use Rattle.records.specs.Bytes.{credential_in}
use Rattle.bundle.specs.declared.read.Sizes.{Sizes}
use Rattle.bundle.specs.declared.question.Question.{Question}
use Rattle.bundle.specs.Edition.{edition_for}
use Rattle.bundle.specs.Layout.{entities_of, names_of}
use Rattle.bundle.specs.Rows.{reader_rows, Accepts}
use Rattle.bundle.specs.Held.{shelves, credentials, held as held_in, holding_with}
use Rattle.bundle.specs.Question.{role_asked, question_wrong, question_row}
use Rattle.bundle.proofs.Questions.{asked_right}
use Rattle.sheet.specs.Sheet.{sheet_row}
use Rattle.sheet.specs.Wrong.{sheet_wrong, layout_wrong}
use Rattle.sheet.proofs.Told.{sheet_told}
use Rattle.block.specs.Block.{weighed, check_of, check_wrong}
use Rattle.answers.specs.Answer.{Outcome, answered}
use Rattle.search.specs.Promise.{Lent, lent_row, search_rows, RefusedWith, AnsweredWith}
use Rattle.search.specs.Enough.{Enough}
use Rattle.search.proofs.Judging.{enough_right, none_applies}
use Rattle.with_sheet.specs.Open.{loose}
use Rattle.with_sheet.specs.Promise.{rows_with}
use Rattle.house.specs.Bundles.{filled, record_bytes, first_block, record_block, house_records, whole, removed, sheet_block}
use Rattle.house.specs.Cases.{CaseOnBytes, bundles, cases_on_bytes, sizes, question_of, open_on, PromiseOn, RightOn, Word, RightOnBytes}
use Rattle.house.proofs.Computed.{same_at}
use Rattle.house.proofs.Passes.{weigh_from, check_pass, checks_pass, any_from, Pass, pass, passed, pass_accepts, pass_checks}

-- whether a name has code 1 or 2 by the sheet, if there is one, and whether the sheet is right
abbrev loose_on : Option (List ℕ) → ℕ → Bool
loose_on none r = false
loose_on (some sheet) r = loose sheet r

abbrev right_on : Option (List ℕ) → ℕ → Bool
right_on none R = true
right_on (some sheet) R = not (sheet_wrong R sheet)

-- all that is computed of a case
record Result : Type 0 where
  passes : Pass
  checks : List ℕ
  held : List Credential
  marks : List Shelf
  some_absent_lem : Bool
  names : List Bool
  sheet : Bool
  out_of_range : Bool

computed : CaseOnBytes → Result
computed k =
    record {
      passes = pass k.bundle;
      checks = checks_pass k.bundle (length k.bundle / 512);
      held = held_in k.bundle;
      marks = map (shelves k.bundle) (up_to k.case.entities);
      some_absent_lem = some_absent (shelves k.bundle) k.case.entities;
      names = map (loose_on k.sheet) (up_to k.case.names);
      sheet = right_on k.sheet k.case.names;
      out_of_range = question_wrong k.case.entities k.case.names (question_of k);
    }

stated : CaseOnBytes → Result
stated k =
    record {
      passes = passed (sizes k);
      checks = k.checks;
      held = k.case.held;
      marks = map (present_but k.case.absent) (up_to k.case.entities);
      some_absent_lem = some_absent (present_but k.case.absent) k.case.entities;
      names = map (among k.case.loose) (up_to k.case.names);
      sheet = true;
      out_of_range = false;
    }

-- a role is the role of its entity with its name
role_parts : (ρ : Role) → entity_of ρ · name_of ρ ≡ ρ
role_parts (A · r) = refl

-- no name is loose without a sheet
or_none : (x : Bool) → (x || false) ≡ x
or_none true = refl
or_none false = refl

-- the table of refusals, with the sheet's row if there is one: none applies where none does without, and the sheet is right
abbrev rows_on : Option (List ℕ) → List ℕ → Question → Lent → List Row
rows_on none bytes q m = search_rows bytes q m
rows_on (some sheet) bytes q m = rows_with bytes sheet (question_row bytes q ∷ lent_row m ∷ [])

rows_clear : (sheet : Option (List ℕ)) (bytes : List ℕ) (q : Question) (m : Lent) → RightOn sheet (names_of bytes) → Clear (search_rows bytes q m)
    → Clear (rows_on sheet bytes q m)
rows_clear none bytes q m right c = c
rows_clear (some sheet) bytes q m right c =
    let later = question_row bytes q ∷ lent_row m ∷ [] in
    clear_both (reader_rows bytes) (sheet_row (names_of bytes) sheet ∷ later) (clear_first (reader_rows bytes) later c)
    (λ (_, (_, wrong)). wrong right, clear_later (reader_rows bytes) later c)

-- what is promised is an answer by this table
promise_by : (sheet : Option (List ℕ)) (bytes : List ℕ) (q : Question) (before after : Lent) (o : Outcome) → PromiseOn sheet bytes q before after o
    → Judged (rows_on sheet bytes q before) o.number o.place (RefusedWith before after o)
    (AnsweredWith (holding_with (open_on sheet bytes) bytes) q before after o)
promise_by none bytes q before after o p = p
promise_by (some sheet) bytes q before after o p = p

right_from : (sheet : Option (List ℕ)) (R : ℕ) → right_on sheet R ≡ true → RightOn sheet R
right_from none R e = tt
right_from (some sheet) R e = (sheet_told R sheet).0 e

module _ (k : CaseOnBytes) (right : RightCase k.case) (accepts : Accepts k.bundle (sizes k)) (held : held_in k.bundle ≡ k.case.held)
    (marks : (A : ℕ) → IsEntity k.case.entities A → shelves k.bundle A ≡ present_but k.case.absent A)
    (some_absent_lem : some_absent (shelves k.bundle) k.case.entities ≡ some_absent (present_but k.case.absent) k.case.entities)
    (loose_names : (r : ℕ) → IsName k.case.names r → loose_on k.sheet r ≡ among k.case.loose r) where
  entities : entities_of k.bundle ≡ k.case.entities
  entities = sym (ap (λ (x : Sizes). x.entities) accepts.said)

  names : names_of k.bundle ≡ k.case.names
  names = sym (ap (λ (x : Sizes). x.names) accepts.said)

  same_open : SameWithin k.case.entities k.case.names (opens k.case) (open_on k.sheet k.bundle)
  same_open (A · r) v = by k.sheet (loose_names r v.1)
    where
      by : (sheet : Option (List ℕ)) → loose_on sheet r ≡ among k.case.loose r → opens k.case (A · r) ≡ open_on sheet k.bundle (A · r)
      by none e = rw (marks A v.0, ← e) (or_none (is_absent (present_but k.case.absent A)))
      by (some sheet) e = rw (marks A v.0, ← e, entities, some_absent_lem)

  -- the word and the rounds of RT0's case are those of the bytes
  word_right : Word k k.case.verdict
  word_right =
      let its_role : role_asked (question_of k) ≡ k.case.into = role_parts k.case.into in
      rw (entities, names, held, its_role)
      (answers_within k.case.entities k.case.names _ (open_on k.sheet k.bundle) same_open _ _ _ k.case.verdict right.0)

  rounds_right : Rounds (held_in k.bundle) k.case.rounds
  rounds_right = rw held right.1

  -- where no row of a table of refusals applies, its promise leaves nothing but the answer that is right
  settled : (rows : List Row) → Clear rows → (before after : Lent) (o : Outcome)
      → Judged rows o.number o.place (RefusedWith before after o)
      (AnsweredWith (holding_with (open_on k.sheet k.bundle) k.bundle) (question_of k) before after o)
      → o ≡ answered k.case.verdict k.case.rounds o.lines
  settled rows clear before after o (refused d _) = absurd (due_clear rows o.number o.place clear d)
  settled rows clear before after o (answer_given _ _ _ given) =
      let bytes = k.bundle in
      let same_word : given.word ≡ k.case.verdict =
      answer_unique (entities_of bytes) (names_of bytes) (open_on k.sheet bytes) (held_in bytes) _ _ _ _ given.answers word_right in
      let same_rounds : o.rounds ≡ k.case.rounds = rounds_unique (held_in bytes) _ _ given.rounds rounds_right in
      cc given.outcome

  -- with enough memory that is so of the search
  promised : question_wrong k.case.entities k.case.names (question_of k) ≡ false → RightOn k.sheet k.case.names
      → (before after : Lent) (o : Outcome) → Enough before → PromiseOn k.sheet k.bundle (question_of k) before after o
      → o ≡ answered k.case.verdict k.case.rounds o.lines
  promised in_range sheet before after o enough p =
      let bytes = k.bundle in
      let q = question_of k in
      let clear = none_applies bytes q before (sizes k) accepts (rw (entities, names) in_range) (enough_right before enough) in
      settled (rows_on k.sheet bytes q before) (rows_clear k.sheet bytes q before (subst (RightOn k.sheet) (sym names) sheet) clear) before after o
      (promise_by k.sheet bytes q before after o p)

-- a case that states what is computed is right
case_right : (k : CaseOnBytes) → RightCase k.case → computed k ≡ stated k → RightOnBytes k
unfolding computed stated
case_right k right e =
    let E = k.case.entities in
    let R = k.case.names in
    let all_passed = ap (λ (x : Result). x.passes) e in
    let accepts = pass_accepts k.bundle (sizes k) all_passed in
    let held = ap (λ (x : Result). x.held) e in
    let in_range = ap (λ (x : Result). x.out_of_range) e in
    let same_marks = ap (λ (x : Result). x.marks) e in
    let marks : (A : ℕ) → IsEntity E A → shelves k.bundle A ≡ present_but k.case.absent A =
    λ A i. same_at (shelves k.bundle) (present_but k.case.absent) (up_to E) same_marks A (up_to_holds E A i.above i.within) in
    let some_absent_lem = ap (λ (x : Result). x.some_absent_lem) e in
    let same_names = ap (λ (x : Result). x.names) e in
    let loose_names : (r : ℕ) → IsName R r → loose_on k.sheet r ≡ among k.case.loose r =
    λ r i. same_at (loose_on k.sheet) (among k.case.loose) (up_to R) same_names r (up_to_holds R r i.above i.within) in
    let sheet = right_from k.sheet R (ap (λ (x : Result). x.sheet) e) in
    record {
      asked = asked_right k.bundle (sizes k) (question_of k) accepts in_range;
      checks = pass_checks k.bundle (sizes k) all_passed ∙ ap (λ (x : Result). x.checks) e;
      sheet = sheet;
      held = held;
      marks = marks;
      word = word_right k right accepts held marks some_absent_lem loose_names;
      rounds = rounds_right k right accepts held marks some_absent_lem loose_names;
      promised = promised k right accepts held marks some_absent_lem loose_names in_range sheet;
    }

-- every case states what is computed
all_as_stated : map computed cases_on_bytes ≡ map stated cases_on_bytes
unfolding computed stated cases_on_bytes zip_with bundles cases house house_without5 present_but up_to
    filled record_bytes first_block record_block house_records whole removed sheet_block
    among some_absent layout_wrong check_wrong check_of weighed
    edition_for pass check_pass checks_pass weigh_from any_from lowest wrong_by credentials credential_in
all_as_stated = refl

-- every case of RT0's list is there, in its order
pub all_there : map (λ k. k.case) cases_on_bytes ≡ cases
unfolding cases_on_bytes zip_with bundles cases
all_there = refl

-- P1 to P12, and Tomas without a sheet and with one
pub cases_right : (k : CaseOnBytes) → k ∈ cases_on_bytes → RightOnBytes k
cases_right k i =
    case_right k (RT0.cases_right k.case (rw all_there at (Memᴰ.map (λ k. k.case) i)))
    (same_at computed stated cases_on_bytes all_as_stated k i)
