-- One more line of a slip, for a record that gives a member from words whose facts all have lines: the line is right, there is room
-- for it, and with its entry in the index the lines are a right slip again.
use Rattle.std.specs.Prelude.{Option}
use Prim.Native.Nat.{ℕ, suc, ◌+◌, ◌-◌, ◌*◌, ◌<◌, ◌≤◌}
use native.Mathlib.Nat.{le_refl}
use native.Mathlib.Omega.{arith}
use native.Mathlib.Decide.{ℕ_discrete}
use mathlib.Core.Path.{◌≡◌, refl, sym, ap, ◌∙◌}
use mathlib.Core.Logic.{by_cases}
use mathlib.Core.Option.{some}
use mathlib.Core.List.{List, [], ◌∷◌, ◌++◌}
use lib.ListN.{length, get_or, set, length-append}
use lib.Bits.{bit_or}
use lib.Seq.{get_or-set_same, get_or-set_other}
use Rattle.rt0.specs.Credential.{Credential, head, AllValid, Valid, ValidRole, IsEntity}
use Rattle.rt0.specs.Book.{Book, Numbers}
use Rattle.rt0.specs.Slip.{Line, line, ◌∋◌, stated, RightLine, SlipFor}
use Rattle.rt0.specs.Bytes.{lines_of}
use Rattle.rt0.specs.Word.{bit, give_word}
use Rattle.rt0.specs.Sizes.{slip_lines}
use Rattle.rt0.proofs.Items.{item_last}
use Rattle.rt0.proofs.Least.{valid_head}
use Rattle.rt0.proofs.SlipBytes.{length_lines_of}
use Rattle.rt0.proofs.Bounds.{slip_most}
use Rattle.records.specs.declared.form.Record.{Record}
use Rattle.bundle.specs.Layout.{records_of}
use Rattle.bundle.specs.Access.{record_of}
use Rattle.bundle.specs.Held.{held, book_in}
use Rattle.bundle.proofs.Accepted.{holding_sound}
use Rattle.words.specs.Sizes.{most_entities, width, table_words, fact_count}
use Rattle.words.specs.Give.{give_of, head_place, use_record}
use Rattle.words.specs.Step.{head_in, step_of, step_gives}
use Rattle.words.proofs.Stepped.{step_place, step_gives_lem}
use Rattle.words.proofs.Wider.{role_wider, valid_wider}
use Rattle.words.proofs.Given.{place_valid, head_valid as place_of_head, give_valid}
use Rattle.tables.proofs.Held.{HeldRecord, held_entities, held_valid, held_record, held_place}
use Rattle.ledger.specs.declared.Given.{Given}
use Rattle.premises.specs.declared.premise.Premises.{Premises}
use Rattle.premises.specs.Fact.{fact_number, HasLine, Backed}
use Rattle.premises.specs.Line.{line_by, with_line, WroteLine}
use Rattle.premises.specs.Premise.{PremisesFor, premises_by}
use Rattle.premises.proofs.LineBytes.{wrote_line}
use Rattle.premises.proofs.Premises.{premises_found}
use Rattle.ledger.specs.Ledger.{Ledger, Extended}
use Rattle.ledger.specs.Writing.{Writing, IsRecord, HasSteps, IsGiven, AtMostOneMore}
use Rattle.premises.proofs.Facts.{number_member, number_within, number_fact}
use Rattle.ledger.proofs.Ledgers.{ledger_snoc, ledger_once}
use Rattle.ledger.proofs.Following.{premises_follow}
use Rattle.ledger.proofs.Steps.{OneMore, one_at_most, bit_one}

-- an entry that is set stays one, and the others stay
entry_kept : (index : List ℕ) (f v g : ℕ) → f < length index → (v ≡ 0 → ⊥) → HasLine index g → HasLine (set index f v) g
entry_kept index f v g l nonzero h =
    by_cases (ℕ_discrete g f)
    (λ e z. nonzero (sym (get_or-set_same index f v 0 l) ∙ rw e at z))
    (λ d z. h (sym (get_or-set_other index f g v 0 d) ∙ z))

-- credential k, which is K, gives D to its head from the words, the index has its premises p, q and s, and the fact is new;
-- over valid credentials, at most 240
record NextLine (cs : List Credential) (book : Book) (E : ℕ) (ws index slip : List ℕ) (n k : ℕ) (K : Credential) (D p q s : ℕ) : Type 0 where
  entities : E ≤ most_entities
  all_valid : AllValid E width cs
  most : ℕ
  names : Numbers book cs most
  few : most ≤ 240
  ledger : Ledger book index (lines_of slip n)
  backed : Backed ws index
  numbered : book k ≡ some K
  member : IsEntity most_entities D
  given : bit (give_word E width ws K) (D - 1) ≡ 1
  new : get_or index (fact_number (head K) D) 0 ≡ 0
  premises : PremisesFor E ws index K D p q s

module _ {cs : List Credential} {book : Book} {E : ℕ} {ws index slip : List ℕ} {n k : ℕ} {K : Credential} {D p q s : ℕ}
    (x : NextLine cs book E ws index slip n k K D p q s) where
  abbrev lines : List Line
  lines = lines_of slip n

  abbrev next : Line
  next = line D k p q s

  abbrev number : ℕ
  number = fact_number (head K) D

  valid : Valid E width K
  valid = x.all_valid K (x.names.only k K x.numbered)

  head_valid : ValidRole most_entities width (head K)
  head_valid = valid_head most_entities width K (valid_wider x.entities (omega arith) K valid)

  inside : number < fact_count
  inside = number_within (head K) D head_valid x.member

  right_line : RightLine book lines next
  right_line = (
    K,
    x.numbered,
    premises_follow E x.entities book index lines x.ledger ws x.backed K valid D p q s
        x.member x.given x.premises,
  )

  says_head : stated book (some next) ≡ some (head K ∋ D)
  says_head = rw x.numbered

  longer : Ledger book (set index number (suc (length lines))) (lines ++ (next ∷ []))
  longer = ledger_snoc book index lines x.ledger number next inside x.new
      (says_head ∙ rw (number_fact (head K) D head_valid x.member)) right_line

  slip_longer : SlipFor book (head K) D (lines ++ (next ∷ []))
  slip_longer =
      let size : length (lines ++ (next ∷ [])) ≡ suc (length lines) = rw length-append (omega arith) in
      record { right = longer.right; last = rw (size, item_last) says_head }

  room_there : n < slip_lines
  room_there =
      let once = ledger_once E width x.entities (omega arith) cs x.all_valid book x.names.only (set index number (suc (length lines))) _ longer in
      let most = slip_most E width x.entities cs x.all_valid book x.names x.few (lines ++ (next ∷ [])) (head K) D slip_longer once in
      omega (arith, length-append lines (next ∷ []), length_lines_of slip n)

  extended_line : {slip' : List ℕ} → WroteLine slip n next slip' → Extended book index slip n (set index number (n + 1)) slip' (n + 1)
  extended_line wrote =
      let size : suc (length lines) ≡ n + 1 = omega (arith, length_lines_of slip n) in
      record {
        ledger = rw (wrote.lines, ← size) longer;
        size = wrote.size;
        more = omega arith;
        rest = wrote.rest;
        keeps = λ g. entry_kept index number (n + 1) g (omega (arith, inside, x.ledger.size)) (λ z. omega arith);
      }

-- what one use of a record's step gives is what the record gives, and goes to the word of its head, which is in the tables
module _ {bytes ws index slip : List ℕ} {E n k : ℕ} (w : Writing bytes E ws index slip n) (i : IsRecord bytes k) (steps : List ℕ) (t : HasSteps bytes steps) where
  step_there : get_or steps (k - 1) 0 ≡ step_of (record_of bytes k)
  step_there =
      let same : suc (k - 1) ≡ k = omega (arith, i.above) in
      t.stepped (k - 1) (omega (arith, i.above, i.within)) ∙ ap (λ m. step_of (record_of bytes m)) same

  pub gained_place : {at : ℕ} → at ≡ head_in (get_or steps (k - 1) 0) → at ≡ head_place (record_of bytes k)
  gained_place e = rw (e, step_there) (step_place (record_of bytes k))

  pub gained_word : {word : ℕ} → word ≡ step_gives E ws (get_or steps (k - 1) 0) → word ≡ give_of E ws (record_of bytes k)
  gained_word e = rw (e, step_there) (step_gives_lem E ws (omega (arith, w.words)) (record_of bytes k))

  pub gained_use : (acc : List ℕ) {at word : ℕ} → at ≡ head_in (get_or steps (k - 1) 0) → word ≡ step_gives E ws (get_or steps (k - 1) 0)
      → set acc at (bit_or (get_or acc at 0) word) ≡ use_record E ws acc (record_of bytes k)
  gained_use acc e v = rw (gained_place e, gained_word v)

  pub place_there : {at : ℕ} → at ≡ head_in (get_or steps (k - 1) 0) → at < table_words
  place_there e = rw (gained_place e) (held_place bytes w.accepts k i.above i.within)

-- what a record of an accepted bundle gives
module _ {bytes ws index slip : List ℕ} {n : ℕ} {g : Given} (w : Writing bytes g.entities ws index slip n) (i : IsGiven bytes ws g) where
  this : HeldRecord bytes g.entities g.number
  this = held_record bytes w.accepts g.number i.number.above i.number.within

  entities_most : g.entities ≤ most_entities
  entities_most = held_entities bytes w.accepts

  pub number_most : g.number ≤ 240
  number_most = omega (arith, i.number.within, (holding_sound bytes _ w.accepts).few)

  -- it gives D, whose fact is new, and its premises are found
  module _ {D : ℕ} (member : IsEntity most_entities D) (given : bit g.word (D - 1) ≡ 1)
      (new : get_or index (g.first + (D - 1)) 0 ≡ 0) where
    abbrev ps : Premises
    ps = premises_by ws index (record_of bytes g.number) D

    fact_here : g.first + (D - 1) ≡ fact_number (head this.credential) D
    fact_here =
        let K = this.credential in
        let wide = role_wider entities_most (le_refl width) (head K) (valid_head g.entities width K this.valid) in
        let place = place_of_head entities_most (record_of bytes g.number) K this.read this.valid ∙ sym (place_valid (head K) wide) in
        ap (λ (f : ℕ). f + (D - 1)) i.first ∙ ap (λ (p : ℕ). most_entities * p + (D - 1)) place ∙ sym (number_member (head K) D member)

    this_line : NextLine (held bytes) (book_in bytes) g.entities ws index slip n g.number this.credential D ps.first ps.second ps.third
    this_line = record {
      entities = entities_most;
      all_valid = held_valid bytes w.accepts;
      most = records_of bytes;
      names = (holding_sound bytes _ w.accepts).numbered;
      few = (holding_sound bytes _ w.accepts).few;
      ledger = w.ledger;
      backed = w.backed;
      numbered = this.numbered;
      member = member;
      given = rw (i.word, give_valid entities_most ws (record_of bytes g.number) this.credential this.read this.valid) at given;
      new = rw fact_here at new;
      premises = rw this.read at (premises_found g.entities entities_most ws D index member (record_of bytes g.number) (rw i.word at given));
    }

    room : n < slip_lines
    room = room_there this_line

    one_more : {slip' : List ℕ} → slip' ≡ with_line slip n (line D g.number ps.first ps.second ps.third)
        → OneMore bytes index slip n (g.first + (D - 1)) (set index (g.first + (D - 1)) (n + 1)) slip' (n + 1)
    one_more e = record {
      extended = rw fact_here (extended_line this_line (wrote_line (omega (arith, room, w.room)) e));
      lines = refl;
      entry = refl;
    }

  -- the same of entity x + 1, by its bit
  module _ {x : ℕ} (l : x < most_entities) (given : bit g.word x ≡ 0 → ⊥) (new : get_or index (g.first + x) 0 ≡ 0) where
    same : x + 1 - 1 ≡ x
    same = omega arith

    pub line_room : n < slip_lines
    line_room = room {D = x + 1} (omega arith) (rw same (bit_one g.word x given)) (rw same new)

    pub line_more : {slip' : List ℕ} {k : Option Record} → k ≡ record_of bytes g.number
        → slip' ≡ with_line slip n (line_by ws index k g.number (x + 1))
        → AtMostOneMore bytes index slip n (g.first + x) (bit g.word x) (set index (g.first + x) (n + 1)) slip' (n + 1)
    line_more e f =
        one_at_most (bit g.word x) (omega (arith, w.ledger.size, i.inside))
        (rw same at (one_more {D = x + 1} (omega arith) (rw same (bit_one g.word x given)) (rw same new) (rw e at f)))
