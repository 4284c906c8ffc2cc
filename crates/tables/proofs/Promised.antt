-- From the tables at rest to the promise: what they show, how many rounds there were, what is left of the lent words, and the order of
-- the refusals.
use Rattle.std.specs.Prelude.{Ok, Err}
use Prim.Native.Nat.{ℕ, ◌*◌, ◌^◌, ◌<◌, ◌≤◌, min}
use native.Mathlib.Omega.{arith}
use mathlib.Core.Path.{◌≡◌, refl, sym, ap, subst}
use mathlib.Core.Bool.{Bool, true, false, ◌&&◌, true≢false}
use mathlib.Core.Logic.Iff
use mathlib.Core.Logic.{inl}
use mathlib.Core.List.{List, [], ◌∷◌, ◌++◌}
use lib.ListN.{take, drop, length, get_or, length-take, length-drop}
use lib.Dec.{eqb, ltb}
use borrow.Author.Tests.{ltb-false, eqb-true}
use lib.Seq.{take_all, take_at, drop_at, get_or-take}
use Rattle.rt0.specs.Credential.{◌·◌, Credential}
use Rattle.rt0.specs.Membership.{Assignment, Member}
use Rattle.rt0.specs.Table.{distinct_heads}
use Rattle.rt0.specs.Table.{Rounds as IsRounds}
use Rattle.rt0.specs.Completion.{Open, open_with, Completable}
use Rattle.rt0.specs.Word.{place, none_words, open_words, Shows}
use Rattle.rt0.proofs.Possible.{Possible, possible_completable}
use Rattle.rt0.proofs.Settle.{settled_rounds, settled_sure, settled_possible}
use Rattle.rt0.proofs.Bounds.{rounds_by_heads}
use Rattle.rt0.proofs.Shown.{place_within, shows_as}
use Rattle.base.specs.Refused.{refusal_at}
use Rattle.base.specs.Refusals.{AllOnePlace, AllNumbered, refused, passed}
use Rattle.base.proofs.Flags.{or_false, Tells, or_tells, lt_tells, clash_flag}
use Rattle.base.proofs.Refusals.{due_first, due_later, clear_both, one_place_both, numbered_both, zero_place}
use Rattle.bundle.specs.Layout.{entities_of, names_of}
use Rattle.bundle.specs.Rows.{reader_rows, Reads, Accepts}
use Rattle.bundle.specs.Held.{held, shelves}
use Rattle.bundle.proofs.Refusals.{reader_places, reader_numbers}
use Rattle.bundle.proofs.Determined.{reads_refused}
use Rattle.bundle.proofs.Accepted.{Contents, accepted_contents}
use Rattle.bundle.specs.declared.read.Sizes.{Sizes}
use Rattle.words.specs.Sizes.{most_entities, width, table_words}
use Rattle.words.specs.Give.{copied_over}
use Rattle.tables.specs.declared.start.OpenRoles.{OpenRoles}
use Rattle.tables.specs.Rest.{AtRest, RestsIn}
use Rattle.tables.specs.Open.{names_in, open_names, nothing_open, opened_roles, start_words}
use Rattle.tables.specs.Promise.{Tables, tables, TableLeft, TablesShort, tables_wrong, short_row, table_rows, TablesWith, filled}
use Rattle.tables.proofs.Held.{held_entities, held_names}
use Rattle.tables.proofs.Opened.{nothing_open_lem, opened_start}

-- ---- lent words

-- the first table_words words are at rest, the others as before
pub rests_in : (E : ℕ) (cs : List Credential) (start before : List ℕ) (n : ℕ) (ws : List ℕ) → AtRest E cs start n ws
    → ((i : ℕ) → get_or (ws ++ drop table_words before) i 0 < 2 ^ 32) → RestsIn E cs start before n (ws ++ drop table_words before)
rests_in E cs start before n ws s small =
    let size : length ws ≡ table_words = s.fits.size in
    record {
      rests = subst (AtRest E cs start n) (sym (take_at ws (drop table_words before) table_words size)) s;
      rest = drop_at ws (drop table_words before) table_words size;
      small = small;
    }

-- a table at rest, copied over the first table_words words of another
pub rests_copied : (E : ℕ) (cs : List Credential) (start before ws : List ℕ) (n : ℕ) {after : List ℕ} → AtRest E cs start n ws
    → table_words ≤ length before → after ≡ copied_over ws before → ((i : ℕ) → get_or after i 0 < 2 ^ 32) → RestsIn E cs start before n after
unfolding copied_over
rests_copied E cs start before ws n {after} s enough e small =
    let size : length ws ≡ table_words = s.fits.size in
    let both : min (length ws) (length before) ≡ table_words = omega arith in
    let whole : after ≡ ws ++ drop table_words before = rw (e, both, take_all table_words ws (omega arith)) in
    subst (RestsIn E cs start before n) (sym whole) (rests_in E cs start before n ws s (subst (λ (l : List ℕ). (i : ℕ) → get_or l i 0 < 2 ^ 32) whole small))

and_both : (a b : Bool) → (a && b) ≡ true → (a ≡ true) × (b ≡ true)
and_both true b e = (refl, e)
and_both false b e = absurd (true≢false (sym e))

-- where the words say so no role is open
pub none_open : (s : Sizes) (o : OpenRoles) → (eqb o.entities 0 && eqb o.names 0) ≡ true → start_words s nothing_open ≡ start_words s o
none_open s o e = let (entities, names) = and_both (eqb o.entities 0) (eqb o.names 0) e in rw (eqb-true o.entities 0 entities, eqb-true o.names 0 names)

-- tables that are not too short are long enough
pub tables_enough : (sure possible : List ℕ) → tables_wrong (tables sure possible) ≡ false
    → (table_words ≤ length sure) × (table_words ≤ length possible)
tables_enough sure possible h =
    let (first, second) = or_false (ltb (length sure) table_words) (ltb (length possible) table_words) h in
    (ltb-false (length sure) table_words first, ltb-false (length possible) table_words second)

-- what the first table_words words show, all words show
shows_whole : (ws : List ℕ) (P : Assignment) → Shows most_entities width (take table_words ws) P → Shows most_entities width ws P
shows_whole ws P s A r D a n d =
    rw (← get_or-take table_words ws (place width (A · r)) 0 (place_within most_entities width A r a n)) (s A r D a n d)

module _ {E : ℕ} {cs : List Credential} {start before : List ℕ} {n : ℕ} {after : List ℕ} (x : RestsIn E cs start before n after) where
  pub table_left : {P : Assignment} → Shows most_entities width (take table_words after) P → table_words ≤ length before
      → TableLeft P before after
  table_left {P} shown enough = record {
    shows = shows_whole after P shown;
    rest = x.rest;
    size = omega (
      arith,
      length-take table_words after,
      x.rests.fits.size,
      length-drop table_words after,
      length-drop table_words before,
      ap length x.rest,
    );
    small = x.small;
  }

-- ---- the two tables of an accepted bundle

module _ (bytes : List ℕ) {s : Sizes} (h : Accepts bytes s) where
  contents : Contents bytes s
  contents = accepted_contents bytes s h

  abbrev E : ℕ
  E = s.entities

  abbrev R : ℕ
  R = s.names

  sure_shown : (n : ℕ) (ws : List ℕ) → AtRest E (held bytes) (none_words table_words) n ws → Shows most_entities width ws (Member (held bytes))
  sure_shown n ws r =
      settled_sure E R most_entities width (held_entities bytes h) (held_names bytes h) (held bytes) contents.valid n ws r.settled

  possible_shown : (is_open : Open) (n : ℕ) (ws : List ℕ) → AtRest E (held bytes) (open_words E R width is_open table_words) n ws
      → Shows most_entities width ws (Completable E R is_open (held bytes))
  possible_shown is_open n ws r =
      shows_as most_entities width ws (Possible E R is_open (held bytes)) (Completable E R is_open (held bytes))
      (λ ρ D. Iff.symm (possible_completable E R is_open (held bytes) contents.valid ρ D))
      (settled_possible E R most_entities width (held_entities bytes h) (held_names bytes h) (held bytes) contents.valid is_open n ws
      r.settled)

  -- the number of rounds, and its bound
  rounds_settled : (n : ℕ) (ws : List ℕ) → AtRest E (held bytes) (none_words table_words) n ws
      → IsRounds (held bytes) n × (n ≤ most_entities * length (distinct_heads (held bytes)))
  rounds_settled n ws r =
      let rounds =
      settled_rounds E R most_entities width (held_entities bytes h) (held_names bytes h) (held bytes) contents.valid n ws r.settled in
      (rounds, rounds_by_heads E R (held_entities bytes h) (held bytes) contents.valid n rounds)

-- ---- the order of the refusals

pub short_tells : (before : Tables) → Tells (tables_wrong before) (TablesShort before)
short_tells before = or_tells _ _ (lt_tells (length before.sure) table_words) (lt_tells (length before.possible) table_words)

module _ (bytes : List ℕ) (before : Tables) where
  pub table_places : AllOnePlace (table_rows bytes before)
  table_places = one_place_both (reader_rows bytes) (short_row before ∷ []) (reader_places bytes) (zero_place (TablesShort before), tt)

  pub table_numbers : AllNumbered (table_rows bytes before)
  table_numbers = numbered_both (reader_rows bytes) (short_row before ∷ []) (reader_numbers bytes) (omega arith, tt)

  pub refused_read : (is_open : Open) (number place : ℕ) → Reads bytes (Err (refusal_at number place)) → TablesWith is_open bytes before before (Err (refusal_at number place))
  refused_read is_open number place r =
      refused (due_first (reader_rows bytes) (short_row before ∷ []) number place (reads_refused bytes number place r))
      (record { sizes = refl; rounds = refl; untouched = refl })

  module _ {s : Sizes} (h : Accepts bytes s) where
    pub refused_short : (is_open : Open) → tables_wrong before ≡ true → TablesWith is_open bytes before before (Err (refusal_at 8 0))
    refused_short is_open w =
        refused (due_later (reader_rows bytes) (short_row before ∷ []) 8 0 h.clear (inl (refl, (refl, (short_tells before).0 w))))
        (record { sizes = refl; rounds = refl; untouched = refl })

    pub both_left : (names n m : ℕ) (after : Tables) → tables_wrong before ≡ false
        → RestsIn s.entities (held bytes) (start_words s nothing_open) before.sure n after.sure
        → RestsIn s.entities (held bytes) (start_words s (opened_roles bytes s.entities names)) before.possible m after.possible
        → TablesWith (open_names names bytes) bytes before after (Ok (filled s n))
    both_left names n m after enough x y =
        let (first, second) = tables_enough before.sure before.possible enough in
        let nobody = rw nothing_open_lem at x.rests in
        let is_open : Open = open_with (names_in names) (shelves bytes) s.entities in
        let everyone = rw opened_start at y.rests in
        let (least, few) = rounds_settled bytes h n (take table_words after.sure) nobody in
        let possible : TableLeft (Completable s.entities s.names is_open (held bytes)) before.possible after.possible =
        table_left y (possible_shown bytes h is_open m (take table_words after.possible) everyone) second in
        let E : s.entities ≡ entities_of bytes = (contents bytes h).entities in
        let R : s.names ≡ names_of bytes = (contents bytes h).names in
        passed refl refl
        (clear_both (reader_rows bytes) (short_row before ∷ []) h.clear
        ((λ (_, (_, w)). clash_flag ((short_tells before).1 w) enough), tt))
        (record {
          sizes = h.said;
          filled = record {
            rounds = least;
            few_rounds = few;
            sure = table_left x (sure_shown bytes h n (take table_words after.sure) nobody) first;
            possible = rw (E, R) at possible;
          };
        })
