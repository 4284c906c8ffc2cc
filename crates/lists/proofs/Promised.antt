-- The promise from the stages of a call: the reader's refusal, 7, 8, or the text of the right list.
use Rattle.std.specs.Prelude.{Ok, Err}
use Prim.Native.Nat.{ℕ, suc, ◌-◌, ◌<◌, ◌≤◌}
use native.Mathlib.Omega.{arith}
use mathlib.Core.Path.{◌≡◌, refl, sym, ap₂, ◌∙◌}
use mathlib.Core.Bool.{Bool, true, false, ◌||◌}
use mathlib.Core.Logic.{inl, inr}
use mathlib.Core.List.{List, [], ◌∷◌}
use lib.ListN.{length, get_or}
use borrow.Author.Tests.{le-ltb}
use Rattle.rt0.specs.Credential.{◌·◌}
use Rattle.rt0.specs.Holding.{SoundHolding}
use Rattle.base.specs.Refused.{refusal_at}
use Rattle.base.specs.Range.{Outside, outside}
use Rattle.base.specs.Refusals.{Row, Applies, Clear, refused, passed}
use Rattle.base.proofs.Flags.{Tells, or_tells, outside_tells, or_false, inside, clash_flag}
use Rattle.base.proofs.Refusals.{due_first, due_later, clear_both}
use Rattle.bundle.specs.declared.read.Sizes.{Sizes}
use Rattle.bundle.specs.Layout.{entities_of, names_of}
use Rattle.bundle.specs.Rows.{reader_rows, Accepts}
use Rattle.bundle.specs.Held.{open_of, holding_in}
use Rattle.bundle.proofs.Accepted.{accepted_contents, holding_sound}
use Rattle.words.specs.Sizes.{most_entities, width, table_words}
use Rattle.words.specs.Give.{word_of}
use Rattle.tables.specs.Promise.{Tables, tables, TablesPromise, tables_wrong, filled}
use Rattle.tables.proofs.Told.{filled_told, refused_told}
use Rattle.text.specs.Written.{Wrote}
use Rattle.text.proofs.Written.{wrote_text, wrote_length}
use Rattle.lines.specs.Right.{Line}
use Rattle.lists.specs.Asked.{RightMembers, RightRoles}
use Rattle.lines.specs.Text.{person_text, role_text, list_text}
use Rattle.lines.specs.Sizes.{member_line, members_bytes, role_line, roles_bytes}
use Rattle.lines.specs.Numbered.{role_at, is_one, members_up_to, roles_up_to}
use Rattle.lists.specs.Shown.{TablesOf}
use Rattle.lists.specs.Promise.{RoleWrong, role_wrong, role_row, person_row, short_row, list_rows, ListPromise, MembersPromise, RolesPromise}
use Rattle.lines.proofs.Fits.{text_few, person_few, role_few}
use Rattle.lists.proofs.ReadOff.{members_right, roles_right}

-- what the tables promise, as the lists are read off them
pub tables_of : (bytes : List ℕ) (sure possible sure' possible' : List ℕ) (s : Sizes) (n : ℕ)
    → TablesPromise bytes (tables sure possible) (tables sure' possible') (Ok (filled s n)) → Accepts bytes s × TablesOf (holding_in bytes) sure' possible'
tables_of bytes sure possible sure' possible' s n p =
    let (accepts, left) = filled_told (open_of bytes) bytes (tables sure possible) (tables sure' possible') s n p in
    (accepts, record { sure_shown = left.sure.shows; possible_shown = left.possible.shows })

-- any list
module _ {K : Type 0} (Right : List (Line K) → Type 0) (key_text : K → List ℕ) (bytes : List ℕ) (asked : Row) (needed : ℕ) (before : List ℕ) where
  -- the tables' refusal is the reader's, as the tables are long enough
  pub refused_tables : (sure possible : List ℕ) (after : Tables) (n p : ℕ) → table_words ≤ length sure → table_words ≤ length possible
      → TablesPromise bytes (tables sure possible) after (Err (refusal_at n p))
      → ListPromise Right key_text (list_rows bytes asked needed before) before before (Err (refusal_at n p))
  refused_tables sure possible after n p enough also promise =
      let right : tables_wrong (tables sure possible) ≡ false = rw (le-ltb (length sure) table_words enough, le-ltb (length possible) table_words also) in
      refused
      (due_first (reader_rows bytes) (asked ∷ short_row needed before ∷ []) n p (refused_told (open_of bytes) bytes (tables sure possible) after n p right promise).0)
      (record { none = refl; untouched = refl })

  module _ (clear : Clear (reader_rows bytes)) where
    pub refused_asked : asked.number ≡ 7 → asked.At 0 → ListPromise Right key_text (list_rows bytes asked needed before) before before (Err (refusal_at 7 0))
    refused_asked e at =
        refused (due_later (reader_rows bytes) (asked ∷ short_row needed before ∷ []) 7 0 clear (inl (e, at))) (record { none = refl; untouched = refl })

    pub refused_short : (Applies asked → ⊥) → length before < needed → ListPromise Right key_text (list_rows bytes asked needed before) before before (Err (refusal_at 8 0))
    refused_short none l =
        refused (due_later (reader_rows bytes) (asked ∷ short_row needed before ∷ []) 8 0 clear (inr (none, inl (refl, (refl, l)))))
        (record { none = refl; untouched = refl })

    pub list_given : (Applies asked → ⊥) → needed ≤ length before → (ls : List (Line K)) → Right ls → length (list_text key_text ls) ≤ needed
        → {after : List ℕ} {r : ℕ} → Wrote before 0 (list_text key_text ls) after r
        → ListPromise Right key_text (list_rows bytes asked needed before) before after (Ok r)
    list_given none room ls right fits w =
        let (text, size) = wrote_text w (omega arith) in
        passed refl refl
        (clear_both (reader_rows bytes) (asked ∷ short_row needed before ∷ []) clear (none, ((λ (_, (_, l)). omega arith), tt)))
        (record { list = ls; right = right; written = text ∙ rw size; length_said = size; size = wrote_length w })

-- the question's row, by its test over the sizes that the bundle says
module _ (bytes : List ℕ) (s : Sizes) (accepts : Accepts bytes s) where
  E : s.entities ≡ entities_of bytes
  E = cc accepts.said

  R : s.names ≡ names_of bytes
  R = cc accepts.said

  role_tells : (A r : ℕ) → Tells (role_wrong s.entities s.names (A · r)) (RoleWrong (entities_of bytes) (names_of bytes) (A · r))
  role_tells A r = rw (← E, ← R) (or_tells _ _ (outside_tells s.entities A) (outside_tells s.names r))

  person_tells : (D : ℕ) → Tells (outside s.entities D) (Outside (entities_of bytes) D)
  person_tells D = rw (← E) (outside_tells s.entities D)

  sound : SoundHolding (holding_in bytes)
  sound = holding_sound bytes s accepts

  entities_most : entities_of bytes ≤ most_entities
  entities_most = omega (arith, (accepted_contents bytes s accepts).entities_most, E)

  names_most : names_of bytes ≤ width
  names_most = omega (arith, (accepted_contents bytes s accepts).names_most, R)

  -- the members of a role
  module _ (A r : ℕ) (before : List ℕ) {a b : Bool} (e : a ≡ outside s.entities A) (f : b ≡ outside s.names r) where
    wrong_is : (a || b) ≡ role_wrong s.entities s.names (A · r)
    wrong_is = ap₂ ◌||◌ e f

    pub members_wrong : (a || b) ≡ true → MembersPromise bytes (A · r) before before (Err (refusal_at 7 0))
    members_wrong w =
        refused_asked (RightMembers (holding_in bytes) (A · r)) person_text bytes (role_row bytes (A · r)) members_bytes before accepts.clear refl
        (refl, (role_tells A r).0 (sym wrong_is ∙ w))

    not_wrong : (a || b) ≡ false → Applies (role_row bytes (A · r)) → ⊥
    not_wrong w (_, (_, x)) = clash_flag ((role_tells A r).1 x) (sym wrong_is ∙ w)

    pub members_short : (a || b) ≡ false → length before < members_bytes → MembersPromise bytes (A · r) before before (Err (refusal_at 8 0))
    members_short w l =
        refused_short (RightMembers (holding_in bytes) (A · r)) person_text bytes (role_row bytes (A · r)) members_bytes before accepts.clear
        (not_wrong w) l

    pub members_given : {ws vs after : List ℕ} {x y n : ℕ} → (a || b) ≡ false → members_bytes ≤ length before → TablesOf (holding_in bytes) ws vs
        → x ≡ word_of ws A r → y ≡ word_of vs A r → Wrote before 0 (list_text person_text (members_up_to x y most_entities)) after n
        → MembersPromise bytes (A · r) before after (Ok n)
    members_given {x = x} {y} w room shown g h wrote =
        let (entity, name) = or_false a b w in
        let in_entities : (1 ≤ A) × (A ≤ s.entities) = inside s.entities A (sym e ∙ entity) in
        let in_names : (1 ≤ r) × (r ≤ s.names) = inside s.names r (sym f ∙ name) in
        let right : RightMembers (holding_in bytes) (A · r) (members_up_to x y most_entities) =
        rw (g, h) (members_right (holding_in bytes) sound entities_most names_most shown A r (omega (arith, E)) (omega (arith, R))) in
        list_given (RightMembers (holding_in bytes) (A · r)) person_text bytes (role_row bytes (A · r)) members_bytes before accepts.clear
        (not_wrong w) room (members_up_to x y most_entities) right
        (text_few suc (λ i. is_one x i) (λ i. is_one y i) person_text member_line most_entities (omega arith) person_few) wrote

  -- the roles of a person
  pub person_from_one : (D : ℕ) {a : Bool} → a ≡ outside s.entities D → a ≡ false → 1 ≤ D
  person_from_one D e w = (inside s.entities D (sym e ∙ w)).0

  module _ (D : ℕ) (before : List ℕ) {a : Bool} (e : a ≡ outside s.entities D) where
    pub roles_wrong : a ≡ true → RolesPromise bytes D before before (Err (refusal_at 7 0))
    roles_wrong w =
        refused_asked (RightRoles (holding_in bytes) D) role_text bytes (person_row bytes D) roles_bytes before accepts.clear refl
        (refl, (person_tells D).0 (sym e ∙ w))

    nobody_wrong : a ≡ false → Applies (person_row bytes D) → ⊥
    nobody_wrong w (_, (_, x)) = clash_flag ((person_tells D).1 x) (sym e ∙ w)

    pub roles_short : a ≡ false → length before < roles_bytes → RolesPromise bytes D before before (Err (refusal_at 8 0))
    roles_short w l =
        refused_short (RightRoles (holding_in bytes) D) role_text bytes (person_row bytes D) roles_bytes before accepts.clear (nobody_wrong w) l

    pub roles_given : {ws vs after : List ℕ} {n : ℕ} → a ≡ false → roles_bytes ≤ length before → TablesOf (holding_in bytes) ws vs
        → Wrote before 0 (list_text role_text (roles_up_to ws vs (D - 1) table_words)) after n → RolesPromise bytes D before after (Ok n)
    roles_given {ws} {vs} w room shown wrote =
        let within : (1 ≤ D) × (D ≤ s.entities) = inside s.entities D (sym e ∙ w) in
        list_given (RightRoles (holding_in bytes) D) role_text bytes (person_row bytes D) roles_bytes before accepts.clear (nobody_wrong w) room
        (roles_up_to ws vs (D - 1) table_words)
        (roles_right (holding_in bytes) sound entities_most names_most shown D (omega (arith, E)))
        (text_few (role_at width) (λ i. is_one (get_or ws i 0) (D - 1)) (λ i. is_one (get_or vs i 0) (D - 1)) role_text role_line table_words (omega arith)
        role_few) wrote
