-- One pass over the tables: with one person more, or one word more, the lines passed go on; their counts stay small; and where all are passed
-- the whole text is written.
use Prim.Native.Nat.{ℕ, suc, ◌+◌, ◌/◌, ◌%◌, ◌<◌}
use native.Mathlib.Omega.{arith}
use native.Mathlib.Numerals.{add-one}
use mathlib.Core.Path.{◌≡◌, ap₂, subst}
use mathlib.Core.Bool.{Bool}
use mathlib.Core.List.{List}
use lib.ListN.{get_or}
use Rattle.rt0.specs.Credential.{◌·◌}
use Rattle.words.specs.Sizes.{most_entities, width, table_words}
use Rattle.text.specs.Written.{Wrote}
use Rattle.lines.specs.declared.line.Tally.{Tally}
use Rattle.lines.specs.Right.{SURE, MAYBE}
use Rattle.lines.specs.Text.{person_text, role_text, end_text, list_text}
use Rattle.lines.specs.Numbered.{numbered, role_at, is_one, members_up_to, roles_up_to}
use Rattle.lines.specs.Passing.{Passed, PassesMember, PassesRole}
use Rattle.lines.proofs.Growing.{numbered_more, passed_none, passed_end}
use Rattle.lines.proofs.Fits.{count_few}

-- both counts have room for one more
abbrev pub Few : Tally → Type 0
Few t = (t.sure < 65535) × (t.maybe < 65535)

module _ {K : Type 0} (key_text : K → List ℕ) (key : ℕ → K) (sure possible : ℕ → Bool) {before now : List ℕ} {t : Tally} where
  few : (i : ℕ) → i < 65535 → Passed key_text (numbered key sure possible i) before now t → Few t
  few i l p =
      (omega (arith, p.sure, count_few key sure possible SURE i), omega (arith, p.maybe, count_few key sure possible MAYBE i))

  -- all keys are passed
  written : {after : List ℕ} {r : ℕ} (n i : ℕ) → i ≡ n → Passed key_text (numbered key sure possible i) before now t
      → Wrote now t.next (end_text t.sure t.maybe) after r → Wrote before 0 (list_text key_text (numbered key sure possible n)) after r
  written {after} {r} n i e p w =
      subst (λ (m : ℕ). Wrote before 0 (list_text key_text (numbered key sure possible m)) after r) e (passed_end key_text (numbered key sure possible i) p w)

-- the members in two words
pub members_start : (w v : ℕ) {before : List ℕ} {t : Tally} → t.next ≡ 0 → t.sure ≡ 0 → t.maybe ≡ 0 → Passed person_text (members_up_to w v 0) before before t
unfolding numbered
members_start w v {before} {t} n s m = passed_none person_text before t n s m

module _ (w v : ℕ) {before now : List ℕ} {t : Tally} where
  pub members_more : {after : List ℕ} {u : Tally} (i : ℕ) (a b : Bool) → a ≡ is_one w i → b ≡ is_one v i
      → Passed person_text (members_up_to w v i) before now t → PassesMember (i + 1) a b now after t u → Passed person_text (members_up_to w v (i + 1)) before after u
  members_more i a b e f p passes =
      rw (numbered_more suc (λ i. is_one w i) (λ i. is_one v i) i (i + 1) a b (add-one i) e f) (passes before (members_up_to w v i) p)

  pub members_few : (i : ℕ) → i < most_entities → Passed person_text (members_up_to w v i) before now t → Few t
  members_few i l = few person_text suc (λ i. is_one w i) (λ i. is_one v i) i (omega arith)

  pub members_written : {after : List ℕ} {r : ℕ} (i : ℕ) → i ≡ most_entities → Passed person_text (members_up_to w v i) before now t
      → Wrote now t.next (end_text t.sure t.maybe) after r → Wrote before 0 (list_text person_text (members_up_to w v most_entities)) after r
  members_written i = written person_text suc (λ i. is_one w i) (λ i. is_one v i) most_entities i

-- the roles in one bit of two tables
pub roles_start : (ws vs : List ℕ) (d : ℕ) {before : List ℕ} {t : Tally} → t.next ≡ 0 → t.sure ≡ 0 → t.maybe ≡ 0 → Passed role_text (roles_up_to ws vs d 0) before before t
unfolding numbered
roles_start ws vs d {before} {t} n s m = passed_none role_text before t n s m

module _ (ws vs : List ℕ) (d : ℕ) {before now : List ℕ} {t : Tally} where
  pub roles_more : {after : List ℕ} {u : Tally} (i : ℕ) (a b : Bool) → a ≡ is_one (get_or ws i 0) d → b ≡ is_one (get_or vs i 0) d
      → Passed role_text (roles_up_to ws vs d i) before now t → PassesRole ((i / width + 1) · (i % width + 1)) a b now after t u
      → Passed role_text (roles_up_to ws vs d (i + 1)) before after u
  roles_more i a b e f p passes =
      rw (numbered_more (role_at width) (λ i. is_one (get_or ws i 0) d) (λ i. is_one (get_or vs i 0) d) i ((i / width + 1) · (i % width + 1)) a b
      (ap₂ ◌·◌ (add-one (i / width)) (add-one (i % width))) e f) (passes before (roles_up_to ws vs d i) p)

  pub roles_few : (i : ℕ) → i < table_words → Passed role_text (roles_up_to ws vs d i) before now t → Few t
  roles_few i l = few role_text (role_at width) (λ i. is_one (get_or ws i 0) d) (λ i. is_one (get_or vs i 0) d) i (omega arith)

  pub roles_written : {after : List ℕ} {r : ℕ} (i : ℕ) → i ≡ table_words → Passed role_text (roles_up_to ws vs d i) before now t
      → Wrote now t.next (end_text t.sure t.maybe) after r → Wrote before 0 (list_text role_text (roles_up_to ws vs d table_words)) after r
  roles_written i = written role_text (role_at width) (λ i. is_one (get_or ws i 0) d) (λ i. is_one (get_or vs i 0) d) table_words i
