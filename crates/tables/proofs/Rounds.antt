-- A round of an accepted bundle, record after record: after i records the words are what one use of each of the first i credentials
-- makes of them. So it is where the records are used as steps.
use Prim.Native.Nat.{ℕ, zero, suc, ◌+◌, ◌≤◌, ◌<◌}
use native.Mathlib.Nat.{le_refl}
use native.Mathlib.Numerals.{add-one}
use native.Mathlib.Omega.{arith}
use mathlib.Core.Path.{◌≡◌, refl, ap, ◌∙◌}
use mathlib.Core.Option.{some, none-ne-some, some-injective}
use mathlib.Core.List.{List, [], ◌∷◌, ◌++◌}
use lib.ListN.{length, take, get_or, get_elem?}
use lib.Seq.{take_all}
use Rattle.rt0.specs.Credential.{Credential}
use Rattle.rt0.specs.Word.{use_word, use_words, round_words}
use Rattle.rt0.proofs.Shown.{use_words_snoc}
use Rattle.bundle.specs.declared.read.Sizes.{Sizes}
use Rattle.bundle.specs.Rows.{Accepts}
use Rattle.bundle.specs.Held.{held}
use Rattle.bundle.specs.Access.{record_of}
use Rattle.bundle.specs.Layout.{records_of}
use Rattle.bundle.proofs.Accepted.{accepted_contents, length_credentials}
use Rattle.words.specs.Sizes.{width, table_words}
use Rattle.words.specs.Give.{use_record}
use Rattle.words.proofs.Given.{use_valid}
use Rattle.words.specs.Step.{head_in, Steps, Stepped, use_step, use_steps}
use Rattle.words.proofs.Stepped.{step_place, step_use}
use Rattle.tables.proofs.Held.{held_entities, held_record, held_place}

-- one item more
take_item : {A : Type 0} (l : List A) (n : ℕ) (a : A) → get_elem? l n ≡ some a → take (suc n) l ≡ take n l ++ (a ∷ [])
take_item [] n a e = absurd (none-ne-some a e)
take_item (x ∷ l) zero a e = ap (λ b. b ∷ []) (some-injective x a e)
take_item (x ∷ l) (suc n) a e = ap (λ m. x ∷ m) (take_item l n a e)

-- the words after the first i credentials of a round
abbrev pub round_to : ℕ → List Credential → ℕ → List ℕ → List ℕ
round_to E cs i ws = round_words E width (take i cs) ws

pub round_none : (E : ℕ) (cs : List Credential) (ws : List ℕ) → ws ≡ round_to E cs 0 ws
unfolding round_words use_words
round_none E cs ws = refl

round_item : (E : ℕ) (cs : List Credential) (i : ℕ) (k : Credential) (ws : List ℕ) → get_elem? cs i ≡ some k
    → round_to E cs (suc i) ws ≡ use_word E width ws (round_to E cs i ws) k
unfolding round_words
round_item E cs i k ws e = rw (take_item cs i k e) (use_words_snoc E width ws ws (take i cs) k)

module _ (bytes : List ℕ) {s : Sizes} (h : Accepts bytes s) (ws : List ℕ) where
  -- one record more
  pub round_more : {to after : List ℕ} {i : ℕ} → i < s.records → to ≡ round_to s.entities (held bytes) i ws
      → after ≡ use_record s.entities ws to (record_of bytes (i + 1)) → after ≡ round_to s.entities (held bytes) (i + 1) ws
  round_more {to} {i = i} l t a =
      let k = held_record bytes h (suc i) (omega arith) l in
      rw (add-one, round_item s.entities (held bytes) i k.credential ws k.numbered, ← t)
      (rw add-one at a ∙ use_valid (held_entities bytes h) ws to (record_of bytes (suc i)) k.credential k.read k.valid)

  -- all records
  pub round_all : (i : ℕ) {to : List ℕ} → s.records ≤ i → to ≡ round_to s.entities (held bytes) i ws
      → to ≡ round_words s.entities width (held bytes) ws
  round_all i l t =
      t ∙ ap (λ (cs : List Credential). round_words s.entities width cs ws) (take_all i (held bytes) (omega (arith, length_credentials bytes (records_of bytes), (accepted_contents bytes s h).records)))

module _ (bytes : List ℕ) {s : Sizes} (h : Accepts bytes s) where
  -- the steps that were written, where 240 were lent
  module _ {before steps : List ℕ} (w : Steps bytes before steps) (e : length before ≡ 240) where
    pub all_stepped : Stepped bytes s.records steps
    all_stepped m l = w.stepped m (omega (arith, (accepted_contents bytes s h).records_most))

    pub steps_there : s.records ≤ length steps
    steps_there = omega (arith, w.size, (accepted_contents bytes s h).records_most)

  module _ (steps : List ℕ) (t : Stepped bytes s.records steps) where
    -- the heads of the steps have words
    pub heads_there : (m : ℕ) → m < s.records → head_in (get_or steps m 0) < table_words
    heads_there m l = rw (t m l, step_place (record_of bytes (suc m))) (held_place bytes h (suc m) (omega arith) l)

    -- one use of each step is a round
    module _ (ws : List ℕ) (size : length ws ≡ table_words) where
      steps_to : (n : ℕ) → n ≤ s.records → use_steps s.entities steps ws ws n ≡ round_to s.entities (held bytes) n ws
      unfolding use_steps
      steps_to zero l = round_none s.entities (held bytes) ws
      steps_to (suc n) l =
          let now = use_steps s.entities steps ws ws n in
          let step : use_step s.entities ws now (get_or steps n 0) ≡ use_record s.entities ws now (record_of bytes (n + 1)) =
          rw (t n l, add-one) (step_use s.entities ws (omega arith) now (record_of bytes (suc n))) in
          rw add-one at (round_more bytes h ws l (steps_to n (omega arith)) step)

      pub steps_round : {to after : List ℕ} → ws ≡ to → after ≡ use_steps s.entities steps ws to s.records
          → after ≡ round_words s.entities width (held bytes) ws
      steps_round e made =
          round_all bytes h ws s.records (le_refl s.records) (made ∙ rw (← e) (steps_to s.records (le_refl s.records)))
