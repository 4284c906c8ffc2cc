-- The step of a record has the number of its head's word and gives what the record gives; so one use of each step of an accepted bundle is
-- a round over the credentials that it holds.
use Rattle.std.specs.Prelude.{Option, Some, None}
use Prim.Native.Nat.{ℕ, zero, suc, ◌+◌, ◌*◌, ◌/◌, ◌%◌, ◌<◌, ◌≤◌, min}
use native.Mathlib.Numerals.{add-one}
use native.Mathlib.Omega.{arith}
use mathlib.Core.Path.{◌≡◌, refl, sym, ◌∙◌}
use mathlib.Core.Bool.{Bool, true, false, cond, ◌||◌}
use mathlib.Core.List.{List}
use lib.ListN.{length, get_or, set}
use lib.Seq.{get_or-set_same, get_or-set_other}
use borrow.Author.Count.{below_more}
use lib.Bits.{bit_and}
use Rattle.base.specs.Range.{outside}
use Rattle.rt0.specs.Credential.{◌·◌}
use Rattle.rt0.specs.Word.{place, word_at}
use Rattle.base.proofs.Flags.{inside}
use Rattle.records.specs.declared.form.Role.{Role}
use Rattle.records.specs.declared.form.Record.{Record}
use Rattle.records.specs.declared.form.Record.TheVariants as variant
use Rattle.bundle.specs.Access.{record_of}
use Rattle.words.specs.Sizes.{most_entities, width, table_words, step_part}
use Rattle.words.specs.Give.{outside_tables, place_of, word_of, single_of, link_of, give_of, head_place, use_record}
use Rattle.words.specs.Step.{step_with, form_in, head_in, body_in, one_in, two_in, three_in, among, step_of, Stepped, body_gives, step_gives, use_step, use_steps}
use Rattle.words.proofs.Given.{place_most}
use Rattle.words.proofs.Filling.{past_end}

-- ---- the parts of a step

-- the lowest part, and what stands above it
lowest : (a q : ℕ) → a < step_part → (a + step_part * q) % step_part ≡ a
lowest a q l = omega arith

above : (a q : ℕ) → a < step_part → (a + step_part * q) / step_part ≡ q
above a q l = omega arith

module _ (form head one two three : ℕ) (f : form < step_part) (h : head < step_part) where
  abbrev step : ℕ
  step = step_with form head one two three

  form_part : form_in step ≡ form
  form_part = lowest form _ f

  head_part : head_in step ≡ head
  head_part = rw (above form (head + step_part * (one + step_part * (two + step_part * three))) f) (lowest head _ h)

  body_part : body_in step ≡ one + step_part * (two + step_part * three)
  body_part = rw (above form (head + step_part * (one + step_part * (two + step_part * three))) f) (above head _ h)

-- ---- numbers out of range

pub among_most : (most n : ℕ) → among most n ≤ most
unfolding among
among_most most n = below (outside most n) refl
  where
    below : (found : Bool) → found ≡ outside most n → cond found 0 n ≤ most
    below true e = omega arith
    below false e = (inside most n (sym e)).1

-- what is asked of a number out of range is asked of 0
module _ (most n : ℕ) {A : Type 0} (answer : ℕ → A) where
  pub among_same : (outside most n ≡ true → answer 0 ≡ answer n) → answer (among most n) ≡ answer n
  unfolding among
  among_same none = same (outside most n) refl
    where
      same : (found : Bool) → found ≡ outside most n → answer (cond found 0 n) ≡ answer n
      same true e = none (sym e)
      same false e = refl

single_among : (B : ℕ) → single_of (among most_entities B) ≡ single_of B
unfolding single_of
single_among B = among_same most_entities B single_of (λ out. rw out)

outside_name : (A r : ℕ) → outside width r ≡ true → outside_tables A r ≡ true
unfolding outside_tables
outside_name A r out = rw out (or_last (outside most_entities A))
  where
    or_last : (b : Bool) → (b || true) ≡ true
    or_last true = refl
    or_last false = refl

word_among : (ws : List ℕ) (A r : ℕ) → word_of ws A (among width r) ≡ word_of ws A r
unfolding word_of
word_among ws A r = among_same width r (word_of ws A) (λ out. rw (outside_name A r out, outside_name A 0 refl))

link_among : (ws : List ℕ) (w r n : ℕ) → link_of ws w (among width r) n ≡ link_of ws w r n
unfolding link_of
link_among ws w r zero = refl
link_among ws w r (suc n) = rw (link_among ws w r n, word_among ws (suc n) r)

-- ---- words by their numbers

module _ (ws : List ℕ) (l : length ws ≤ table_words) where
  by_place : (A r : ℕ) → get_or ws (place_of A r) 0 ≡ word_of ws A r
  unfolding place_of word_of
  by_place A r = found (outside_tables A r)
    where
      found : (out : Bool) → get_or ws (cond out table_words (place width (A · r))) 0 ≡ cond out 0 (word_at width ws (A · r))
      found true = past_end ws table_words l
      found false = refl

-- ---- records

small : (A r : ℕ) → place_of A r < step_part
small A r = omega (arith, place_most A r)

-- what a body gives, by its parts
module _ (E : ℕ) (ws : List ℕ) (one two three : ℕ) (o : one < step_part) (t : two < step_part) where
  abbrev body : ℕ
  body = one + step_part * (two + step_part * three)

  one_part : one_in body ≡ one
  one_part = lowest one _ o

  two_part : two_in body ≡ two
  two_part = rw (above one (two + step_part * three) o) (lowest two three t)

  three_part : three_in body ≡ three
  three_part = rw (above one (two + step_part * three) o) (above two three t)

  gives_single : body_gives E ws 1 body ≡ single_of one
  unfolding body_gives
  gives_single = rw one_part

  gives_role : body_gives E ws 2 body ≡ get_or ws one 0
  unfolding body_gives
  gives_role = rw one_part

  gives_link : body_gives E ws 3 body ≡ link_of ws (get_or ws one 0) two (min E most_entities)
  unfolding body_gives
  gives_link = rw (one_part, two_part)

  gives_two : body_gives E ws 4 body ≡ bit_and (get_or ws one 0) (get_or ws two 0)
  unfolding body_gives
  gives_two = rw (one_part, two_part)

  gives_three : body_gives E ws 5 body ≡ bit_and (get_or ws one 0) (bit_and (get_or ws two 0) (get_or ws three 0))
  unfolding body_gives
  gives_three = rw (one_part, two_part, three_part)

gives_nothing : (E : ℕ) (ws : List ℕ) → step_gives E ws (step_with 0 table_words 0 0 0) ≡ 0
unfolding body_gives
gives_nothing E ws = refl

-- what is told of a record's step by its parts
module _ (E : ℕ) (ws : List ℕ) (l : length ws ≤ table_words) where
  gives_part : (form head one two three : ℕ) → form < step_part → head < step_part
      → step_gives E ws (step_with form head one two three) ≡ body_gives E ws form (one + step_part * (two + step_part * three))
  gives_part form head one two three f h = rw (form_part form head one two three f h, body_part form head one two three f h)

  -- in a record the head comes first
  abbrev Told : ℕ → Role → ℕ → ℕ → ℕ → ℕ → Type 0
  Told form h one two three word =
      body_gives E ws form (one + step_part * (two + step_part * three)) ≡ word → step_gives E ws (step_with form (place_of h.entity h.name) one two three) ≡ word

  told : (form : ℕ) (h : Role) (one two three : ℕ) {word : ℕ} → form < step_part → Told form h one two three word
  told form h one two three f e = gives_part form _ one two three f (small h.entity h.name) ∙ e

  pub step_gives_lem : (k : Option Record) → step_gives E ws (step_of k) ≡ give_of E ws k
  unfolding step_of give_of
  step_gives_lem (Some (variant.Entity h B)) =
      told 1 h (among most_entities B) 0 0 (omega arith)
      (gives_single E ws (among most_entities B) 0 0 (omega (arith, among_most most_entities B)) (omega arith) ∙ single_among B)
  step_gives_lem (Some (variant.Role h ρ)) =
      told 2 h (place_of ρ.entity ρ.name) 0 0 (omega arith)
      (gives_role E ws (place_of ρ.entity ρ.name) 0 0 (small ρ.entity ρ.name) (omega arith) ∙ by_place ws l ρ.entity ρ.name)
  step_gives_lem (Some (variant.Link h r1 r2)) =
      told 3 h (place_of h.entity r1) (among width r2) 0 (omega arith)
      (gives_link E ws (place_of h.entity r1) (among width r2) 0 (small h.entity r1) (omega (arith, among_most width r2))
      ∙ rw (by_place ws l h.entity r1) (link_among ws (word_of ws h.entity r1) r2 (min E most_entities)))
  step_gives_lem (Some (variant.TwoParts h ρ σ)) =
      told 4 h (place_of ρ.entity ρ.name) (place_of σ.entity σ.name) 0 (omega arith)
      (gives_two E ws (place_of ρ.entity ρ.name) (place_of σ.entity σ.name) 0 (small ρ.entity ρ.name) (small σ.entity σ.name)
      ∙ rw (by_place ws l ρ.entity ρ.name, by_place ws l σ.entity σ.name))
  step_gives_lem (Some (variant.ThreeParts h ρ σ τ)) =
      told 5 h (place_of ρ.entity ρ.name) (place_of σ.entity σ.name) (place_of τ.entity τ.name) (omega arith)
      (gives_three E ws (place_of ρ.entity ρ.name) (place_of σ.entity σ.name) (place_of τ.entity τ.name) (small ρ.entity ρ.name)
      (small σ.entity σ.name)
      ∙ rw (by_place ws l ρ.entity ρ.name, by_place ws l σ.entity σ.name, by_place ws l τ.entity τ.name))
  step_gives_lem None = gives_nothing E ws

pub step_place : (k : Option Record) → head_in (step_of k) ≡ head_place k
unfolding step_of
step_place (Some (variant.Entity h B)) = head_part 1 _ (among most_entities B) 0 0 (omega arith) (small h.entity h.name)
step_place (Some (variant.Role h ρ)) = head_part 2 _ (place_of ρ.entity ρ.name) 0 0 (omega arith) (small h.entity h.name)
step_place (Some (variant.Link h r1 r2)) = head_part 3 _ (place_of h.entity r1) (among width r2) 0 (omega arith) (small h.entity h.name)
step_place (Some (variant.TwoParts h ρ σ)) =
    head_part 4 _ (place_of ρ.entity ρ.name) (place_of σ.entity σ.name) 0 (omega arith) (small h.entity h.name)
step_place (Some (variant.ThreeParts h ρ σ τ)) =
    head_part 5 _ (place_of ρ.entity ρ.name) (place_of σ.entity σ.name) (place_of τ.entity τ.name) (omega arith) (small h.entity h.name)
step_place None = refl

-- one use of a record's step is one use of the record
pub step_use : (E : ℕ) (ws : List ℕ) → length ws ≤ table_words → (acc : List ℕ) (k : Option Record) → use_step E ws acc (step_of k) ≡ use_record E ws acc k
step_use E ws l acc k = rw (step_place k, step_gives_lem E ws l k)

-- ---- steps used one after the other

pub use_none : (E : ℕ) (steps ws acc : List ℕ) → acc ≡ use_steps E steps ws acc 0
unfolding use_steps
use_none E steps ws acc = refl

pub use_more : (E : ℕ) (steps ws acc : List ℕ) (n : ℕ) {to after : List ℕ} → to ≡ use_steps E steps ws acc n
    → after ≡ use_step E ws to (get_or steps n 0) → after ≡ use_steps E steps ws acc (n + 1)
unfolding use_steps
use_more E steps ws acc n e q = q ∙ rw (add-one, e)

-- ---- steps written one after the other

module _ (bytes steps : List ℕ) (n v : ℕ) (l : n < length steps) (e : v ≡ step_of (record_of bytes (suc n))) where
  pub steps_more : Stepped bytes n steps → Stepped bytes (n + 1) (set steps n v)
  steps_more h =
      below_more _ n (λ m b. get_or-set_other steps n m v 0 (λ same. omega arith) ∙ h m b) (get_or-set_same steps n v 0 l ∙ e)
