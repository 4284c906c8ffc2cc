-- What the functions answer at every input is RT0's own where the role or the record is valid: the word of a role, the number of a
-- head's word, what one use of a record gives, and the words after it.
use Rattle.std.specs.Prelude.{Option, Some, None}
use Prim.Native.Nat.{ℕ, zero, suc, ◌<◌, ◌≤◌, min}
use native.Mathlib.Nat.{le_refl}
use native.Mathlib.Omega.{arith}
use mathlib.Core.Path.{◌≡◌, refl, sym, ap, subst, ◌∙◌}
use mathlib.Core.Bool.{Bool, true, false, cond}
use mathlib.Core.Option.{some, none-ne-some, some-injective}
use mathlib.Core.List.Memᴰ
use mathlib.Core.List.{List}
use Rattle.rt0.specs.Credential.{◌·◌, link, Credential, ◌⟵◌, head, entity_of, name_of, IsEntity, IsName, ValidRole, Valid}
use Rattle.rt0.specs.Credential.{Role as RT0Role}
use Rattle.rt0.specs.Word.{place, word_at, link_word, meet_word, give_word, use_word}
use Rattle.rt0.proofs.Least.{valid_head}
use Rattle.records.specs.declared.form.Role.{Role}
use Rattle.records.specs.declared.form.Record.{Record}
use Rattle.records.specs.declared.form.Record.TheVariants as variant
use Rattle.records.specs.Form.{role_of, head_of, head_role, credential_of}
use Rattle.records.proofs.Heads.{head_credential}
use Rattle.base.specs.Range.{outside}
use Rattle.base.proofs.Flags.{or_false, inside, inside_flag}
use Rattle.words.specs.Sizes.{most_entities, width, table_words}
use Rattle.words.specs.Give.{outside_tables, place_of, word_of, single_of, link_of, give_of, head_word, head_place, use_record}
use Rattle.words.proofs.Wider.{role_wider}

-- ---- roles

within_tables : (A r : ℕ) → IsEntity most_entities A → IsName width r → outside_tables A r ≡ false
unfolding outside_tables
within_tables A r a n = rw (inside_flag most_entities A a.above a.within, inside_flag width r n.above n.within)

-- and where the test finds so it is
pub inside_tables : (A r : ℕ) {found : Bool} → found ≡ outside_tables A r → found ≡ false → IsEntity most_entities A × IsName width r
unfolding outside_tables
inside_tables A r e f =
    let (entity, name) = or_false (outside most_entities A) (outside width r) (sym e ∙ f) in
    omega (arith, inside most_entities A entity, inside width r name)

pub place_valid : (ρ : RT0Role) → ValidRole most_entities width ρ → place_of (entity_of ρ) (name_of ρ) ≡ place width ρ
unfolding place_of
place_valid (A · r) v = rw (within_tables A r v.0 v.1)

-- at every role the number is that of a word, or of all words
pub place_most : (A r : ℕ) → place_of A r ≤ table_words
unfolding place_of
place_most A r = most (outside_tables A r) refl
  where
    most : (found : Bool) → found ≡ outside_tables A r → cond found table_words (place width (A · r)) ≤ table_words
    most true e = le_refl table_words
    most false e = let (a, n) = inside_tables A r e refl in omega arith

pub place_small : (ρ : RT0Role) → ValidRole most_entities width ρ → place width ρ < table_words
place_small (A · r) v = omega arith

pub word_valid : (ws : List ℕ) (ρ : RT0Role) → ValidRole most_entities width ρ → word_of ws (entity_of ρ) (name_of ρ) ≡ word_at width ws ρ
unfolding word_of
word_valid ws (A · r) v = rw (within_tables A r v.0 v.1)

link_valid : (ws : List ℕ) (w r2 : ℕ) → IsName width r2 → (n : ℕ) → n ≤ most_entities → link_of ws w r2 n ≡ link_word width ws w r2 n
unfolding link_of link_word
link_valid ws w r2 i zero l = refl
link_valid ws w r2 i (suc n) l = rw (link_valid ws w r2 i n (omega arith), word_valid ws (suc n · r2) (omega arith, i))

-- ---- records

-- the word of a head
head_word_lem : (h : Option Role) (ρ : RT0Role) → head_role h ≡ some ρ → ValidRole most_entities width ρ → head_word h ≡ place width ρ
head_word_lem (Some h) ρ e v =
    let same : role_of h ≡ ρ = some-injective _ ρ e in
    place_valid (role_of h) (subst (ValidRole most_entities width) (sym same) v) ∙ ap (place width) same
head_word_lem None ρ e v = absurd (none-ne-some ρ e)

-- the word of the head that a record has
pub head_found : (k : Option Record) (h : Option Role) (n : ℕ) → h ≡ head_of k → n ≡ head_word h → n ≡ head_place k
head_found k h n e f = f ∙ ap head_word e

module _ {E : ℕ} (e : E ≤ most_entities) where
  wide : (ρ : RT0Role) → ValidRole E width ρ → ValidRole most_entities width ρ
  wide = role_wider e (le_refl width)

  pub head_valid : (k : Option Record) (c : Credential) → credential_of k ≡ some c → Valid E width c → head_place k ≡ place width (head c)
  head_valid k c q v = head_word_lem (head_of k) (head c) (head_credential k ∙ rw q) (wide (head c) (valid_head E width c v))

  module _ (ws : List ℕ) where
    part : (ρ : Role) → ValidRole E width (role_of ρ) → word_of ws ρ.entity ρ.name ≡ word_at width ws (role_of ρ)
    part ρ v = word_valid ws (role_of ρ) (wide (role_of ρ) v)

    abbrev Gives : Option Record → Credential → Type 0
    Gives k c = Valid E width c → give_of E ws k ≡ give_word E width ws c

    link_form : (h : Role) (r1 r2 : ℕ) → Gives (Some (variant.Link h r1 r2)) (role_of h ⟵ link r1 r2)
    unfolding give_of give_word
    link_form h r1 r2 v =
        let least : min E most_entities ≡ E = omega arith in
        let (entity, name) = wide (h.entity · r1) (v.0.0, v.1.0) in
        rw (least, word_valid ws (h.entity · r1) (entity, name), link_valid ws (word_at width ws (h.entity · r1)) r2 v.1.1 E e)

    pub give_valid : (k : Option Record) (c : Credential) → credential_of k ≡ some c → Valid E width c → give_of E ws k ≡ give_word E width ws c
    unfolding give_of give_word single_of meet_word
    give_valid (Some (variant.Entity h B)) c q = subst (Gives (Some (variant.Entity h B))) (some-injective _ c q)
        (λ v. rw (inside_flag most_entities B v.1.above (omega arith)))
    give_valid (Some (variant.Role h ρ)) c q = subst (Gives (Some (variant.Role h ρ))) (some-injective _ c q) (λ v. part ρ v.1)
    give_valid (Some (variant.Link h r1 r2)) c q = subst (Gives (Some (variant.Link h r1 r2))) (some-injective _ c q) (link_form h r1 r2)
    give_valid (Some (variant.TwoParts h ρ σ)) c q = subst (Gives (Some (variant.TwoParts h ρ σ))) (some-injective _ c q) (λ v.
        rw (part ρ (v.1.2 (role_of ρ) (Memᴰ.head refl)), part σ (v.1.2 (role_of σ) (Memᴰ.tail (Memᴰ.head refl)))))
    give_valid (Some (variant.ThreeParts h ρ σ τ)) c q = subst (Gives (Some (variant.ThreeParts h ρ σ τ))) (some-injective _ c q) (λ v.
        rw (
          part ρ (v.1.2 (role_of ρ) (Memᴰ.head refl)),
          part σ (v.1.2 (role_of σ) (Memᴰ.tail (Memᴰ.head refl))),
          part τ (v.1.2 (role_of τ) (Memᴰ.tail (Memᴰ.tail (Memᴰ.head refl)))),
        ))
    give_valid None c q = absurd (none-ne-some c q)

    pub use_valid : (acc : List ℕ) (k : Option Record) (c : Credential) → credential_of k ≡ some c → Valid E width c
        → use_record E ws acc k ≡ use_word E width ws acc c
    unfolding use_word
    use_valid acc k c q v = rw (head_valid k c q v, give_valid k c q v)
