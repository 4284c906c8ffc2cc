-- The link from words to tables: one round on the words shows one round of RT0's tables.
-- B is the number of entities that the table has words for, E of them the bundle's; R of an entity's W words are the bundle's.
use Prim.Native.Nat.{ℕ, zero, suc, ◌+◌, ◌-◌, ◌*◌, ◌/◌, ◌%◌, ◌^◌, ◌<◌, ◌≤◌}
use native.Mathlib.Nat.{mul_comm, zero-mul, mod-lt, div-lt_iff_lt-mul, div-add-mod}
use native.Mathlib.Numerals.{sub-one}
use native.Mathlib.Decide.{ℕ_discrete}
use native.Mathlib.Omega.{arith}
use mathlib.Core.Path.{◌≡◌, refl, sym, ap, ap₂, ◌∙◌, subst}
use mathlib.Core.Bool.{true}
use mathlib.Core.Logic.Iff
use mathlib.Core.Logic.{◌↔◌, ◌⊎◌, inl, inr, ⊎_elim}
use mathlib.Core.List.Memᴰ
use mathlib.Core.List.{List, ◌++◌, ◌∷◌, []}
use lib.ListN.{length, get_or, set, length-set}
use lib.Seq.{get_or-set_same, get_or-set_other, ext_get_or}
use lib.Bits.{bit_or, or_lt}
use lib.Pow.{pow_pos, pow-lt}
use lib.Arith.{digits_lt, digits_div, digits_mod}
use Rattle.rt0.specs.Credential.{Role, ◌·◌, entity, role, link, intersection, Credential, ◌⟵◌, head, ◌∈◌}
use Rattle.rt0.specs.Credential.{AllValid, Valid, ValidRole, IsEntity, IsName}
use Rattle.rt0.specs.Membership.{Assignment, Gives}
use Rattle.rt0.specs.Table.{table, next, Same}
use Rattle.rt0.specs.Completion.{Open}
use Rattle.rt0.specs.Word.{bit, place, word_at, give_word, use_word, use_words, round_words, times_words, none_words, open_words}
use Rattle.rt0.specs.Word.{everyone_word, open_within, Shows, Fits}
use Rattle.rt0.proofs.Bits.{bit_zero, bit_or_lem, bit_power, bits_same}
use Rattle.rt0.proofs.Words.{sum_iff, entity_wider, link_bit, meet_bit, link_small, meet_small, set_small}
use Rattle.rt0.proofs.Words.{none_length, none_at, everyone_bit, open_length, open_small, open_at, within_open}
use Rattle.rt0.proofs.Least.{valid_head, member_within}
use Rattle.rt0.proofs.Tables.{table_grows, table_member}

-- the members that an assignment has are within the bundle's entities and names
abbrev pub Within : ℕ → ℕ → Assignment → Type 0
Within E R P = (ρ : Role) (D : ℕ) → P ρ D → ValidRole E R ρ × IsEntity E D

pub table_within : (E R : ℕ) (cs : List Credential) → AllValid E R cs → (n : ℕ) → Within E R (table cs n)
table_within E R cs v n ρ D t = member_within E R cs v ρ D (table_member cs n ρ D t)

-- one credential more, at the end
pub use_words_snoc : (E W : ℕ) (ws acc : List ℕ) (cs : List Credential) (c : Credential)
    → use_words E W ws acc (cs ++ (c ∷ [])) ≡ use_word E W ws (use_words E W ws acc cs) c
unfolding use_words
use_words_snoc E W ws acc [] c = refl
use_words_snoc E W ws acc (k ∷ cs) c = use_words_snoc E W ws (use_word E W ws acc k) cs c

-- ---- a role's word is one of the table's, and two roles have two words

place_digits : (W A r : ℕ) → place W (A · r) ≡ (A - 1) * W + (r - 1)
place_digits W A r = ap (λ (n : ℕ). n + (r - 1)) (mul_comm W (A - 1))

pub place_within : (B W A r : ℕ) → IsEntity B A → IsName W r → place W (A · r) < W * B
place_within B W A r a n =
    let h : (A - 1) * W + (r - 1) < B * W = digits_lt {q = A - 1} {m = B} (omega arith) (omega arith) in
    rw (place_digits W A r, mul_comm W B) h

-- a role is found again from the number of its word
place_back : (B W A r : ℕ) → IsEntity B A → IsName W r → (suc (place W (A · r) / W) ≡ A) × (suc (place W (A · r) % W) ≡ r)
place_back B W A r a n =
    let l : r - 1 < W = omega arith in
    let q : place W (A · r) / W ≡ A - 1 = rw (place_digits W A r) (digits_div (A - 1) l) in
    let m : place W (A · r) % W ≡ r - 1 = rw (place_digits W A r) (digits_mod (A - 1) l) in
    omega arith

pub place_inj : (B W A r A' r' : ℕ) → IsEntity B A → IsName W r → IsEntity B A' → IsName W r'
    → place W (A · r) ≡ place W (A' · r') → (A ≡ A') × (r ≡ r')
place_inj B W A r A' r' a n a' n' e = (
  sym (place_back B W A r a n).0 ∙ ap (λ (i : ℕ). suc (i / W)) e ∙ (place_back B W A' r' a' n').0,
  sym (place_back B W A r a n).1 ∙ ap (λ (i : ℕ). suc (i % W)) e ∙ (place_back B W A' r' a' n').1,
)

-- word i is the word of a role
pub place_of_lem : (B W i : ℕ) → i < W * B → IsEntity B (suc (i / W)) × IsName W (suc (i % W)) × (place W (suc (i / W) · suc (i % W)) ≡ i)
place_of_lem B zero i h = absurd (omega (arith, zero-mul B))
place_of_lem B (suc w) i h =
    let W : ℕ = suc w in
    let p : 0 < W = omega arith in
    let q : i / W < B = (div-lt_iff_lt-mul p).1 (rw mul_comm at h) in
    let m : i % W < W = mod-lt i p in
    (omega arith, omega arith, rw (sub-one (suc (i / W)), sub-one (suc (i % W))) (div-add-mod i W))

-- ---- the same at a role that is not taken apart

name_wider : {R W n : ℕ} → R ≤ W → IsName R n → IsName W n
name_wider h a = omega arith

role_wider : {E R B W : ℕ} → E ≤ B → R ≤ W → (ρ : Role) → ValidRole E R ρ → ValidRole B W ρ
role_wider e r (A · n) v = (entity_wider e v.0, name_wider r v.1)

role_within : (B W : ℕ) (ρ : Role) → ValidRole B W ρ → place W ρ < W * B
role_within B W (A · n) v = place_within B W A n v.0 v.1

role_inj : (B W : ℕ) (ρ σ : Role) → ValidRole B W ρ → ValidRole B W σ → place W ρ ≡ place W σ → ρ ≡ σ
role_inj B W (A · n) (A' · n') v v' e =
    let q : (A ≡ A') × (n ≡ n') = place_inj B W A n A' n' v.0 v.1 v'.0 v'.1 e in
    ap₂ ◌·◌ q.0 q.1

role_shows : (B W : ℕ) (ws : List ℕ) (P : Assignment) → Shows B W ws P → (ρ : Role) → ValidRole B W ρ
    → (D : ℕ) → IsEntity B D → (bit (word_at W ws ρ) (D - 1) ≡ 1) ↔ P ρ D
role_shows B W ws P s (A · n) v D d = s A n D v.0 v.1 d

-- ---- one word changed

-- words that show P show every assignment with the same members
pub shows_as : (B W : ℕ) (ws : List ℕ) (P Q : Assignment) → Same Q P → Shows B W ws P → Shows B W ws Q
shows_as B W ws P Q h s A n D a m d = Iff.trans (s A n D a m d) (Iff.symm (h (A · n) D))

-- a sum whose second part never holds
sum_first : {A B : Type 0} → (B → ⊥) → (A ⊎ B) ↔ A
sum_first h = (⊎_elim (λ a. a) (λ b. absurd (h b)), inl)

-- a word g that shows G, added to the word of the role ρ, adds G to ρ and nothing to the other roles
module _ (B W : ℕ) (acc : List ℕ) (Q : Assignment) (size : length acc ≡ W * B) (s : Shows B W acc Q)
    (ρ : Role) (v : ValidRole B W ρ) (g : ℕ) (G : ℕ → Type 0) (h : (D : ℕ) → IsEntity B D → (bit g (D - 1) ≡ 1) ↔ G D) where
  abbrev added : List ℕ
  added = set acc (place W ρ) (bit_or (word_at W acc ρ) g)

  added_here : (D : ℕ) → IsEntity B D → (bit (word_at W added ρ) (D - 1) ≡ 1) ↔ (Q ρ D ⊎ ((ρ ≡ ρ) × G D))
  added_here D d =
      rw (get_or-set_same acc (place W ρ) (bit_or (word_at W acc ρ) g) 0 (rw size (role_within B W ρ v)))
      (Iff.trans (bit_or_lem (word_at W acc ρ) g (D - 1)) (sum_iff (role_shows B W acc Q s ρ v D d) given))
    where
      given : (bit g (D - 1) ≡ 1) ↔ ((ρ ≡ ρ) × G D)
      given = Iff.trans (h D d) (λ x. (refl, x), λ x. x.1)

  added_at : (σ : Role) → ValidRole B W σ → Dec (place W σ ≡ place W ρ)
      → (D : ℕ) → IsEntity B D → (bit (word_at W added σ) (D - 1) ≡ 1) ↔ (Q σ D ⊎ ((ρ ≡ σ) × G D))
  added_at σ u (yes e) D d = rw (role_inj B W σ ρ u v e) (added_here D d)
  added_at σ u (no f) D d =
      rw (get_or-set_other acc (place W ρ) (place W σ) (bit_or (word_at W acc ρ) g) 0 f)
      (Iff.trans (role_shows B W acc Q s σ u D d) (Iff.symm (sum_first (λ x. f (ap (place W) (sym x.0))))))

  added_shows : Shows B W added (λ σ D. Q σ D ⊎ ((ρ ≡ σ) × G D))
  added_shows A n D a m d = added_at (A · n) (a, m) (ℕ_discrete (place W (A · n)) (place W ρ)) D d

-- ---- one use of each credential, one after the other

-- what one use of the credential c gives
abbrev once : Credential → Assignment → Assignment
once c P ρ D = (head c ≡ ρ) × Gives P c D

-- what there is and what one use of each of c ∷ cs gives: that of c, then that of each of cs
next_cons : (c : Credential) (cs : List Credential) (P Q : Assignment) (ρ : Role) (D : ℕ)
    → (Q ρ D ⊎ next (c ∷ cs) P ρ D) ↔ ((Q ρ D ⊎ once c P ρ D) ⊎ next cs P ρ D)
next_cons c cs P Q ρ D = (⊎_elim (λ q. inl (inl q)) (λ h. split h.0 (Memᴰ.cases_cons h.1) (h.2, h.3)), join)
  where
    join : (Q ρ D ⊎ once c P ρ D) ⊎ next cs P ρ D → Q ρ D ⊎ next (c ∷ cs) P ρ D
    join (inl (inl q)) = inl q
    join (inl (inr g)) = inr (c, Memᴰ.head refl, g.0, g.1)
    join (inr h) = inr (h.0, Memᴰ.tail h.1, h.2, h.3)

    split : (k : Credential) → (k ≡ c) ⊎ (k ∈ cs) → once k P ρ D → (Q ρ D ⊎ once c P ρ D) ⊎ next cs P ρ D
    split k (inl e) g = inl (inr (subst (λ (x : Credential). once x P ρ D) e g))
    split k (inr i) g = inr (k, i, g.0, g.1)

module _ (E R B W : ℕ) (e : E ≤ B) (r : R ≤ W) where
  -- what one use of a credential gives, as a word
  pub give_shows : (ws : List ℕ) (P : Assignment) → Fits E B W ws → Shows B W ws P → Within E R P → (c : Credential) → Valid E R c
      → (D : ℕ) → IsEntity B D → (bit (give_word E W ws c) (D - 1) ≡ 1) ↔ Gives P c D
  unfolding give_word
  give_shows ws P f s w (A · n ⟵ entity X) v D d =
      (λ b. omega (arith, (bit_power (X - 1) (D - 1)).0 b), λ q. (bit_power (X - 1) (D - 1)).1 (omega arith))
  give_shows ws P f s w (A · n ⟵ role ρ) v D d = role_shows B W ws P s ρ (role_wider e r ρ v.1) D d
  give_shows ws P f s w (A · n ⟵ link r1 r2) v D d =
      Iff.trans (link_bit W ws (word_at W ws (A · r1)) r2 (D - 1) E) (
        λ h. (h.0, (first h.0 h.1).0 h.2, (second h.0 h.1).0 h.3),
        λ g. let x : IsEntity E g.0 = (w (A · r1) g.0 g.1).1 in
            (g.0, x, (first g.0 x).1 g.1, (second g.0 x).1 g.2),
      )
    where
      first : (X : ℕ) → IsEntity E X → (bit (word_at W ws (A · r1)) (X - 1) ≡ 1) ↔ P (A · r1) X
      first X x = s A r1 X (entity_wider e v.0.0) (name_wider r v.1.0) (entity_wider e x)

      second : (X : ℕ) → IsEntity E X → (bit (word_at W ws (X · r2)) (D - 1) ≡ 1) ↔ P (X · r2) D
      second X x = s X r2 D (entity_wider e x) (name_wider r v.1.1) d
  give_shows ws P f s w (A · n ⟵ intersection []) v D d = absurd (omega arith)
  give_shows ws P f s w (A · n ⟵ intersection (ρ ∷ ρs)) v D d =
      Iff.trans (meet_bit W ws ρ ρs (D - 1)) (λ h σ i. (part σ i).0 (h σ i), λ g σ i. (part σ i).1 (g σ i))
    where
      part : (σ : Role) → σ ∈ (ρ ∷ ρs) → (bit (word_at W ws σ) (D - 1) ≡ 1) ↔ P σ D
      part σ i = role_shows B W ws P s σ (role_wider e r σ (v.1.2 σ i)) D d

  pub give_small : (ws : List ℕ) → Fits E B W ws → (c : Credential) → Valid E R c → give_word E W ws c < 2 ^ E
  unfolding give_word
  give_small ws f (A · n ⟵ entity X) v = pow-lt (omega arith)
  give_small ws f (A · n ⟵ role ρ) v = f.small (place W ρ)
  give_small ws f (A · n ⟵ link r1 r2) v = link_small E W ws f.small (word_at W ws (A · r1)) r2 E
  give_small ws f (A · n ⟵ intersection parts) v = meet_small E W ws f.small parts

  -- from the words ws, which show P: one use of a credential, and of each of a list, on words acc that show Q
  module _ (ws : List ℕ) (f : Fits E B W ws) where
    use_fits : (acc : List ℕ) → Fits E B W acc → (c : Credential) → Valid E R c → Fits E B W (use_word E W ws acc c)
    unfolding use_word
    use_fits acc g c v =
        let p : ℕ = place W (head c) in
        record {
          size = length-set acc p _ ∙ g.size;
          small = set_small (2 ^ E) acc p _ g.small (or_lt E _ _ (g.small p) (give_small ws f c v));
        }

    uses_fit : (acc : List ℕ) → Fits E B W acc → (cs : List Credential) → AllValid E R cs → Fits E B W (use_words E W ws acc cs)
    unfolding use_words
    uses_fit acc g [] v = g
    uses_fit acc g (c ∷ cs) v =
        uses_fit (use_word E W ws acc c) (use_fits acc g c (v c (Memᴰ.head refl))) cs (λ k i. v k (Memᴰ.tail i))

    module _ (P : Assignment) (s : Shows B W ws P) (w : Within E R P) where
      use_shows : (acc : List ℕ) (Q : Assignment) → Fits E B W acc → Shows B W acc Q → (c : Credential) → Valid E R c
          → Shows B W (use_word E W ws acc c) (λ ρ D. Q ρ D ⊎ once c P ρ D)
      unfolding use_word
      use_shows acc Q g t c v =
          added_shows B W acc Q g.size t (head c) (role_wider e r (head c) (valid_head E R c v))
          (give_word E W ws c) (Gives P c) (give_shows ws P f s w c v)

      uses_show : (acc : List ℕ) (Q : Assignment) → Fits E B W acc → Shows B W acc Q → (cs : List Credential) → AllValid E R cs
          → Shows B W (use_words E W ws acc cs) (λ ρ D. Q ρ D ⊎ next cs P ρ D)
      unfolding use_words
      uses_show acc Q g t [] v = shows_as B W acc Q _ (λ ρ D. sum_first (λ (h : next [] P ρ D). Memᴰ.not-nil h.1)) t
      uses_show acc Q g t (c ∷ cs) v =
          let acc' : List ℕ = use_word E W ws acc c in
          let Q' : Assignment = λ ρ D. Q ρ D ⊎ once c P ρ D in
          let k : Valid E R c = v c (Memᴰ.head refl) in
          let shown = uses_show acc' Q' (use_fits acc g c k) (use_shows acc Q g t c k) cs (λ k i. v k (Memᴰ.tail i)) in
          shows_as B W (use_words E W ws acc' cs) _ _ (next_cons c cs P Q) shown

  pub round_fits : (cs : List Credential) → AllValid E R cs → (ws : List ℕ) → Fits E B W ws → Fits E B W (round_words E W cs ws)
  unfolding round_words
  round_fits cs v ws f = uses_fit ws f ws f cs v

  pub round_shows : (cs : List Credential) → AllValid E R cs → (ws : List ℕ) (P : Assignment)
      → Fits E B W ws → Shows B W ws P → Within E R P → Shows B W (round_words E W cs ws) (λ ρ D. P ρ D ⊎ next cs P ρ D)
  unfolding round_words
  round_shows cs v ws P f s w = uses_show ws f P s w ws P f s cs v

  pub none_fits : Fits E B W (none_words (W * B))
  none_fits = record { size = none_length (W * B); small = λ i. rw (none_at (W * B) i) (pow_pos E) }

  pub open_fits : (is_open : Open) → Fits E B W (open_words E R W is_open (W * B))
  open_fits is_open = record { size = open_length E R W is_open (W * B); small = open_small E R W is_open (W * B) }

  pub open_shows : (is_open : Open)
      → Shows B W (open_words E R W is_open (W * B)) (λ ρ D. ValidRole E R ρ × (is_open ρ ≡ true) × IsEntity E D)
  open_shows is_open A n D a m d =
      rw word (
        λ b. let h : (open_within E R is_open (A · n) ≡ true) × (D - 1 < E) = (everyone_bit E _ (D - 1)).0 b in
            let k : (A ≤ E) × (n ≤ R) × (is_open (A · n) ≡ true) = (within_open E R is_open A n).0 h.0 in
            (omega arith, k.2, omega arith),
        λ h. (everyone_bit E _ (D - 1)).1 ((within_open E R is_open A n).1 (h.0.0.within, h.0.1.within, h.1), omega arith),
      )
    where
      word : word_at W (open_words E R W is_open (W * B)) (A · n) ≡ everyone_word E (open_within E R is_open (A · n))
      word =
          open_at E R W is_open (W * B) (place W (A · n)) (place_within B W A n a m)
          ∙ ap₂ (λ (x y : ℕ). everyone_word E (open_within E R is_open (x · y))) (place_back B W A n a m).0 (place_back B W A n a m).1

  pub times_fits : (cs : List Credential) → AllValid E R cs → (n : ℕ) (start : List ℕ)
      → Fits E B W start → Fits E B W (times_words E W cs n start)
  unfolding times_words
  times_fits cs v zero start f = f
  times_fits cs v (suc n) start f = round_fits cs v (times_words E W cs n start) (times_fits cs v n start f)

  -- n rounds from nobody show table n
  pub times_shows : (cs : List Credential) → AllValid E R cs → (n : ℕ) → Shows B W (times_words E W cs n (none_words (W * B))) (table cs n)
  unfolding times_words table
  times_shows cs v zero =
      λ A n D a m d. rw (none_at (W * B) (place W (A · n))) (λ b. omega (arith, bit_zero (D - 1)), λ t. absurd t)
  times_shows cs v (suc n) =
      let none : List ℕ = none_words (W * B) in
      let before : List ℕ = times_words E W cs n none in
      let fits : Fits E B W before = times_fits cs v n none none_fits in
      shows_as B W (round_words E W cs before) _ _ (λ ρ D. (inr, ⊎_elim (table_grows cs n ρ D) (λ t. t)))
      (round_shows cs v before (table cs n) fits (times_shows cs v n) (table_within E R cs v n))

  -- words that show the same assignment are equal
  pub shows_same : (ws vs : List ℕ) (P : Assignment) → Fits E B W ws → Fits E B W vs → Shows B W ws P → Shows B W vs P → ws ≡ vs
  shows_same ws vs P f g s t = ext_get_or 0 ws vs (f.size ∙ sym g.size) same
    where
      same_bits : (i d : ℕ) → i < W * B → d < E → (bit (get_or ws i 0) d ≡ 1) ↔ (bit (get_or vs i 0) d ≡ 1)
      same_bits i d h l =
          let (a, n, p) = place_of_lem B W i h in
          let x : IsEntity B (suc d) = omega arith in
          rw (sub-one (suc d), p) at (Iff.trans (s _ _ (suc d) a n x) (Iff.symm (t _ _ (suc d) a n x)))

      same : (i : ℕ) → i < length ws → get_or ws i 0 ≡ get_or vs i 0
      same i h = bits_same E (get_or ws i 0) (get_or vs i 0) (f.small i) (g.small i) (λ d l. same_bits i d (rw (← f.size) h) l)
