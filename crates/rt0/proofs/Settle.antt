-- The rounds come to rest: each that changes anything adds a member to some head, so there are at most E for each distinct head.
-- The words at rest show the members, or with everyone in the open roles the possible members. So the number of rounds exists,
-- membership and possibility are decided, and exactly one of YES, NO and UNSURE holds.
use Prim.Native.Nat.{ℕ, zero, suc, ◌+◌, ◌-◌, ◌*◌, ◌<◌, ◌≤◌}
use native.Mathlib.Nat.{le_refl, not-suc-le-zero}
use native.Mathlib.Decide.{dec_le, dec_lt, map_dec}
use native.Mathlib.Omega.{arith}
use mathlib.Core.Path.{◌≡◌, refl, sym, ◌∙◌}
use mathlib.Core.Bool.{true, false, cond}
use mathlib.Core.Logic.Dec
use mathlib.Core.Logic.{◌↔◌, ◌⊎◌, inl, inr, ⊎_elim, by_cases}
use mathlib.Core.List.Memᴰ
use mathlib.Core.List.{List, ◌++◌}
use lib.ListN.{length, get_or}
use lib.Seq.{ext_get_or}
use Rattle.rt0.specs.Credential.{Role, ◌·◌, Credential, head, ◌∈◌, AllValid, ValidRole, IsEntity, IsName}
use Rattle.rt0.specs.Membership.{Assignment, Member}
use Rattle.rt0.specs.Table.{table, Same, Stable, Rounds, distinct_heads}
use Rattle.rt0.specs.Completion.{Open, Yes, No, Verdict, YES, NO, UNSURE, Answers, IsPossible}
use Rattle.rt0.specs.Word.{bit, word_at, place, round_words, times_words, none_words, open_words, Settled, Shows, Fits}
use Rattle.rt0.proofs.Least.{member_within}
use Rattle.rt0.proofs.Tables.{table_grows, stable_member, rounds_unique}
use Rattle.rt0.proofs.Possible.{Possible, fullest, fullest_completion, is_possible}
use Rattle.rt0.proofs.Possible.{answer_from, answer_right, yes_not_no, nothing_open_within}
use Rattle.rt0.proofs.Bits.{bit_cases}
use Rattle.rt0.proofs.Shown.{Within, table_within, shows_as, shows_same}
use Rattle.rt0.proofs.Shown.{round_fits, none_fits, open_fits, open_shows, times_fits, times_shows}
use Rattle.rt0.proofs.Tests.{true_or_false, same_words, same_words_lem, words_differ}
use Rattle.rt0.proofs.Count.{total, total_most, total_kept}
use Rattle.rt0.proofs.Heads.{head_distinct}
use Rattle.rt0.proofs.Rounding.{Keeps, OfHead, round_keeps, round_changes, missing, missing_most, missing_lower, missing_kept}
use Rattle.rt0.proofs.Grown.{shown_into, grown, grown_keeps, grown_closed, grown_least, grown_within, grown_shows}

-- how many more members the heads could get: what falls with each round that changes anything
pub room : ℕ → ℕ → List Credential → List ℕ → ℕ
room E W cs ws = total (λ ρ. missing E (word_at W ws ρ)) (distinct_heads cs)

pub room_most : (E W : ℕ) (cs : List Credential) (ws : List ℕ) → room E W cs ws ≤ E * length (distinct_heads cs)
unfolding room
room_most E W cs ws = total_most (λ ρ. missing E (word_at W ws ρ)) E (λ ρ. missing_most E (word_at W ws ρ)) (distinct_heads cs)

-- each of the first n rounds changes something
abbrev Moving : ℕ → ℕ → List Credential → List ℕ → ℕ → Type 0
Moving E W cs start n = (m : ℕ) → m < n → times_words E W cs (suc m) start ≡ times_words E W cs m start → ⊥

moving_more : (E W : ℕ) (cs : List Credential) (start : List ℕ) (n : ℕ) → Moving E W cs start n
    → (times_words E W cs (suc n) start ≡ times_words E W cs n start → ⊥) → Moving E W cs start (suc n)
moving_more E W cs start n h d m l = by_cases (dec_lt m n) (h m) (λ k. let q : m ≡ n = omega arith in rw q d)

settled_still : (E W : ℕ) (cs : List Credential) (start : List ℕ) (n : ℕ) (ws : List ℕ)
    → Settled E W cs start n ws → times_words E W cs (suc n) start ≡ times_words E W cs n start
unfolding times_words
settled_still E W cs start n ws s = rw s.reached at s.still

-- where the words come to rest, and after how many rounds
pub record Rest : Type 0 where
  pub rounds : ℕ
  pub words : List ℕ

-- round after round until the words are at rest, for at most so many rounds more, n being done
unfoldable pub settle_words : ℕ → ℕ → List Credential → ℕ → ℕ → List ℕ → Rest
settle_words E W cs zero n ws = record { rounds = n; words = ws }
settle_words E W cs (suc more) n ws =
    let vs = round_words E W cs ws in
    let later = settle_words E W cs more (suc n) vs in
    cond (same_words vs ws) (record { rounds = n; words = ws }) later

-- the words after n rounds from nobody
abbrev from_nobody : ℕ → ℕ → ℕ → List Credential → ℕ → List ℕ
from_nobody E B W cs n = times_words E W cs n (none_words (W * B))

module _ (E R B W : ℕ) (e : E ≤ B) (r : R ≤ W) (cs : List Credential) (v : AllValid E R cs) where
  -- a round in which the room does not fall changes nothing
  room_kept : (ws : List ℕ) → Fits E B W ws → room E W cs ws ≤ room E W cs (round_words E W cs ws) → round_words E W cs ws ≡ ws
  unfolding room
  room_kept ws f h =
      ext_get_or 0 (round_words E W cs ws) ws (g.size ∙ sym f.size) (λ i l. ⊎_elim (λ q. q) (same i) (round_changes E W cs ws i))
    where
      g : Fits E B W (round_words E W cs ws)
      g = round_fits E R B W e r cs v ws f

      before : Role → ℕ
      before ρ = word_at W ws ρ

      after : Role → ℕ
      after ρ = word_at W (round_words E W cs ws) ρ

      keeps : (ρ : Role) → Keeps (before ρ) (after ρ)
      keeps ρ = round_keeps E W cs ws (place W ρ)

      same_missing : (ρ : Role) → ρ ∈ distinct_heads cs → missing E (after ρ) ≡ missing E (before ρ)
      same_missing = total_kept (λ ρ. missing E (after ρ)) (λ ρ. missing E (before ρ))
          (λ ρ. missing_lower E (before ρ) (after ρ) (keeps ρ)) (distinct_heads cs) h

      same : (i : ℕ) → OfHead W cs i → get_or (round_words E W cs ws) i 0 ≡ get_or ws i 0
      same i (c, k, q) = rw q (missing_kept E (before (head c)) (after (head c)) (f.small (place W (head c))) (g.small (place W (head c)))
          (keeps (head c)) (same_missing (head c) (head_distinct cs c k)))

  pub room_falls : (ws : List ℕ) → Fits E B W ws → (round_words E W cs ws ≡ ws → ⊥) → room E W cs (round_words E W cs ws) < room E W cs ws
  room_falls ws f h =
      by_cases (dec_lt (room E W cs (round_words E W cs ws)) (room E W cs ws)) (λ l. l) (λ n. absurd (h (room_kept ws f (omega arith))))

  -- every round that changes something takes from the room
  times_room : (start : List ℕ) → Fits E B W start → (n : ℕ) → Moving E W cs start n
      → room E W cs (times_words E W cs n start) + n ≤ room E W cs start
  unfolding times_words
  times_room start f zero h = omega arith
  times_room start f (suc n) h =
      let k : room E W cs (times_words E W cs n start) + n ≤ room E W cs start = times_room start f n (λ m l. h m (omega arith)) in
      omega (arith, room_falls (times_words E W cs n start) (times_fits E R B W e r cs v n start f) (h n (le_refl (suc n))))

  -- so many rounds that each change something are too many
  pub moving_few : (start : List ℕ) → Fits E B W start → (n : ℕ)
      → ((m : ℕ) → m < n → times_words E W cs (suc m) start ≡ times_words E W cs m start → ⊥)
      → n ≤ E * length (distinct_heads cs)
  moving_few start f n h = omega (arith, times_room start f n h, room_most E W cs start)

  -- settle_words stops at rest if it may go on for as many rounds as there is room
  settled_from : (start : List ℕ) → Fits E B W start → (more n : ℕ) → Moving E W cs start n → room E W cs (times_words E W cs n start) ≤ more
      → (let s : Rest = settle_words E W cs more n (times_words E W cs n start) in Settled E W cs start s.rounds s.words)
  unfolding settle_words times_words
  settled_from start f zero n h l =
      let fits = times_fits E R B W e r cs v n start f in
      record { reached = refl; still = room_kept (times_words E W cs n start) fits (omega arith); moving = h }
  settled_from start f (suc more) n h l =
      let fits = times_fits E R B W e r cs v n start f in
      let falls = room_falls (times_words E W cs n start) fits in
      let test = true_or_false (same_words (times_words E W cs (suc n) start) (times_words E W cs n start)) in
      ⊎_elim (λ q. rw q (record { reached = refl; still = same_words_lem _ _ q; moving = h })) (λ q. rw q (
      let d = words_differ _ _ q in settled_from start f more (suc n) (moving_more E W cs start n h d) (omega (arith, falls d))
      )) test

  -- settle_words from the first words, with as many rounds allowed as can be needed
  pub settled_by : (start : List ℕ) → Fits E B W start → (more : ℕ) → E * length (distinct_heads cs) ≤ more
      → (let s : Rest = settle_words E W cs more 0 start in Settled E W cs start s.rounds s.words)
  unfolding times_words
  settled_by start f more l = settled_from start f more 0 (λ m z. absurd (not-suc-le-zero z)) (omega (arith, room_most E W cs start))

  -- the words come to rest
  pub settles : (start : List ℕ) → Fits E B W start → (n : ℕ) × (ws : List ℕ) × Settled E W cs start n ws
  settles start f = (_, _, settled_by start f (E * length (distinct_heads cs)) (le_refl (E * length (distinct_heads cs))))

  -- the words at n and n+1 are equal exactly if the tables are
  words_stable : (n : ℕ) → (from_nobody E B W cs (suc n) ≡ from_nobody E B W cs n) ↔ Stable cs n
  words_stable n = (λ q ρ D. (table_grows cs n ρ D, down q ρ D), up)
    where
      shows : (m : ℕ) → Shows B W (from_nobody E B W cs m) (table cs m)
      shows m = times_shows E R B W e r cs v m

      fits : (m : ℕ) → Fits E B W (from_nobody E B W cs m)
      fits m = times_fits E R B W e r cs v m (none_words (W * B)) (none_fits E R B W e r)

      down : from_nobody E B W cs (suc n) ≡ from_nobody E B W cs n → (ρ : Role) (D : ℕ) → table cs (suc n) ρ D → table cs n ρ D
      down q = shown_into E R B W e r (from_nobody E B W cs (suc n)) (table cs (suc n)) (table cs n)
          (shows (suc n)) (rw q (shows n)) (table_within E R cs v (suc n))

      up : Stable cs n → from_nobody E B W cs (suc n) ≡ from_nobody E B W cs n
      up h = shows_same E R B W e r (from_nobody E B W cs (suc n)) (from_nobody E B W cs n) (table cs n) (fits (suc n)) (fits n)
          (shows_as B W (from_nobody E B W cs (suc n)) (table cs (suc n)) (table cs n) h (shows (suc n))) (shows n)

  pub settled_rounds : (n : ℕ) (ws : List ℕ) → Settled E W cs (none_words (W * B)) n ws → Rounds cs n
  settled_rounds n ws s =
      record { equal = (words_stable n).0 (settled_still E W cs _ n ws s); least = λ m l h. s.moving m l ((words_stable m).1 h) }

  pub settled_sure : (n : ℕ) (ws : List ℕ) → Settled E W cs (none_words (W * B)) n ws → Shows B W ws (Member cs)
  settled_sure n ws s = rw s.reached (shows_as B W (from_nobody E B W cs n) (table cs n) (Member cs)
      (stable_member cs n ((words_stable n).0 (settled_still E W cs _ n ws s))) (times_shows E R B W e r cs v n))

  pub settled_possible : (is_open : Open) (n : ℕ) (ws : List ℕ) → Settled E W cs (open_words E R W is_open (W * B)) n ws
      → Shows B W ws (Possible E R is_open cs)
  settled_possible is_open n ws s = rw s.reached (shows_as B W (times n) (grown cs S n) (Possible E R is_open cs) same (shows n))
    where
      S : Assignment
      S ρ D = ValidRole E R ρ × (is_open ρ ≡ true) × IsEntity E D

      possible : IsPossible E R is_open cs (Possible E R is_open cs)
      possible = is_possible E R is_open cs

      within : Within E R S
      within ρ D h = (h.0, h.2)

      times : ℕ → List ℕ
      times m = times_words E W cs m (open_words E R W is_open (W * B))

      shows : (m : ℕ) → Shows B W (times m) (grown cs S m)
      shows = grown_shows E R B W e r cs v S within (open_words E R W is_open (W * B))
          (open_fits E R B W e r is_open) (open_shows E R B W e r is_open)

      adds_nothing : (ρ : Role) (D : ℕ) → grown cs S (suc n) ρ D → grown cs S n ρ D
      adds_nothing = shown_into E R B W e r (times (suc n)) (grown cs S (suc n)) (grown cs S n) (shows (suc n))
          (rw (settled_still E W cs _ n ws s) (shows n)) (grown_within E R B W e r cs v S within (suc n))

      up : (ρ : Role) (D : ℕ) → Possible E R is_open cs ρ D → grown cs S n ρ D
      up = possible.least (grown cs S n) (grown_closed cs S n adds_nothing) (λ ρ i o D d. grown_keeps cs S n ρ D (i, o, d))

      down : (ρ : Role) (D : ℕ) → grown cs S n ρ D → Possible E R is_open cs ρ D
      down = grown_least cs S (Possible E R is_open cs) possible.closed (λ ρ D h. possible.everyone ρ h.0 h.1 D h.2) n

      same : Same (Possible E R is_open cs) (grown cs S n)
      same ρ D = (up ρ D, down ρ D)

entity_decided : (E A : ℕ) → Dec (IsEntity E A)
entity_decided E A = map_dec (λ h. record { above = h.0; within = h.1 }) (λ h. (h.above, h.within)) (Dec.and (dec_le 1 A) (dec_le A E))

name_decided : (R r : ℕ) → Dec (IsName R r)
name_decided R r = map_dec (λ h. record { above = h.0; within = h.1 }) (λ h. (h.above, h.within)) (Dec.and (dec_le 1 r) (dec_le r R))

-- what words show is decided by reading a bit
shown_decided : (E R : ℕ) (ws : List ℕ) (P : Assignment) → Shows E R ws P → Within E R P → (ρ : Role) (D : ℕ) → P ρ D ⊎ (P ρ D → ⊥)
shown_decided E R ws P s w (A · r) D =
    by_cases (Dec.and (Dec.and (entity_decided E A) (name_decided R r)) (entity_decided E D)) read (λ out. inr (λ p. out (w (A · r) D p)))
  where
    read : (IsEntity E A × IsName R r) × IsEntity E D → P (A · r) D ⊎ (P (A · r) D → ⊥)
    read i =
        let shown : (bit (word_at R ws (A · r)) (D - 1) ≡ 1) ↔ P (A · r) D = s A r D i.0.0 i.0.1 i.1 in
        ⊎_elim (λ z. inr (λ p. omega (arith, shown.1 p))) (λ o. inl (shown.0 o)) (bit_cases (word_at R ws (A · r)) (D - 1))

-- over valid credentials, with no words in the statement
module _ (E R : ℕ) (cs : List Credential) (v : AllValid E R cs) where
  nobody_fits : Fits E E R (none_words (R * E))
  nobody_fits = none_fits E R E R (le_refl E) (le_refl R)

  from_nobody_lem : (n : ℕ) × (ws : List ℕ) × Settled E R cs (none_words (R * E)) n ws
  from_nobody_lem = settles E R E R (le_refl E) (le_refl R) cs v (none_words (R * E)) nobody_fits

  nobody_rounds : Rounds cs from_nobody_lem.0
  nobody_rounds = settled_rounds E R E R (le_refl E) (le_refl R) cs v from_nobody_lem.0 from_nobody_lem.1 from_nobody_lem.2

  pub rounds_exist : (n : ℕ) × Rounds cs n
  rounds_exist = (from_nobody_lem.0, nobody_rounds)

  pub rounds_few : (n : ℕ) → Rounds cs n → n ≤ E * length (distinct_heads cs)
  rounds_few n h = rw (rounds_unique cs n from_nobody_lem.0 h nobody_rounds)
      (moving_few E R E R (le_refl E) (le_refl R) cs v (none_words (R * E)) nobody_fits from_nobody_lem.0 from_nobody_lem.2.moving)

  pub member_decided : (ρ : Role) (D : ℕ) → Member cs ρ D ⊎ (Member cs ρ D → ⊥)
  member_decided = shown_decided E R from_nobody_lem.1 (Member cs)
      (settled_sure E R E R (le_refl E) (le_refl R) cs v from_nobody_lem.0 from_nobody_lem.1 from_nobody_lem.2) (member_within E R cs v)

  pub possible_decided : (is_open : Open) (ρ : Role) (D : ℕ) → Possible E R is_open cs ρ D ⊎ (Possible E R is_open cs ρ D → ⊥)
  possible_decided is_open = shown_decided E R settled.1 (Possible E R is_open cs)
      (settled_possible E R E R (le_refl E) (le_refl R) cs v is_open settled.0 settled.1 settled.2)
      (member_within E R (cs ++ fullest E R is_open) all_valid)
    where
      settled : (n : ℕ) × (ws : List ℕ) × Settled E R cs (open_words E R R is_open (R * E)) n ws
      settled = settles E R E R (le_refl E) (le_refl R) cs v (open_words E R R is_open (R * E))
          (open_fits E R E R (le_refl E) (le_refl R) is_open)

      all_valid : AllValid E R (cs ++ fullest E R is_open)
      all_valid c i = ⊎_elim (v c) (λ k. (fullest_completion E R is_open c k).0) (Memᴰ.append_cases cs i)

  -- one of the three words is the answer (and only one: answer_unique)
  pub answered : (is_open : Open) (ρ : Role) (D : ℕ) → (w : Verdict) × Answers E R is_open cs ρ D w
  answered is_open ρ D =
      let s = member_decided ρ D in
      let p = possible_decided is_open ρ D in
      (answer_from s p, answer_right E R is_open cs v ρ D s p)

  -- with nothing open within E and R exactly one of YES and NO holds
  pub yes_or_no : (is_open : Open) → ((ρ : Role) → ValidRole E R ρ → is_open ρ ≡ false) → (ρ : Role) (D : ℕ)
      → (Yes cs ρ D ⊎ No E R is_open cs ρ D) × (Yes cs ρ D → No E R is_open cs ρ D → ⊥)
  yes_or_no is_open h ρ D = (one (answered is_open ρ D), yes_not_no E R is_open cs ρ D)
    where
      one : (w : Verdict) × Answers E R is_open cs ρ D w → Yes cs ρ D ⊎ No E R is_open cs ρ D
      one (YES, a) = inl a
      one (NO, a) = inr a
      one (UNSURE, a) = absurd (nothing_open_within E R is_open h cs ρ D a)
