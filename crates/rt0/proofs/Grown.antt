-- An assignment after n rounds in which each role keeps what it has: what the words show after n rounds from words that show the
-- assignment. Once a round adds nothing it is the least closed assignment that contains the first.
use Prim.Native.Nat.{ℕ, zero, suc, ◌≤◌}
use native.Mathlib.Omega.{arith}
use mathlib.Core.Path.{refl}
use mathlib.Core.Logic.{◌⊎◌, inl, inr}
use mathlib.Core.List.{List}
use Rattle.rt0.specs.Credential.{Role, ◌·◌, Credential, head, AllValid, ValidRole, IsEntity}
use Rattle.rt0.specs.Membership.{Assignment, Closed}
use Rattle.rt0.specs.Table.{next}
use Rattle.rt0.specs.Word.{times_words, Shows, Fits}
use Rattle.rt0.proofs.Least.{gives_more, valid_head, gives_entity}
use Rattle.rt0.proofs.Shown.{Within, round_shows, times_fits}

-- where the same words show P and Q, what P holds within the entities and names Q holds too
pub shown_into : (E R B W : ℕ) → E ≤ B → R ≤ W → (ws : List ℕ) (P Q : Assignment) → Shows B W ws P → Shows B W ws Q → Within E R P
    → (ρ : Role) (D : ℕ) → P ρ D → Q ρ D
shown_into E R B W e r ws P Q p q w (A · s) D h =
    let within : ValidRole E R (A · s) × IsEntity E D = w (A · s) D h in
    (q A s D (omega arith) (omega arith) (omega arith)).0 ((p A s D (omega arith) (omega arith) (omega arith)).1 h)

-- S after n rounds
pub grown : List Credential → Assignment → ℕ → Assignment
grown cs S zero ρ D = S ρ D
grown cs S (suc n) ρ D = grown cs S n ρ D ⊎ next cs (grown cs S n) ρ D

pub grown_keeps : (cs : List Credential) (S : Assignment) (n : ℕ) (ρ : Role) (D : ℕ) → S ρ D → grown cs S n ρ D
unfolding grown
grown_keeps cs S zero ρ D s = s
grown_keeps cs S (suc n) ρ D s = inl (grown_keeps cs S n ρ D s)

-- what a round adds is there after one round more, so S after n rounds is closed if that adds nothing
pub grown_closed : (cs : List Credential) (S : Assignment) (n : ℕ)
    → ((ρ : Role) (D : ℕ) → grown cs S (suc n) ρ D → grown cs S n ρ D) → Closed cs (grown cs S n)
unfolding grown
grown_closed cs S n h c i D g = h (head c) D (inr (c, i, refl, g))

-- what is closed and contains S contains S after n rounds
pub grown_least : (cs : List Credential) (S Q : Assignment) → Closed cs Q → ((ρ : Role) (D : ℕ) → S ρ D → Q ρ D)
    → (n : ℕ) (ρ : Role) (D : ℕ) → grown cs S n ρ D → Q ρ D
unfolding grown
grown_least cs S Q c h zero ρ D s = h ρ D s
grown_least cs S Q c h (suc n) ρ D (inl s) = grown_least cs S Q c h n ρ D s
grown_least cs S Q c h (suc n) ρ D (inr (k, i, q, g)) = rw (← q) (c k i D (gives_more k (grown cs S n) Q (grown_least cs S Q c h n) D g))

module _ (E R B W : ℕ) (e : E ≤ B) (r : R ≤ W) (cs : List Credential) (v : AllValid E R cs) (S : Assignment) (w : Within E R S) where
  pub grown_within : (n : ℕ) → Within E R (grown cs S n)
  unfolding grown
  grown_within zero ρ D s = w ρ D s
  grown_within (suc n) ρ D (inl s) = grown_within n ρ D s
  grown_within (suc n) ρ D (inr (k, i, q, g)) =
      (rw (← q) (valid_head E R k (v k i)), gives_entity E R k (grown cs S n) (v k i) (λ σ X s. (grown_within n σ X s).1) D g)

  -- n rounds from words that show S
  pub grown_shows : (start : List ℕ) → Fits E B W start → Shows B W start S → (n : ℕ) → Shows B W (times_words E W cs n start) (grown cs S n)
  unfolding grown times_words
  grown_shows start f s zero = s
  grown_shows start f s (suc n) = round_shows E R B W e r cs v (times_words E W cs n start) (grown cs S n)
      (times_fits E R B W e r cs v n start f) (grown_shows start f s n) (grown_within n)
