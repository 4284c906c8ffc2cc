-- Tables as words. A word is a set of entities: D is in it where its bit D − 1 is 1. Role A.r is word W(A − 1) + r − 1,
-- W being the number of words kept for an entity. A round works on whole words; that these words show RT0's tables is a theorem.
use Rattle.std.specs.Prelude.{ℕ, zero, suc, ◌+◌, ◌-◌, ◌*◌, ◌/◌, ◌%◌, ◌^◌, ◌<◌, ◌≡◌, Bool, true, false, ◌&&◌, ◌↔◌, List, [], ◌∷◌, ◌++◌, length, get_or, set, replicate, eqb, leb}
use Rattle.std.specs.Int.Bits.{bit_and, bit_or}
use Rattle.rt0.specs.Credential.{Role, ◌·◌, entity, role, link, intersection, Credential, ◌⟵◌, head, IsEntity, IsName}
use Rattle.rt0.specs.Membership.{Assignment}
use Rattle.rt0.specs.Completion.{Open}

-- bit d of a word, 0 or 1
abbrev pub bit : ℕ → ℕ → ℕ
bit w d = w / 2 ^ d % 2

-- the number of a role's word
abbrev pub place : ℕ → Role → ℕ
place W (A · r) = W * (A - 1) + (r - 1)

abbrev pub word_at : ℕ → List ℕ → Role → ℕ
word_at W ws ρ = get_or ws (place W ρ) 0

abbrev pub pick_word : Bool → ℕ → ℕ → ℕ
pick_word true v w = v
pick_word false v w = w

-- the word of the numbers below n at which a test holds
unfoldable pub bits_below : (ℕ → Bool) → ℕ → ℕ
bits_below holds zero = 0
bits_below holds (suc n) = bit_or (bits_below holds n) (pick_word (holds n) (2 ^ n) 0)

-- every member of X.r2, for every member X up to n of the word w
unfoldable pub link_word : ℕ → List ℕ → ℕ → ℕ → ℕ → ℕ
link_word W ws w r2 zero = 0
link_word W ws w r2 (suc n) = bit_or (link_word W ws w r2 n) (pick_word (eqb (bit w n) 1) (word_at W ws (suc n · r2)) 0)

-- whoever is in all the parts
unfoldable pub meet_word : ℕ → List ℕ → List Role → ℕ
meet_word W ws [] = 0
meet_word W ws (ρ ∷ []) = word_at W ws ρ
meet_word W ws (ρ ∷ σ ∷ ρs) = bit_and (word_at W ws ρ) (meet_word W ws (σ ∷ ρs))

-- what one use of a credential gives from the words ws, over E entities
unfoldable pub give_word : ℕ → ℕ → List ℕ → Credential → ℕ
give_word E W ws (A · r ⟵ entity B) = 2 ^ (B - 1)
give_word E W ws (A · r ⟵ role ρ) = word_at W ws ρ
give_word E W ws (A · r ⟵ link r1 r2) = link_word W ws (word_at W ws (A · r1)) r2 E
give_word E W ws (A · r ⟵ intersection parts) = meet_word W ws parts

-- the words acc after one use of a credential on the words ws
unfoldable pub use_word : ℕ → ℕ → List ℕ → List ℕ → Credential → List ℕ
use_word E W ws acc c = set acc (place W (head c)) (bit_or (word_at W acc (head c)) (give_word E W ws c))

-- the words acc after one use of each credential on the words ws
unfoldable pub use_words : ℕ → ℕ → List ℕ → List ℕ → List Credential → List ℕ
use_words E W ws acc [] = acc
use_words E W ws acc (c ∷ cs) = use_words E W ws (use_word E W ws acc c) cs

-- one round: the words with what one use of each credential gives from them
unfoldable pub round_words : ℕ → ℕ → List Credential → List ℕ → List ℕ
round_words E W cs ws = use_words E W ws ws cs

-- the words after n rounds
unfoldable pub times_words : ℕ → ℕ → List Credential → ℕ → List ℕ → List ℕ
times_words E W cs zero start = start
times_words E W cs (suc n) start = round_words E W cs (times_words E W cs n start)

-- n rounds from the words start lead to the words ws, which the next round leaves alone; every round before changed something
pub record Settled (E W : ℕ) (cs : List Credential) (start : List ℕ) (n : ℕ) (ws : List ℕ) : Type 0 where
  pub reached : ws ≡ times_words E W cs n start
  pub still : round_words E W cs ws ≡ ws
  pub moving : (m : ℕ) → m < n → times_words E W cs (suc m) start ≡ times_words E W cs m start → ⊥

-- n words with nobody in them
unfoldable pub none_words : ℕ → List ℕ
none_words n = replicate n 0

-- the word of everyone, and of nobody
abbrev pub everyone_word : ℕ → Bool → ℕ
everyone_word E true = 2 ^ E - 1
everyone_word E false = 0

-- a role within E entities and R names that further credentials may define
abbrev pub open_within : ℕ → ℕ → Open → Role → Bool
open_within E R is_open (A · r) = leb A E && leb r R && is_open (A · r)

-- the first n words with everyone in every open role and nobody elsewhere
unfoldable pub open_words : ℕ → ℕ → ℕ → Open → ℕ → List ℕ
open_words E R W is_open zero = []
open_words E R W is_open (suc n) =
    open_words E R W is_open n ++ (everyone_word E (open_within E R is_open (suc (n / W) · suc (n % W))) ∷ [])

-- the words show the assignment P: role A.r at its word and D at bit D − 1, for every word of the table
abbrev pub Shows : ℕ → ℕ → List ℕ → Assignment → Type 0
Shows entities W ws P =
    (A r D : ℕ) → IsEntity entities A → IsName W r → IsEntity entities D → (bit (word_at W ws (A · r)) (D - 1) ≡ 1) ↔ P (A · r) D

-- a table of W words for each of B entities, each word a set of entities up to E
pub record Fits (E B W : ℕ) (ws : List ℕ) : Type 0 where
  pub size : length ws ≡ W * B
  pub small : (i : ℕ) → get_or ws i 0 < 2 ^ E
