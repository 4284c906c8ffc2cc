-- What the lines of a slip say: it stays said when lines are added, over a book that keeps what the first names, and when a prefix is
-- taken that holds the line; and what follows from the premises of a line, through any reading of what they say.
use Prim.Native.Nat.{ℕ, zero, suc, ◌≤◌, ◌<◌}
use native.Mathlib.Omega.{arith}
use mathlib.Core.Path.{◌≡◌, refl, ap}
use mathlib.Core.Option.{Option, none, some, none-ne-some}
use mathlib.Core.List.Memᴰ
use mathlib.Core.List.{List, [], ◌∷◌, ◌++◌}
use mathlib.Core.Logic.{◌⊎◌, inl, ⊎_map}
use lib.ListN.{length, take, drop, get_elem?, take-append-drop}
use Rattle.rt0.specs.Credential.{Role, ◌·◌, entity, role, link, intersection, Credential, ◌⟵◌, head, ◌∈◌}
use Rattle.rt0.specs.Membership.{Assignment, Gives}
use Rattle.rt0.specs.Book.{Book, Keeps}
use Rattle.rt0.specs.Slip.{item, Line, line, Fact, ◌∋◌, fact_of, stated, Says, AllNone, InTurn, Follows}
use Rattle.rt0.proofs.Items.{item_within, item_append, item_take, item_cases}

-- the credential behind a stated fact
pub credential_behind : (D : ℕ) (o : Option Credential) (f : Fact) → fact_of D o ≡ some f
    → (k : Credential) × (o ≡ some k) × (head k ∋ D ≡ f)
credential_behind D none f e = absurd (none-ne-some f e)
credential_behind D (some k) f e = (k, refl, cc)

-- the line behind what is said
pub line_behind : (book : Book) (lines : List Line) (m : ℕ) (f : Fact) → Says book lines (suc m) f
    → (l : Line) × (get_elem? lines m ≡ some l) × (stated book (some l) ≡ some f)
line_behind book lines m f s = found (get_elem? lines m) s
  where
    found : (o : Option Line) → stated book o ≡ some f → (l : Line) × (o ≡ some l) × (stated book (some l) ≡ some f)
    found none t = absurd (none-ne-some f t)
    found (some l) t = (l, refl, t)

pub says_within : (book : Book) (lines : List Line) (n : ℕ) (f : Fact) → Says book lines n f → (1 ≤ n) × (n ≤ length lines)
says_within book lines zero f s = absurd (none-ne-some f s)
says_within book lines (suc m) f s =
    let l = line_behind book lines m f s in
    let h : m < length lines = item_within lines m l.0 l.1 in
    omega arith

-- more lines
pub says_longer : (book : Book) (lines more : List Line) (n : ℕ) (f : Fact) → Says book lines n f → Says book (lines ++ more) n f
says_longer book lines more zero f s = s
says_longer book lines more (suc m) f s = let h : m < length lines = (says_within book lines (suc m) f s).1 in rw item_append s

-- the first n lines
pub says_first : (book : Book) (lines : List Line) (n m : ℕ) (f : Fact) → m ≤ n → Says book lines m f → Says book (take n lines) m f
says_first book lines n zero f h s = s
says_first book lines n (suc m) f h s = rw item_take s

pub first_says : (book : Book) (lines : List Line) (n m : ℕ) (f : Fact) → Says book (take n lines) m f → Says book lines m f
first_says book lines n m f s = rw (take-append-drop n lines) at (says_longer book (take n lines) (drop n lines) m f s)

-- one more line at the end
pub says_cases : (book : Book) (lines : List Line) (l : Line) (n : ℕ) (f : Fact) → Says book (lines ++ (l ∷ [])) n f
    → Says book lines n f ⊎ ((n ≡ suc (length lines)) × (stated book (some l) ≡ some f))
says_cases book lines l zero f s = inl s
says_cases book lines l (suc m) f s = sorted (line_behind book (lines ++ (l ∷ [])) m f s)
  where
    sorted : (x : Line) × (get_elem? (lines ++ (l ∷ [])) m ≡ some x) × (stated book (some x) ≡ some f)
        → Says book lines (suc m) f ⊎ ((suc m ≡ suc (length lines)) × (stated book (some l) ≡ some f))
    sorted x = ⊎_map (λ e. rw e x.2) (λ e. (ap suc e.0, rw e.1 x.2)) (item_cases lines l m x.0 x.1)

-- a book that keeps what the first names
pub says_lasts : (book more : Book) → Keeps book more → (lines : List Line) (n : ℕ) (f : Fact) → Says book lines n f → Says more lines n f
says_lasts book more keeps lines n f s = lasts (item lines n) s
  where
    lasts : (o : Option Line) → stated book o ≡ some f → stated more o ≡ some f
    lasts none t = t
    lasts (some (line D c p q s)) t =
        let k = credential_behind D (book c) f t in
        let e : more c ≡ some k.0 = keeps c k.0 k.1 in
        rw e (cc)

-- what follows from premises still follows from lines that say as much
module _ (book other : Book) (earlier later : List Line) (more : (n : ℕ) (f : Fact) → Says book earlier n f → Says other later n f) where
  in_turn_more : (parts : List Role) (ps : List ℕ) (D : ℕ) → InTurn book earlier D parts ps → InTurn other later D parts ps
  in_turn_more [] ps D t = t
  in_turn_more (ρ ∷ ρs) [] D t = t
  in_turn_more (ρ ∷ ρs) (p ∷ ps) D t = (more p (ρ ∋ D) t.0, in_turn_more ρs ps D t.1)

  pub follows_more : (k : Credential) (D p q s : ℕ) → Follows book earlier k D p q s → Follows other later k D p q s
  follows_more (A · r ⟵ entity B) D p q s w = w
  follows_more (A · r ⟵ role ρ) D p q s w = (more p (ρ ∋ D) w.0, w.1)
  follows_more (A · r ⟵ link r1 r2) D p q s w =
      (w.0, more p (A · r1 ∋ w.0) w.1, more q (w.0 · r2 ∋ D) w.2, w.3)
  follows_more (A · r ⟵ intersection parts) D p q s w = in_turn_more parts (p ∷ q ∷ s ∷ []) D w

-- what follows from premises that say only what holds in P is given by one use of the credential from P
module _ (book : Book) (earlier : List Line) (P : Assignment)
    (holds : (n : ℕ) (ρ : Role) (D : ℕ) → Says book earlier n (ρ ∋ D) → P ρ D) where
  in_turn_holds : (parts : List Role) (ps : List ℕ) (D : ℕ) → InTurn book earlier D parts ps → (ρ : Role) → ρ ∈ parts → P ρ D
  in_turn_holds [] ps D t ρ i = elim i [ ]
  in_turn_holds (σ ∷ σs) [] D t ρ i = absurd t
  in_turn_holds (σ ∷ σs) (p ∷ ps) D t ρ (Memᴰ.head e) = rw e (holds p σ D t.0)
  in_turn_holds (σ ∷ σs) (p ∷ ps) D t ρ (Memᴰ.tail i) = in_turn_holds σs ps D t.1 ρ i

  pub follows_gives : (k : Credential) (D p q s : ℕ) → Follows book earlier k D p q s → Gives P k D
  follows_gives (A · r ⟵ entity B) D p q s w = w.0
  follows_gives (A · r ⟵ role ρ) D p q s w = holds p ρ D w.0
  follows_gives (A · r ⟵ link r1 r2) D p q s w =
      (w.0, holds p (A · r1) w.0 w.1, holds q (w.0 · r2) D w.2)
  follows_gives (A · r ⟵ intersection parts) D p q s w = in_turn_holds parts (p ∷ q ∷ s ∷ []) D w

-- a premise is the number of an earlier line, or 0
none_within : (n : ℕ) (ps : List ℕ) → AllNone ps → (p : ℕ) → p ∈ ps → p ≤ n
none_within n [] h p x'' = elim x'' [ ]
none_within n (q ∷ qs) h p (Memᴰ.head e) = omega arith
none_within n (q ∷ qs) h p (Memᴰ.tail i) = none_within n qs h.1 p i

in_turn_within : (book : Book) (earlier : List Line) (D : ℕ) (parts : List Role) (ps : List ℕ) → InTurn book earlier D parts ps
    → (p : ℕ) → p ∈ ps → p ≤ length earlier
in_turn_within book earlier D (ρ ∷ ρs) [] t p i = elim t [ ]
in_turn_within book earlier D [] ps t p i = none_within (length earlier) ps t p i
in_turn_within book earlier D (ρ ∷ ρs) (q ∷ qs) t p (Memᴰ.head e) = rw e (says_within book earlier q (ρ ∋ D) t.0).1
in_turn_within book earlier D (ρ ∷ ρs) (q ∷ qs) t p (Memᴰ.tail i) = in_turn_within book earlier D ρs qs t.1 p i

pub follows_within : (book : Book) (earlier : List Line) (k : Credential) (D p q s : ℕ) → Follows book earlier k D p q s
    → (n : ℕ) → n ∈ (p ∷ q ∷ s ∷ []) → n ≤ length earlier
follows_within book earlier (A · r ⟵ entity B) D p q s w n i = none_within (length earlier) (p ∷ q ∷ s ∷ []) w.1 n i
follows_within book earlier (A · r ⟵ role ρ) D p q s w n i = in_turn_within book earlier D (ρ ∷ []) (p ∷ q ∷ s ∷ []) w n i
follows_within book earlier (A · r ⟵ link r1 r2) D p q s w n (Memᴰ.head e) = rw e (says_within book earlier p (A · r1 ∋ w.0) w.1).1
follows_within book earlier (A · r ⟵ link r1 r2) D p q s w n (Memᴰ.tail i) =
    in_turn_within book earlier D (w.0 · r2 ∷ []) (q ∷ s ∷ []) (w.2, w.3) n i
follows_within book earlier (A · r ⟵ intersection parts) D p q s w n i = in_turn_within book earlier D parts (p ∷ q ∷ s ∷ []) w n i
