-- Slips, over a book. Sound: what a right slip states is a membership over any list that has all that the book names. Lasting: a right
-- slip stays right over a book that keeps what the first names. Complete: for every member over a list whose credentials the book numbers
-- there is a right slip that states no fact twice, which bounds its length.
use Prim.Native.Nat.{ℕ, zero, suc, ◌*◌, ◌≤◌, ◌<◌}
use native.Mathlib.Omega.{arith}
use native.Mathlib.Decide.{ℕ_discrete}
use mathlib.Core.Path.{◌≡◌, refl, ap}
use mathlib.Core.Option.{some, none-ne-some, discrete}
use mathlib.Core.List.Memᴰ
use mathlib.Core.List.{List, [], ◌∷◌, ◌++◌}
use mathlib.Core.Logic.{◌⊎◌, inl, inr, ⊎_elim}
use lib.ListN.{length, take, get_elem?, replicate, length-take, length-replicate}
use lib.Seq.{take-append-le, take-take, take-append_seam, length-take-le}
use Rattle.rt0.specs.Credential.{Role, ◌·◌, entity, role, link, intersection, Credential, ◌⟵◌, head, ◌∈◌, IsEntity, AllValid}
use Rattle.rt0.specs.Membership.{Assignment, Closed, Member}
use Rattle.rt0.specs.Table.{distinct_heads}
use Rattle.rt0.specs.Book.{Book, NamesOnly, Numbers, Keeps}
use Rattle.rt0.specs.Slip.{Line, line, Fact, ◌∋◌, stated, Says, AllNone, InTurn, Follows}
use Rattle.rt0.specs.Slip.{RightLine, RightSlip, SlipFor, NoFactTwice}
use Rattle.rt0.proofs.Least.{member_closed, member_least, member_within}
use Rattle.rt0.proofs.Items.{item_within, item_there, item_last, item_take, item_cases, pigeonhole}
use Rattle.rt0.proofs.Heads.{head_distinct, facts_over, length_facts_over, fact_over}
use Rattle.rt0.proofs.Says.{credential_behind, line_behind, follows_more, follows_gives}
use Rattle.rt0.proofs.Says.{says_within, says_longer, says_first, first_says, says_lasts, says_cases}

-- ---- sound

module _ (book : Book) (cs : List Credential) (only : NamesOnly book cs) (lines : List Line) (right : RightSlip book lines) where
  -- every line with a number up to n says a membership
  abbrev SoundTo : ℕ → Type 0
  SoundTo n = (m : ℕ) → m ≤ n → (ρ : Role) (D : ℕ) → Says book lines m (ρ ∋ D) → Member cs ρ D

  -- the premises of line n + 1 are among the first n lines
  earlier_sound : (n : ℕ) → SoundTo n → (m : ℕ) (ρ : Role) (D : ℕ) → Says book (take n lines) m (ρ ∋ D) → Member cs ρ D
  earlier_sound n before m ρ D s =
      let inside = says_within book (take n lines) m (ρ ∋ D) s in
      before m (omega (arith, length-take n lines)) ρ D (first_says book lines n m (ρ ∋ D) s)

  -- line n + 1, from those before it
  next_sound : (n : ℕ) → SoundTo n → (ρ : Role) (D : ℕ) → Says book lines (suc n) (ρ ∋ D) → Member cs ρ D
  next_sound n before ρ D s = let l = line_behind book lines n (ρ ∋ D) s in proved l.0 l.1 l.2
    where
      proved : (l : Line) → get_elem? lines n ≡ some l → stated book (some l) ≡ some (ρ ∋ D) → Member cs ρ D
      proved (line X c p q t) e f =
          let r = right n (line X c p q t) e in
          let k = credential_behind X (book c) (ρ ∋ D) f in
          let given = follows_gives book (take n lines) (Member cs) (earlier_sound n before) r.0 X p q t r.2 in
          let its_role : head r.0 ≡ ρ = cc in
          let its_member : X ≡ D = cc in
          rw (← its_role, ← its_member) (member_closed cs r.0 (only c r.0 r.1) X given)

  sound_to : (n : ℕ) → SoundTo n
  sound_to zero m le ρ D s = let inside = says_within book lines m (ρ ∋ D) s in absurd (omega arith)
  sound_to (suc n) zero le ρ D s = absurd (none-ne-some (ρ ∋ D) s)
  sound_to (suc n) (suc m) le ρ D s = next_sound m (λ i h. sound_to n i (omega arith)) ρ D s

-- sound, for every line, over a book that names only credentials of the list
pub line_sound : (book : Book) (cs : List Credential) → NamesOnly book cs → (lines : List Line) → RightSlip book lines
    → (n : ℕ) (ρ : Role) (D : ℕ) → Says book lines n (ρ ∋ D) → Member cs ρ D
line_sound book cs only lines h n = sound_to book cs only lines h n n (omega arith)

pub slip_sound : (book : Book) (cs : List Credential) → NamesOnly book cs → (lines : List Line) (ρ : Role) (D : ℕ)
    → SlipFor book ρ D lines → Member cs ρ D
slip_sound book cs only lines ρ D h = line_sound book cs only lines h.right (length lines) ρ D h.last

-- ---- lasting

right_lasts : (book more : Book) → Keeps book more → (lines : List Line) → RightSlip book lines → RightSlip more lines
right_lasts book more keeps lines h n (line D c p q s) e =
    let r = h n (line D c p q s) e in (
      r.0,
      keeps c r.0 r.1,
      follows_more book more (take n lines) (take n lines) (says_lasts book more keeps (take n lines)) r.0 D p q s r.2,
    )

-- over a book that keeps what the first names
pub slip_lasts : (book more : Book) → Keeps book more → (lines : List Line) (ρ : Role) (D : ℕ)
    → SlipFor book ρ D lines → SlipFor more ρ D lines
slip_lasts book more keeps lines ρ D h =
    record { right = right_lasts book more keeps lines h.right; last = says_lasts book more keeps lines (length lines) (ρ ∋ D) h.last }

-- ---- complete

-- some line, or no line, says the fact
abbrev Said : Book → List Line → Fact → Type 0
Said book lines f = (n : ℕ) × Says book lines n f

abbrev Unsaid : Book → List Line → Fact → Type 0
Unsaid book lines f = (n : ℕ) → Says book lines n f → ⊥

-- a right slip that states no fact twice
record Terse (book : Book) (lines : List Line) : Type 0 where
  right : RightSlip book lines
  once : NoFactTwice book lines

-- such a slip that says all that the given lines say, by the same numbers, and of which P holds
record Extension (book : Book) (given : List Line) (P : List Line → Type 0) : Type 0 where
  lines : List Line
  terse : Terse book lines
  keeps : (n : ℕ) (f : Fact) → Says book given n f → Says book lines n f
  reached : P lines

-- every such slip can be extended to say that D is in ρ
abbrev Sayable : Book → Assignment
Sayable book ρ D = (given : List Line) → Terse book given → Extension book given (λ lines. Said book lines (ρ ∋ D))

-- an extension of an extension
further : {book : Book} {given : List Line} {P Q : List Line → Type 0} (e : Extension book given P)
    → Extension book e.lines Q → Extension book given Q
further e f = record { lines = f.lines; terse = f.terse; keeps = λ n g s. f.keeps n g (e.keeps n g s); reached = f.reached }

-- the empty slip
terse_nil : (book : Book) → Terse book []
terse_nil book = record { right = λ n l e. absurd (none-ne-some l e); once = none_twice }
  where
    none_twice : NoFactTwice book []
    none_twice m n f s t = let inside = says_within book [] m f s in omega arith

-- a prefix
terse_take : (book : Book) (lines : List Line) (n : ℕ) → Terse book lines → Terse book (take n lines)
terse_take book lines n t = record { right = right_take; once = once_take }
  where
    once_take : NoFactTwice book (take n lines)
    once_take i j f s u = t.once i j f (first_says book lines n i f s) (first_says book lines n j f u)

    right_take : RightSlip book (take n lines)
    right_take m l e =
        let inside : m < length (take n lines) = item_within (take n lines) m l e in
        let below : m < n = omega (arith, length-take n lines) in
        let small : m ≤ n = omega arith in
        rw take-take (t.right m l (rw item_take at e))

-- one more right line
pub right_snoc : (book : Book) (lines : List Line) (l : Line) → RightSlip book lines → RightLine book lines l
    → RightSlip book (lines ++ (l ∷ []))
right_snoc book lines l h r n x i = ⊎_elim old last (item_cases lines l n x i)
  where
    old : get_elem? lines n ≡ some x → RightLine book (take n (lines ++ (l ∷ []))) x
    old j =
        let inside : n < length lines = item_within lines n x j in
        let below : n ≤ length lines = omega arith in
        rw take-append-le (h n x j)

    last : (n ≡ length lines) × (l ≡ x) → RightLine book (take n (lines ++ (l ∷ []))) x
    last j = rw (j.0, ← j.1, take-append_seam) r

-- one more line, which states a new fact
terse_snoc : (book : Book) (lines : List Line) (l : Line) (f : Fact) → Terse book lines → RightLine book lines l
    → stated book (some l) ≡ some f → Unsaid book lines f → Terse book (lines ++ (l ∷ []))
terse_snoc book lines l f t r e new = record { right = right_snoc book lines l t.right r; once = once_snoc }
  where
    once_snoc : NoFactTwice book (lines ++ (l ∷ []))
    once_snoc m n g s u = compared (says_cases book lines l m g s) (says_cases book lines l n g u)
      where
        Found : ℕ → Type 0
        Found i = Says book lines i g ⊎ ((i ≡ suc (length lines)) × (stated book (some l) ≡ some g))

        compared : Found m → Found n → m ≡ n
        compared (inl a) (inl b) = t.once m n g a b
        compared (inl a) (inr b) = absurd (new m (cc))
        compared (inr a) (inl b) = absurd (new n (cc))
        compared (inr a) (inr b) = cc

-- whether two facts are equal is decided by their numbers
same_fact_lem : Discrete Fact
same_fact_lem (A · r ∋ D) (B · s ∋ X) = joined (ℕ_discrete A B) (ℕ_discrete r s) (ℕ_discrete D X)
  where
    joined : Dec (A ≡ B) → Dec (r ≡ s) → Dec (D ≡ X) → Dec ((A · r ∋ D) ≡ (B · s ∋ X))
    joined (yes a) (yes b) (yes c) = yes (cc)
    joined (no a) y z = no (λ e. a (cc))
    joined (yes a) (no b) z = no (λ e. b (cc))
    joined (yes a) (yes b) (no c) = no (λ e. c (cc))

-- whether the lines say a fact, and where
search_fact : (book : Book) (lines : List Line) (f : Fact) → Said book lines f ⊎ Unsaid book lines f
search_fact book [] f = inr (λ n s. let inside = says_within book [] n f s in omega arith)
search_fact book (l ∷ lines) f = looked (discrete same_fact_lem (stated book (some l)) (some f)) (search_fact book lines f)
  where
    raised : Said book lines f → Said book (l ∷ lines) f
    raised (zero, s) = absurd (none-ne-some f s)
    raised (suc m, s) = (suc (suc m), s)

    neither : (stated book (some l) ≡ some f → ⊥) → Unsaid book lines f → Unsaid book (l ∷ lines) f
    neither here there zero s = none-ne-some f s
    neither here there (suc zero) s = here s
    neither here there (suc (suc m)) s = there (suc m) s

    looked : Dec (stated book (some l) ≡ some f) → Said book lines f ⊎ Unsaid book lines f → Said book (l ∷ lines) f ⊎ Unsaid book (l ∷ lines) f
    looked (yes e) there = inl (1, e)
    looked (no here) (inl there) = inl (raised there)
    looked (no here) (inr there) = inr (neither here there)

-- what follows can be said: by a line that says it already, or by one more
say : (book : Book) (given : List Line) → Terse book given → (k : Credential) (c : ℕ) → book c ≡ some k
    → (D p q s : ℕ) → Follows book given k D p q s → Extension book given (λ lines. Said book lines (head k ∋ D))
say book given t k c i D p q s w = ⊎_elim old new (search_fact book given (head k ∋ D))
  where
    old : Said book given (head k ∋ D) → Extension book given (λ lines. Said book lines (head k ∋ D))
    old there = record { lines = given; terse = t; keeps = λ n f u. u; reached = there }

    new : Unsaid book given (head k ∋ D) → Extension book given (λ lines. Said book lines (head k ∋ D))
    new absent =
        let l : Line = line D c p q s in
        let e : stated book (some l) ≡ some (head k ∋ D) = rw i in
        record {
          lines = given ++ (l ∷ []);
          terse = terse_snoc book given l (head k ∋ D) t (k, i, w) e absent;
          keeps = says_longer book given (l ∷ []);
          reached = (suc (length given), rw item_last e);
        }

-- premises for the parts of an intersection in turn, padded with 0 to n numbers
in_turn : (book : Book) (D n : ℕ) (parts : List Role) → length parts ≤ n → ((ρ : Role) → ρ ∈ parts → Sayable book ρ D)
    → (given : List Line) → Terse book given → Extension book given (λ lines. (ps : List ℕ) × (length ps ≡ n) × InTurn book lines D parts ps)
in_turn book D n [] h say_part given t =
    record { lines = given; terse = t; keeps = λ n f u. u; reached = (replicate n 0, length-replicate n 0, all_none n) }
  where
    all_none : (n : ℕ) → AllNone (replicate n 0)
    all_none zero = tt
    all_none (suc n) = (refl, all_none n)
in_turn book D zero (ρ ∷ ρs) h say_part given t = absurd (omega arith)
in_turn book D (suc n) (ρ ∷ ρs) h say_part given t =
    let first = say_part ρ (Memᴰ.head refl) given t in
    let rest = in_turn book D n ρs (omega arith) (λ σ i. say_part σ (Memᴰ.tail i)) first.lines first.terse in
    let said = rest.keeps first.reached.0 (ρ ∋ D) first.reached.1 in
    further first (record {
      lines = rest.lines;
      terse = rest.terse;
      keeps = rest.keeps;
      reached = (first.reached.0 ∷ rest.reached.0, ap suc rest.reached.1, (said, rest.reached.2));
    })

-- a list of three numbers by its numbers
three : (ps : List ℕ) → length ps ≡ 3 → (p q s : ℕ) × (ps ≡ p ∷ q ∷ s ∷ [])
three [] e = absurd (omega arith)
three (p ∷ []) e = absurd (omega arith)
three (p ∷ q ∷ []) e = absurd (omega arith)
three (p ∷ q ∷ s ∷ []) e = (p, q, s, refl)
three (p ∷ q ∷ s ∷ r ∷ ps) e = absurd (omega arith)

-- what can be said is closed: first the premises are said, then what follows from them
module _ (E R : ℕ) (cs : List Credential) (v : AllValid E R cs) (book : Book) {most : ℕ} (numbers : Numbers book cs most) where
  say_by : (given : List Line) → Terse book given → (k : Credential) → k ∈ cs → (D p q s : ℕ) → Follows book given k D p q s
      → Extension book given (λ lines. Said book lines (head k ∋ D))
  say_by given t k i = let (c, e) = numbers.every k i in say book given t k c e

  sayable_closed : Closed cs (Sayable book)
  sayable_closed (A · r ⟵ entity B) i D g given t = say_by given t (A · r ⟵ entity B) i D 0 0 0 (g, (refl, (refl, (refl, tt))))
  sayable_closed (A · r ⟵ role ρ) i D g given t =
      let e = g given t in
      further e (say_by e.lines e.terse (A · r ⟵ role ρ) i D e.reached.0 0 0 (e.reached.1, (refl, (refl, tt))))
  sayable_closed (A · r ⟵ link r1 r2) i D g given t =
      let e = g.1 given t in
      let f = g.2 e.lines e.terse in
      let said = f.keeps e.reached.0 (A · r1 ∋ g.0) e.reached.1 in
      let w : Follows book f.lines (A · r ⟵ link r1 r2) D e.reached.0 f.reached.0 0 = (g.0, said, f.reached.1, (refl, tt)) in
      further e (further f (say_by f.lines f.terse (A · r ⟵ link r1 r2) i D e.reached.0 f.reached.0 0 w))
  sayable_closed (A · r ⟵ intersection parts) i D g given t =
      let e = in_turn book D 3 parts (v (A · r ⟵ intersection parts) i).1.1 g given t in
      let n = three e.reached.0 e.reached.1 in
      further e (say_by e.lines e.terse (A · r ⟵ intersection parts) i D n.0 n.1 n.2 (rw n.3 at e.reached.2))

  -- for every member there is a right slip that states no fact twice: one that says it, cut off behind the line that does.
  -- Valid credentials, since a line has no room for the premises of more than three parts
  pub slip_complete : (ρ : Role) (D : ℕ) → Member cs ρ D → (lines : List Line) × SlipFor book ρ D lines × NoFactTwice book lines
  slip_complete ρ D m =
      let e = member_least cs (Sayable book) sayable_closed ρ D m [] (terse_nil book) in
      let n = e.reached.0 in
      let t = terse_take book e.lines n e.terse in
      let inside = says_within book e.lines n (ρ ∋ D) e.reached.1 in
      let last : Says book (take n e.lines) n (ρ ∋ D) = says_first book e.lines n n (ρ ∋ D) (omega arith) e.reached.1 in
      (take n e.lines, record { right = t.right; last = rw (length-take-le n e.lines inside.1) last }, t.once)

-- ---- short

-- what a line of a right slip says: that its member is in the head of the credential that it names
pub line_says : (book : Book) (lines : List Line) → RightSlip book lines
    → (n D c p q s : ℕ) → get_elem? lines n ≡ some (line D c p q s)
    → (k : Credential) × (book c ≡ some k) × Says book lines (suc n) (head k ∋ D)
line_says book lines h n D c p q s e = let r = h n (line D c p q s) e in (r.0, r.1, rw (e, r.1))

module _ (E R : ℕ) (cs : List Credential) (v : AllValid E R cs) (book : Book) (only : NamesOnly book cs)
    (lines : List Line) (h : RightSlip book lines) where
  -- the member of a line of a right slip is an entity
  pub line_entity : (n : ℕ) (ρ : Role) (D : ℕ) → Says book lines n (ρ ∋ D) → IsEntity E D
  line_entity n ρ D s = (member_within E R cs v ρ D (line_sound book cs only lines h n ρ D s)).1

  -- a right slip that states no fact twice has at most E lines for each distinct head
  pub slip_short : NoFactTwice book lines → length lines ≤ E * length (distinct_heads cs)
  slip_short t =
      rw (length_facts_over E (distinct_heads cs)) at (pigeonhole (λ n f. Says book lines (suc n) f) once (length lines) facts said)
    where
      facts : List Fact
      facts = facts_over E (distinct_heads cs)

      once : (m n : ℕ) (f : Fact) → Says book lines (suc m) f → Says book lines (suc n) f → m ≡ n
      once m n f s u = let same = t (suc m) (suc n) f s u in omega arith

      said_by : (n : ℕ) (l : Line) → get_elem? lines n ≡ some l → (f : Fact) × Says book lines (suc n) f × (f ∈ facts)
      said_by n (line D c p q s) e =
          let r = line_says book lines h n D c p q s e in
          let role_there = head_distinct cs r.0 (only c r.0 r.1) in
          let member_there = line_entity (suc n) (head r.0) D r.2 in
          (head r.0 ∋ D, r.2, fact_over E D member_there (distinct_heads cs) (head r.0) role_there)

      said : (n : ℕ) → n < length lines → (f : Fact) × Says book lines (suc n) f × (f ∈ facts)
      said n b = let l = item_there lines n b in said_by n l.0 l.1
