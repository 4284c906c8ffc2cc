-- A slip with its index: no lines, one more line, the line of a fact that the words hold, and that no fact is stated twice.
use Prim.Native.Nat.{ℕ, suc, ◌-◌, ◌<◌, ◌≤◌}
use native.Mathlib.Decide.{ℕ_discrete}
use native.Mathlib.Omega.{arith}
use mathlib.Core.Path.{◌≡◌, sym, ◌∙◌}
use mathlib.Core.Logic.{⊎_elim}
use mathlib.Core.Option.{some, none-ne-some}
use mathlib.Core.List.{List, [], ◌∷◌, ◌++◌}
use lib.ListN.{length, get_or, set, length-set}
use lib.Seq.{get_or-set_same, get_or-set_other}
use Rattle.rt0.specs.Credential.{Role, Credential, AllValid, ValidRole, IsEntity}
use Rattle.rt0.specs.Book.{Book, NamesOnly}
use Rattle.rt0.specs.Slip.{Line, ◌∋◌, stated, Says, RightLine, NoFactTwice}
use Rattle.rt0.specs.Word.{bit, word_at}
use Rattle.rt0.proofs.Items.{item_last}
use Rattle.rt0.proofs.Says.{says_within, says_longer, says_cases}
use Rattle.rt0.proofs.Least.{member_within}
use Rattle.rt0.proofs.Slips.{line_sound, right_snoc}
use Rattle.words.specs.Sizes.{most_entities, width, fact_count}
use Rattle.premises.specs.Fact.{fact, fact_number, line_of, HasLine, Backed}
use Rattle.ledger.specs.Ledger.{Ledger}
use Rattle.words.proofs.Wider.{role_wider}
use Rattle.premises.proofs.Facts.{number_within, number_fact, number_holds, fact_injective}

-- no lines, and an index of zeros
pub ledger_nil : (book : Book) (index : List ℕ) → length index ≡ fact_count → ((f : ℕ) → get_or index f 0 ≡ 0) → Ledger book index []
ledger_nil book index e zeros = record {
  size = e;
  right = λ n l i. absurd (none-ne-some l i);
  there = λ f b h. absurd (h (zeros f));
  only = λ f m b s. let inside = says_within book [] m (fact f) s in omega arith;
}

module _ (book : Book) (index : List ℕ) (lines : List Line) (ledger : Ledger book index lines) where
  -- the line of a fact that the words hold states it
  pub line_there : (ws : List ℕ) → Backed ws index → (ρ : Role) (D : ℕ) → ValidRole most_entities width ρ → IsEntity most_entities D
      → bit (word_at width ws ρ) (D - 1) ≡ 1 → Says book lines (line_of index ρ D) (ρ ∋ D)
  line_there ws backed ρ D v d h =
      let within = number_within ρ D v d in
      rw (number_fact ρ D v d) at (ledger.there (fact_number ρ D) within (backed (fact_number ρ D) within (number_holds ws ρ D v d h)))

  -- a fact within the index is stated once at most
  said_once : (m n : ℕ) (ρ : Role) (D : ℕ) → ValidRole most_entities width ρ → IsEntity most_entities D → Says book lines m (ρ ∋ D) → Says book lines n (ρ ∋ D) → m ≡ n
  said_once m n ρ D v d s t =
      let within = number_within ρ D v d in
      let first = ledger.only (fact_number ρ D) m within (rw (number_fact ρ D v d) s) in
      let second = ledger.only (fact_number ρ D) n within (rw (number_fact ρ D v d) t) in
      sym first ∙ second

  -- one more line, which states a fact that has none
  module _ (f : ℕ) (l : Line) (within : f < fact_count) (new : get_or index f 0 ≡ 0) (states : stated book (some l) ≡ some (fact f)) where
    abbrev index' : List ℕ
    index' = set index f (suc (length lines))

    abbrev lines' : List Line
    lines' = lines ++ (l ∷ [])

    there' : (g : ℕ) → Dec (g ≡ f) → g < fact_count → HasLine index' g → Says book lines' (get_or index' g 0) (fact g)
    there' g (yes e) b h = rw (e, get_or-set_same index f (suc (length lines)) 0 (rw ledger.size within), item_last) states
    there' g (no d) b h =
        let kept = get_or-set_other index f g (suc (length lines)) 0 d in
        rw kept (says_longer book lines (l ∷ []) (get_or index g 0) (fact g) (ledger.there g b (rw kept at h)))

    only' : (g m : ℕ) → Dec (g ≡ f) → g < fact_count → Says book lines' m (fact g) → get_or index' g 0 ≡ m
    only' g m (yes e) b s =
        rw (e, get_or-set_same index f (suc (length lines)) 0 (rw ledger.size within))
        (⊎_elim old (λ last. sym last.0) (says_cases book lines l m (fact g) s))
      where
        old : Says book lines m (fact g) → suc (length lines) ≡ m
        old t =
            let inside = says_within book lines m (fact g) t in
            let none : get_or index g 0 ≡ 0 = rw e new in
            let there : get_or index g 0 ≡ m = ledger.only g m b t in
            omega arith
    only' g m (no d) b s =
        rw (get_or-set_other index f g (suc (length lines)) 0 d)
        (⊎_elim (ledger.only g m b) (λ last. absurd (d (fact_injective g f (cc)))) (says_cases book lines l m (fact g) s))

    pub ledger_snoc : RightLine book lines l → Ledger book index' lines'
    ledger_snoc r = record {
      size = length-set index f (suc (length lines)) ∙ ledger.size;
      right = right_snoc book lines l ledger.right r;
      there = λ g. there' g (ℕ_discrete g f);
      only = λ g m. only' g m (ℕ_discrete g f);
    }

-- over valid credentials no fact is stated twice
pub ledger_once : (E R : ℕ) → E ≤ most_entities → R ≤ width → (cs : List Credential) → AllValid E R cs → (book : Book) → NamesOnly book cs
    → (index : List ℕ) (lines : List Line) → Ledger book index lines → NoFactTwice book lines
ledger_once E R e r cs v book only index lines ledger m n (ρ ∋ D) s t =
    let within = member_within E R cs v ρ D (line_sound book cs only lines ledger.right m ρ D s) in
    said_once book index lines ledger m n ρ D (role_wider e r ρ within.0) (omega arith) s t
