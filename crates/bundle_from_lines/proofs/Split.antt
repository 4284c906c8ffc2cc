-- The right lines at the front of a text are those of credentials: the text is theirs, and something behind it.
use Prim.Native.Nat.{ℕ, zero, suc, ◌<◌, ◌≤◌}
use native.Mathlib.Omega.{arith}
use mathlib.Core.Path.{◌≡◌, refl, ap, sym, subst, ◌∙◌}
use mathlib.Core.List.{List, [], ◌∷◌, ◌++◌, append_assoc}
use lib.ListN.{length, get_or, take, drop, length-append, take-append-drop}
use Rattle.rt0.specs.Credential.{Credential, Valid, AllValid}
use Rattle.spelling.specs.Line.{line_of, RightLine}
use Rattle.letters.specs.Lines.{text_of, lines_of, line_at, first_length}
use Rattle.letters.proofs.Cut.{first_line, line_some, lines_more}
use Rattle.letters.proofs.Texts.{valid_none, valid_last, text_last, front_next}

-- a text begins with the line of a valid credential
pub record Begins (E R : ℕ) (text : List ℕ) : Type 0 where
  pub credential : Credential
  pub valid : Valid E R credential
  pub rest : List ℕ
  pub whole : text ≡ line_of credential ++ rest

-- its first k lines are those of valid credentials
pub record Split (E R : ℕ) (text : List ℕ) (k : ℕ) : Type 0 where
  pub credentials : List Credential
  pub valid : AllValid E R credentials
  pub count : length credentials ≡ k
  pub rest : List ℕ
  pub whole : text ≡ text_of credentials ++ rest

-- the first line of a text that begins with that of a credential
pub line_front : (c : Credential) (text rest : List ℕ) → text ≡ line_of c ++ rest → line_at text 0 ≡ line_of c
line_front c text rest e = ap (λ (t : List ℕ). line_at t 0) e ∙ ap (λ (ls : List (List ℕ)). get_or ls 0 []) (lines_more c rest)

-- a line behind those of credentials
pub line_behind : (text : List ℕ) (cs : List Credential) (rest : List ℕ) (k : ℕ) → text ≡ text_of cs ++ rest → length cs ≡ k → line_at text k ≡ line_at rest 0
line_behind text cs rest k e count = ap (λ (t : List ℕ). line_at t k) e ∙ ap (line_at (text_of cs ++ rest)) (sym count) ∙ front_next cs rest

-- a list that begins with the front of another
pub front_part : (xs ys zs ws : List ℕ) → xs ++ ys ≡ zs ++ ws → length zs ≤ length xs → (m : List ℕ) × (xs ≡ zs ++ m) × (ws ≡ m ++ ys)
front_part xs ys [] ws e l = (xs, refl, sym e)
front_part [] ys (z ∷ zs) ws e l = absurd (omega arith)
front_part (x ∷ xs) ys (z ∷ zs) ws e l =
    let head : x ≡ z = cc in
    let tail : xs ++ ys ≡ zs ++ ws = cc in
    let (m, f, g) = front_part xs ys zs ws tail (omega arith) in
    (m, cc, g)

module _ (E R : ℕ) where
  pub right_begins : (text : List ℕ) → RightLine E R (line_at text 0) → Begins E R text
  unfolding lines_of
  right_begins [] (c, v, e) = absurd (omega (arith, line_some c, ap length e))
  right_begins (b ∷ text) (c, v, e) =
      let n = first_length (b ∷ text) in
      let line : take n (b ∷ text) ≡ line_of c = sym (ap (λ (ls : List (List ℕ)). get_or ls 0 []) (first_line b text)) ∙ e in
      record {
        credential = c;
        valid = v;
        rest = drop n (b ∷ text);
        whole = sym (take-append-drop n (b ∷ text)) ∙ ap (λ (front : List ℕ). front ++ drop n (b ∷ text)) line;
      }

  pub right_split : (k : ℕ) (text : List ℕ) → ((j : ℕ) → j < k → RightLine E R (line_at text j)) → Split E R text k
  unfolding text_of
  right_split zero text right = record { credentials = []; valid = valid_none E R; count = refl; rest = text; whole = refl }
  right_split (suc k) text right =
      let s = right_split k text (λ j l. right j (omega arith)) in
      let cs = s.credentials in
      let b = right_begins s.rest (subst (RightLine E R) (line_behind text cs s.rest k s.whole s.count) (right k (omega arith))) in
      let c = b.credential in
      record {
        credentials = cs ++ (c ∷ []);
        valid = valid_last E R cs c s.valid b.valid;
        count = rw length-append (omega (arith, s.count));
        rest = b.rest;
        whole =
            s.whole
            ∙ ap (λ (left : List ℕ). text_of cs ++ left) b.whole
            ∙ sym (append_assoc (text_of cs) (line_of c) b.rest)
            ∙ ap (λ (front : List ℕ). front ++ b.rest) (sym (text_last cs c));
      }
