-- Bytes that come into a buffer in pieces: none yet, one piece more, that the buffer keeps its length, and that what is said to have come
-- stands in it.
use Prim.Native.Nat.{ℕ, ◌+◌, ◌-◌, ◌<◌, ◌≤◌}
use native.Mathlib.Omega.{arith}
use mathlib.Core.Path.{◌≡◌, refl, ap, sym, subst, ◌∙◌}
use mathlib.Core.List.{List, [], ◌∷◌, ◌++◌, append-nil, append_assoc}
use lib.ListN.{length, take, drop, length-append, length-drop, drop_of_length-le}
use lib.Seq.{take_at, take_all, take-length, drop-append-add, drop-drop}
use Rattle.input.specs.declared.Failed.{Failed}
use Rattle.input.specs.declared.Input.{Input}
use Rattle.input.specs.declared.Input.TheVariants.{Whole}
use Rattle.std.specs.Prelude.{Option, Some, None, Result, Ok, Err}
use Rattle.input.specs.Input.{joined, NoneEmpty, Says, Came, Filled, said_after, placed_at, OneMore, Added}

-- a piece more at the end
joined_more : (pieces : List (List ℕ)) (piece : List ℕ) → joined (pieces ++ piece ∷ []) ≡ joined pieces ++ piece
unfolding joined
joined_more [] piece = append-nil piece
joined_more (first ∷ pieces) piece = rw (joined_more pieces piece, append_assoc)

none_empty_more : (pieces : List (List ℕ)) (piece : List ℕ) → NoneEmpty pieces → 0 < length piece → NoneEmpty (pieces ++ piece ∷ [])
unfolding NoneEmpty
none_empty_more [] piece p h = (h, tt)
none_empty_more (first ∷ pieces) piece p h = (p.0, none_empty_more pieces piece p.1 h)

-- nothing has come yet
pub came_none : (before : List ℕ) → Came 0 before before
unfolding joined NoneEmpty
came_none before = record { pieces = []; none_empty = tt; count = refl; fits = omega arith; placed = refl }

-- nothing more came
came_same : {n : ℕ} {before now after : List ℕ} → Came n before now → after ≡ now → Came n before after
came_same c e = rw e c

-- the buffer keeps its length
pub came_length : {n : ℕ} {before after : List ℕ} → Came n before after → length after ≡ length before
came_length {n} {before} c = ap length c.placed ∙ simp (length-append, length-drop) (omega arith)

-- a full buffer: what is said of so many bytes in as much room is said of this buffer
pub filled_whole : {n : ℕ} {before now : List ℕ} (said : Result Input Failed) → Came n before now → length now ≤ n → Says said n n → Filled before now said
filled_whole {n} {before} said c full s =
    let all : n ≡ length before = omega (arith, came_length c) in
    record { count = n; came = c; says = subst (λ (size : ℕ). Says said n size) all s }

-- what is said to be the whole input stands in the buffer
pub whole_fits : {before now : List ℕ} {said : Result Input Failed} (n : ℕ) → said ≡ Ok (Whole n) → Filled before now said → n ≤ length now
whole_fits n e f = omega (arith, came_length f.came, rw e at f.says)

-- a part of the buffer that reaches to its end comes back with a piece at its start
pub kept : (buffer piece part : List ℕ) (done : ℕ) → done + length piece ≤ length buffer
    → part ≡ take (length piece) piece ++ drop (length piece) (take (length buffer - done) (drop done buffer))
    → take done buffer ++ (part ++ drop (length buffer - done) (drop done buffer)) ≡ placed_at done piece buffer
kept buffer piece part done fits e =
    let all : take (length buffer - done) (drop done buffer) ≡ drop done buffer =
    take_all (length buffer - done) (drop done buffer) (omega (arith, length-drop done buffer)) in
    let none : drop (length buffer - done) (drop done buffer) ≡ [] =
    drop_of_length-le (drop done buffer) {i = length buffer - done} (omega (arith, length-drop done buffer)) in
    rw (e, none, append-nil, all, take-length, drop-drop)

-- one piece more, behind what has come
came_more : {done n : ℕ} {before now after : List ℕ} → Came done before now → OneMore done now after n → Came (done + n) before after
came_more {done} {n} {before} {now} {after} c m =
    let front : take done now ≡ joined c.pieces =
    ap (take done) c.placed ∙ take_at (joined c.pieces) (drop done before) done (sym c.count) in
    let rest : drop (done + n) now ≡ drop (done + n) before =
    ap (drop (done + n)) c.placed
    ∙ ap (λ (k : ℕ). drop (k + n) (joined c.pieces ++ drop done before)) c.count
    ∙ drop-append-add (joined c.pieces) (drop done before) n
    ∙ drop-drop n done before in
    record {
      pieces = c.pieces ++ m.piece ∷ [];
      none_empty = none_empty_more c.pieces m.piece c.none_empty (omega arith);
      count = rw (joined_more c.pieces m.piece, length-append) (omega arith);
      fits = omega (arith, came_length c);
      placed = m.placed ∙ rw (m.size, front, rest, joined_more c.pieces m.piece, append_assoc);
    }

-- a piece more
pub came_piece : {done n : ℕ} {before now after : List ℕ} {piece : Result (Option ℕ) Failed} → Came done before now → piece ≡ Ok (Some n)
    → Added done now after piece → Came (done + n) before after
came_piece c e a = came_more c (rw e at a)

-- no piece more: the input has ended, or the read failed
pub filled_before : {done : ℕ} {before now after : List ℕ} (piece : Result (Option ℕ) Failed) → ((n : ℕ) → piece ≡ Ok (Some n) → ⊥)
    → Came done before now → Added done now after piece → Filled before after (said_after piece done)
filled_before (Ok (Some n)) none c a = absurd (none n refl)
filled_before (Ok None) none c a = record { count = _; came = came_same c a; says = refl }
filled_before (Err error) none c a = record { count = _; came = came_same c a.0; says = a.1 }
