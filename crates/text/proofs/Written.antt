-- Bytes written one after the other are written together, and a text that has room from the first byte on stands at the front, with
-- everything behind it as it was.
use Prim.Native.Nat.{ℕ, suc, ◌+◌, ◌≤◌, ◌<◌}
use native.Mathlib.Decide.{dec_le}
use native.Mathlib.Omega.{arith}
use native.Mathlib.Nat.{add-zero}
use mathlib.Core.Path.{◌≡◌, refl, sym, ap, ◌∙◌}
use mathlib.Core.List.{List, [], ◌∷◌, ◌++◌}
use lib.ListN.{length, set, drop, length-set, length-append}
use lib.Seq.{set_out}
use Rattle.text.specs.Written.{over, Wrote}

-- the memory keeps its length
length_over : (bytes : List ℕ) (at : ℕ) (more : List ℕ) → length (over bytes at more) ≡ length bytes
unfolding over
length_over bytes at [] = refl
length_over bytes at (b ∷ more) = length_over (set bytes at b) (suc at) more ∙ length-set bytes at b

-- behind the end nothing is written
over_out : (bytes : List ℕ) (at : ℕ) (more : List ℕ) → length bytes ≤ at → over bytes at more ≡ bytes
unfolding over
over_out bytes at [] out = refl
over_out bytes at (b ∷ more) out = rw (set_out bytes at b out) (over_out bytes (suc at) more (omega arith))

-- bytes behind bytes
over_both : (bytes : List ℕ) (at : ℕ) (more still : List ℕ) → over (over bytes at more) (at + length more) still ≡ over bytes at (more ++ still)
unfolding over
over_both bytes at [] still = simp add-zero refl
over_both bytes at (b ∷ more) still =
    let same : at + suc (length more) ≡ suc at + length more = omega arith in
    rw same (over_both (set bytes at b) (suc at) more still)

-- one byte more before the memory
over_behind : (x : ℕ) (bytes : List ℕ) (at : ℕ) (more : List ℕ) → over (x ∷ bytes) (suc at) more ≡ x ∷ over bytes at more
unfolding over
over_behind x bytes at [] = refl
over_behind x bytes at (b ∷ more) = over_behind x (set bytes at b) (suc at) more

-- a text that has room at the front
over_front : (bytes more : List ℕ) → length more ≤ length bytes → over bytes 0 more ≡ more ++ drop (length more) bytes
unfolding over
over_front bytes [] room = refl
over_front [] (b ∷ more) room = absurd (omega arith)
over_front (x ∷ bytes) (b ∷ more) room = over_behind b bytes 0 more ∙ ap (λ (l : List ℕ). b ∷ l) (over_front bytes more (omega arith))

pub wrote_length : {before after more : List ℕ} {at next : ℕ} → Wrote before at more after next → length after ≡ length before
wrote_length {before} {more = more} {at} w = ap length w.bytes ∙ length_over before at more

-- nothing
pub wrote_none : (before : List ℕ) (at : ℕ) → Wrote before at [] before at
unfolding over
wrote_none before at = record { bytes = refl; place = omega arith }

-- one byte, where there is room and where there is none
pub wrote_byte : (before : List ℕ) (at byte : ℕ) → at < length before → Wrote before at (byte ∷ []) (set before at byte) (at + 1)
unfolding over
wrote_byte before at byte room = record { bytes = refl; place = omega arith }

pub wrote_no_byte : (before : List ℕ) (at byte : ℕ) → length before ≤ at → Wrote before at (byte ∷ []) before at
wrote_no_byte before at byte out = record { bytes = sym (over_out before at (byte ∷ []) out); place = omega arith }

-- bytes behind bytes
pub wrote_more : {before between after more still : List ℕ} {at next last : ℕ} → Wrote before at more between next
    → Wrote between next still after last → Wrote before at (more ++ still) after last
wrote_more {before} {between} {after} {more} {still} {at} {next} {last} w v =
    record { bytes = both (dec_le (at + length more) (length before)); place = rw length-append (omega (arith, wrote_length w)) }
  where
    both : Dec (at + length more ≤ length before) → after ≡ over before at (more ++ still)
    both (yes room) =
        let there : next ≡ at + length more = omega arith in
        v.bytes ∙ rw (w.bytes, there) (over_both before at more still)
    both (no full) =
        v.bytes ∙ over_out between next still (omega (arith, wrote_length w)) ∙ w.bytes
        ∙ sym (over_out (over before at more) (at + length more) still (omega (arith, length_over before at more)))
        ∙ over_both before at more still

-- a text that has room: it stands at the front, everything behind it stays, and the place is its length
pub wrote_text : {before after text : List ℕ} {next : ℕ} → Wrote before 0 text after next → length text ≤ length before
    → (after ≡ text ++ drop (length text) before) × (next ≡ length text)
wrote_text {before} {text = text} w room = (w.bytes ∙ over_front before text room, omega arith)
