-- What a text shows determines it, and bytes that are written into an empty text are what it then shows. And messages.
use Prim.Native.Nat.{ℕ, ◌-◌, ◌<◌, ◌≤◌}
use native.Mathlib.Omega.{arith}
use borrow.Author.Tests.{lt-ltb, le-ltb}
use mathlib.Core.Path.{◌≡◌, ap, sym, ◌∙◌}
use mathlib.Core.List.{List, [], ◌++◌}
use lib.ListN.{length, take, drop, replicate, length-replicate, take-append-drop}
use lib.Seq.{length-take-le, take-append_seam, drop-append_seam}
use Rattle.std.proofs.lemmas.List.{drop-replicate}
use Rattle.text.specs.Written.{Wrote}
use Rattle.text.proofs.Written.{wrote_text, wrote_length}
use Rattle.answers.specs.declared.line.Text.{Text}
use Rattle.answers.specs.Line.{capacity, message_of, Holds}

-- the length of a text is that of what it shows
pub length_shown : {text : Text} {shown : List ℕ} → Holds text shown → text.length ≡ length shown
length_shown {text} h = omega (arith, length-take-le text.length text.bytes (omega arith), ap length h.first)

-- the bytes of a text are those that it shows, and zeros up to its capacity
bytes_shown : {text : Text} {shown : List ℕ} → Holds text shown → text.bytes ≡ shown ++ replicate (capacity - length shown) 0
bytes_shown {text} h = sym (take-append-drop text.length text.bytes) ∙ rw (h.first, h.rest, length_shown h)

-- two texts that show the same are the same
pub one_text : {a b : Text} {shown : List ℕ} → Holds a shown → Holds b shown → a ≡ b
one_text {a} {b} h k =
    let bytes : a.bytes ≡ b.bytes = bytes_shown h ∙ sym (bytes_shown k) in
    let length : a.length ≡ b.length = length_shown h ∙ sym (length_shown k) in
    ap (λ (l : List ℕ). record { bytes = l; length = a.length }) bytes
    ∙ ap (λ (n : ℕ). record { bytes = b.bytes; length = n }) length

-- zeros with bytes over their front: the bytes, and then zeros
over_zeros : {zeros shown after : List ℕ} {next : ℕ} (k : ℕ) → zeros ≡ replicate k 0 → Wrote zeros 0 shown after next → length shown ≤ k
    → (take next after ≡ shown) × (drop next after ≡ replicate (k - next) 0)
over_zeros {zeros} {shown} {after} k e w room =
    let (bytes, place) = wrote_text w (omega (arith, ap length e, length-replicate {A = ℕ})) in
    let whole : after ≡ shown ++ replicate (k - length shown) 0 =
    bytes ∙ rw e (ap (λ (l : List ℕ). shown ++ l) (drop-replicate (length shown) k 0)) in
    rw (place, whole) (take-append_seam shown _, drop-append_seam shown _)

-- what is written into an empty text is what it shows, where it has room
pub holds_written : {start text : Text} {shown : List ℕ} → Holds start [] × (start.length ≡ 0)
    → Wrote start.bytes start.length shown text.bytes text.length → length shown ≤ capacity → Holds text shown
holds_written {start} (h, none) w room =
    let (first, rest) = over_zeros capacity (bytes_shown h) (rw none at w) room in
    record { size = wrote_length w ∙ h.size; fits = omega arith; first = first; rest = rest }

-- a message that is too long, and one that fits
pub message_long : (words : List ℕ) → capacity < length words → message_of words ≡ []
message_long words h = rw (lt-ltb capacity (length words) h)

pub message_fits : (words : List ℕ) → length words ≤ capacity → message_of words ≡ words
message_fits words h = rw (le-ltb capacity (length words) h)
