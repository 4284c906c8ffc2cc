-- The parts of a packed outcome come back, so two outcomes that fit are packed to the same number only if they are the same.
use Prim.Native.Nat.{ℕ}
use native.Mathlib.Omega.{arith}
use mathlib.Core.Path.{◌≡◌, ap, sym, ◌∙◌}
use Rattle.answers.specs.Answer.{Outcome}
use Rattle.answers.specs.Pack.{packed, number_in, place_in, verdict_in, rounds_in, lines_in, unpacked, Fits, Packs}

-- each part comes back
pub unpacked_packed : (o : Outcome) → Fits o → unpacked (packed o) ≡ o
unpacked_packed o h =
    let number : number_in (packed o) ≡ o.number = omega arith in
    let place : place_in (packed o) ≡ o.place = omega arith in
    let verdict : verdict_in (packed o) ≡ o.verdict = omega arith in
    let rounds : rounds_in (packed o) ≡ o.rounds = omega arith in
    let lines : lines_in (packed o) ≡ o.lines = omega arith in
    rw (number, place, verdict, rounds, lines)

-- two outcomes that fit have one packed number only if they are one outcome
pub packed_once : (o p : Outcome) → Fits o → Fits p → packed o ≡ packed p → o ≡ p
packed_once o p h k e = sym (unpacked_packed o h) ∙ ap unpacked e ∙ unpacked_packed p k

-- a number that packs an outcome unpacks to it
pub packs_unpacked : (o : Outcome) (n : ℕ) → Packs o n → unpacked n ≡ o
packs_unpacked o n p = ap unpacked p.packing ∙ unpacked_packed o p.fits
