-- The part of the input behind the bytes of a question is the bundle, which is empty where there are fewer bytes; and what stands between the two
-- is so much of its bytes as is there.
use Prim.Native.Nat.{ℕ, ◌+◌, ◌-◌, ◌≤◌, min}
use native.Mathlib.Decide.{dec_le}
use native.Mathlib.Omega.{arith}
use mathlib.Core.Path.{◌≡◌, sym, ◌∙◌, ap, ap₂}
use mathlib.Core.List.{List}
use lib.ListN.{length, take, drop, length-drop, drop_of_length-le}
use lib.Seq.{take_all}
use Rattle.asked.specs.Behind.{bundle_behind}

pub bundle_part : (question : ℕ) (input : List ℕ) (start : ℕ) → start ≡ min question (length input)
    → take (length input - start) (drop start input) ≡ bundle_behind question input
bundle_part question input start e = part (dec_le question (length input))
  where
    whole : take (length input - start) (drop start input) ≡ drop start input
    whole = take_all (length input - start) (drop start input) (omega (arith, length-drop start input))

    part : Dec (question ≤ length input) → take (length input - start) (drop start input) ≡ bundle_behind question input
    part (yes h) = let all : start ≡ question = omega arith in whole ∙ ap (λ (k : ℕ). drop k input) all
    part (no h) =
        let short : length input ≤ start = omega arith in
        let shorter : length input ≤ question = omega arith in
        whole ∙ drop_of_length-le input short ∙ sym (drop_of_length-le input shorter)

-- so many bytes behind the question, or as many as there are
pub part_between : (question size : ℕ) (input : List ℕ) (start end : ℕ) → start ≡ min question (length input)
    → end ≡ min (question + size) (length input) → take (end - start) (drop start input) ≡ take size (drop question input)
part_between question size input start end e f = part (dec_le (question + size) (length input)) (dec_le question (length input))
  where
    part : Dec (question + size ≤ length input) → Dec (question ≤ length input)
        → take (end - start) (drop start input) ≡ take size (drop question input)
    part (yes g) _ =
        let all : start ≡ question = omega arith in
        let whole : end - start ≡ size = omega arith in
        ap₂ (λ (n k : ℕ). take n (drop k input)) whole all
    part (no g) (yes h) =
        let all : start ≡ question = omega arith in
        take_all (end - start) (drop start input) (omega (arith, length-drop start input)) ∙ ap (λ (k : ℕ). drop k input) all
        ∙ sym (take_all size (drop question input) (omega (arith, length-drop question input)))
    part (no g) (no h) =
        let short : length input ≤ start = omega arith in
        let shorter : length input ≤ question = omega arith in
        take_all (end - start) (drop start input) (omega (arith, length-drop start input)) ∙ drop_of_length-le input short
        ∙ sym (drop_of_length-le input shorter) ∙ sym (take_all size (drop question input) (omega (arith, length-drop question input)))
