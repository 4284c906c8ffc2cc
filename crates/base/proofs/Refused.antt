-- Two refusals are the same where their numbers and places are; and what is shown of a refusal is shown of the answer that hands it on by `?`.
use Rattle.std.specs.Prelude.{Result, Err, IsErr, IsErrAnd}
use Prim.Native.Nat.{ℕ}
use mathlib.Core.Path.{◌≡◌, sym, ap, ap₂, subst, ◌∙◌}
use Rattle.std.proofs.lemmas.Result.{err_from_is_err_and}
use Rattle.base.specs.declared.refusal.Refusal.{Refusal}
use Rattle.base.specs.Refused.{refusal_at}

pub refused_same : {T : Type 0} (one two : Refusal ℕ) → one.number ≡ two.number → one.place ≡ two.place
    → ◌≡◌ {A = Result T (Refusal ℕ)} (Err one) (Err two)
refused_same one two number place = ap₂ (λ (n p : ℕ). Err (refusal_at n p)) number place

-- what is shown of a refusal is shown of the answer that hands it on
pub handed_on : {T : Type 0} (P : Result T (Refusal ℕ) → Type 0) {why : Refusal ℕ} {answer : Result T (Refusal ℕ)}
    → IsErr answer × IsErrAnd answer (λ handed. handed ≡ why) → P (Err why) → P answer
handed_on P {why} {answer} (_, e) p = by (err_from_is_err_and answer e)
  where
    by : (handed : Refusal ℕ) × (answer ≡ Err handed) × (handed ≡ why) → P answer
    by (handed, is, same) = subst P (sym (is ∙ ap Err same)) p

-- and so where the answer has a wider place
pub widened_on : {T : Type 0} (P : Result T (Refusal ℕ) → Type 0) {why : Refusal ℕ} {answer : Result T (Refusal ℕ)}
    → IsErr answer × IsErrAnd answer (λ handed. (handed.number ≡ why.number) × (handed.place ≡ why.place)) → P (Err why) → P answer
widened_on P {why} {answer} (_, e) p = by (err_from_is_err_and answer e)
  where
    by : (handed : Refusal ℕ) × (answer ≡ Err handed) × ((handed.number ≡ why.number) × (handed.place ≡ why.place)) → P answer
    by (handed, is, (number, place)) = subst P (sym (is ∙ refused_same handed why number place)) p
