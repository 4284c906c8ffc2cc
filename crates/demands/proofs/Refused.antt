-- Every refusal of the search is given exactly when it is due, with its place, and leaves lent memory as it was; and it answers exactly when
-- no row applies.
use Prim.Native.Nat.{ℕ, ◌≤◌}
use mathlib.Core.Path.{◌≡◌, ap, ◌∙◌}
use mathlib.Core.Logic.{◌↔◌}
use mathlib.Core.List.{List}
use Rattle.base.specs.Refusals.{Due, Clear, AllOnePlace, AllNumbered}
use Rattle.base.proofs.Refusals.{judged_exactly, judged_clear, judged_refused}
use Rattle.bundle.specs.declared.question.Question.{Question}
use Rattle.answers.specs.Answer.{Outcome, refusal}
use Rattle.search.specs.Promise.{Lent, search_rows, Promise}
use Rattle.search.proofs.Judging.{search_places, search_numbers}

module _ (bytes : List ℕ) (q : Question) (before after : Lent) (o : Outcome) (p : Promise bytes q before after o) where
  -- the refusal with this number and place is given exactly when it is due
  pub refused_due : (number place : ℕ) → 1 ≤ number → (o ≡ refusal number place) ↔ Due (search_rows bytes q before) number place
  refused_due number place l = (
    λ e. exactly.0 (ap (λ (x : Outcome). x.number) e, ap (λ (x : Outcome). x.place) e),
    λ d.
        let (number_is, place_is) = exactly.1 d in
        let (_, kept) = judged_refused _ places numbers p (rw number_is l) in
        kept.outcome ∙ rw (number_is, place_is),
  )
    where
      places : AllOnePlace (search_rows bytes q before)
      places = search_places bytes q before

      numbers : AllNumbered (search_rows bytes q before)
      numbers = search_numbers bytes q before

      exactly : ((o.number ≡ number) × (o.place ≡ place)) ↔ Due (search_rows bytes q before) number place
      exactly = judged_exactly (search_rows bytes q before) places numbers p number place l

  -- a refused call leaves every lent word and byte as it was
  pub refused_untouched : 1 ≤ o.number → after ≡ before
  refused_untouched l =
      let (_, kept) = judged_refused _ (search_places bytes q before) (search_numbers bytes q before) p l in kept.untouched

  -- a question is answered exactly when no row applies
  pub answered_due : (o.number ≡ 0) ↔ Clear (search_rows bytes q before)
  answered_due = judged_clear (search_rows bytes q before) (search_places bytes q before) (search_numbers bytes q before) p
