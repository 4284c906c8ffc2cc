-- `tables::round::round` meets its contract. The invariant: the words are those after one use of each of the first steps.
use mathlib.Core.Path.{◌≡◌}
use Rattle.words.specs.Step.{use_steps}
use Rattle.tables.proofs.round.round.Given as goal

abbrev pub invariant-loop-step : goal.invariant-loop-step
invariant-loop-step l = l.to ≡ use_steps l.entities l.steps l.from l.initial.to l.step-index
