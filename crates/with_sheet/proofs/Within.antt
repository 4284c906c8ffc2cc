-- Only the roles of a bundle count: where two tests of open roles agree on these, what is promised by one is promised by the other.
use Rattle.std.specs.Prelude.{Result}
use Prim.Native.Nat.{ℕ}
use mathlib.Core.Path.{sym}
use mathlib.Core.List.{List, [], ◌∷◌}
use Rattle.rt0.specs.Membership.{Assignment}
use Rattle.rt0.specs.Completion.{Open, Completable}
use Rattle.rt0.proofs.Possible.{SameWithin, completable_within, answers_within}
use Rattle.rt0.proofs.Shown.{shows_as}
use Rattle.base.specs.declared.refusal.Refusal.{Refusal}
use Rattle.base.specs.Refusals.{Clear, refused, passed}
use Rattle.base.proofs.Refusals.{clear_first}
use Rattle.bundle.specs.declared.question.Question.{Question}
use Rattle.bundle.specs.Layout.{entities_of, names_of}
use Rattle.bundle.specs.Rows.{reader_rows}
use Rattle.bundle.specs.Held.{held, holding_with}
use Rattle.bundle.specs.Question.{question_row}
use Rattle.answers.specs.Answer.{Outcome}
use Rattle.words.specs.Sizes.{most_entities, width}
use Rattle.tables.specs.declared.Filled.{Filled}
use Rattle.tables.specs.Promise.{Tables, TableLeft, FilledWith, short_row, TablesWith}
use Rattle.search.specs.Promise.{Lent, lent_row, AnsweredWith, PromiseWith}

-- where the reader accepts the bundle, the two tests agree on its roles
abbrev pub Agree : List ℕ → Open → Open → Type 0
Agree bytes is_open other = Clear (reader_rows bytes) → SameWithin (entities_of bytes) (names_of bytes) is_open other

module _ (bytes : List ℕ) (is_open other : Open) (agree : Agree bytes is_open other) where
  module _ (clear : Clear (reader_rows bytes)) where
    abbrev By : Open → Assignment
    By o = Completable (entities_of bytes) (names_of bytes) o (held bytes)

    possible_within : {before after : List ℕ} → TableLeft (By is_open) before after → TableLeft (By other) before after
    possible_within {before} {after} t =
        record {
          shows = shows_as most_entities width after (By is_open) (By other)
              (λ ρ D. (
                completable_within _ _ other is_open (λ σ v. sym (agree clear σ v)) (held bytes) ρ D,
                completable_within _ _ is_open other (agree clear) (held bytes) ρ D,
              ))
              t.shows;
          rest = t.rest;
          size = t.size;
          small = t.small;
        }

    filled_within : {before after : Tables} {n : ℕ} → FilledWith (holding_with is_open bytes) before after n
        → FilledWith (holding_with other bytes) before after n
    filled_within f =
        record { rounds = f.rounds; few_rounds = f.few_rounds; sure = f.sure; possible = possible_within f.possible }

    answered_within : {q : Question} {before after : Lent} {o : Outcome} → AnsweredWith (holding_with is_open bytes) q before after o
        → AnsweredWith (holding_with other bytes) q before after o
    answered_within a =
        record {
          word = a.word;
          answers = answers_within (entities_of bytes) (names_of bytes) is_open other (agree clear) (held bytes) _ _ a.word a.answers;
          outcome = a.outcome;
          rounds = a.rounds;
          few_rounds = a.few_rounds;
          sure = a.sure;
          possible = possible_within a.possible;
          slip = a.slip;
        }

  pub tables_within : (before after : Tables) (o : Result Filled (Refusal ℕ)) → TablesWith is_open bytes before after o → TablesWith other bytes before after o
  tables_within before after o (refused d k) = refused d k
  tables_within before after o (passed z p c g) =
      passed z p c (record { sizes = g.sizes; filled = filled_within (clear_first (reader_rows bytes) (short_row before ∷ []) c) g.filled })

  pub promise_within : (q : Question) (before after : Lent) (o : Outcome) → PromiseWith is_open bytes q before after o
      → PromiseWith other bytes q before after o
  promise_within q before after o (refused d k) = refused d k
  promise_within q before after o (passed z p c g) =
      passed z p c (answered_within (clear_first (reader_rows bytes) (question_row bytes q ∷ lent_row before ∷ []) c) g)
