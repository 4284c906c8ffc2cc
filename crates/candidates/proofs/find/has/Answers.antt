-- `candidates::find::has` meets its contract.
use native.Mathlib.Omega.{arith}
use mathlib.Core.Path.{◌∙◌}
use borrow.Author.Tests.{lt-leb}
use Rattle.std.proofs.lemmas.Slice.Eq.{slice_eq-Decides}
use Rattle.std.proofs.lemmas.Bool.Decides.{Decides-eqb}
use Rattle.candidates.proofs.Words.{word_found, word_past}
use Rattle.candidates.proofs.find.has.Goals as goal

pub returns-then-at-line : goal.returns-then-at-line
returns-then-at-line c =
    let args = c.args in
    let (there, back) = slice_eq-Decides Decides-eqb _ _ _ c.starts_with.ensures.value in
    word_found args.line.now args.at args.word.now _ there back

pub returns-else-at-line : goal.returns-else-at-line
returns-else-at-line c =
    let args = c.args in
    lt-leb _ _ c.if-at-line.false ∙ word_past args.line.now args.at args.word.now (omega arith) c.requires.1
