-- `ask::line_with` meets its contract.
use Rattle.answers.specs.Line.{line_of}
use Rattle.ask.proofs.Answered.{prints_answer}
use Rattle.ask.proofs.line_with.Goals as goal

pub returns : goal.returns
returns c =
    let answer = c.ask-answer.result in
    record {
      shown = line_of answer;
      holds = c.line.ensures;
      allowed = prints_answer c.args.input.now _ c.requires _ answer c.ask-answer.ensures;
    }
