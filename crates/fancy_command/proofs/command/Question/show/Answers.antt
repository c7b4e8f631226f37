use Rattle.std.proofs.lemmas.Result.{err_from_is_err_and}
use Rattle.fancy_command.specs.Commands.{unread}
use Rattle.fancy_command.proofs.command.Question.show.Goals as goal

pub returns-in_err-answer_line : goal.returns-in_err-answer_line
returns-in_err-answer_line c =
    let p = err_from_is_err_and c.from_residual-in_err-answer_line.result c.from_residual-in_err-answer_line.ensures.1 in
    rw (p.1, p.2) (unread tt)
