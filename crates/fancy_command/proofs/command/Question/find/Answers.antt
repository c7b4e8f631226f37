use Rattle.std.proofs.lemmas.Result.{err_from_is_err_and}
use Rattle.fancy_command.specs.Commands.{unread, asked}
use Rattle.fancy_command.proofs.Asked.{answers_by}
use Rattle.fancy_command.proofs.command.Question.find.Goals as goal

pub returns-in_err-tree : goal.returns-in_err-tree
returns-in_err-tree c =
    let p = err_from_is_err_and c.from_residual.result c.from_residual.ensures.1 in
    rw (p.1, p.2) (unread c.in_err-tree.ensures.answer)

pub returns : goal.returns
returns c =
    let o = c.options-options in
    answers_by (asked c.args.self.now) c.in_ok-tree.tree o.result c.search.result c.in_ok-tree.ensures.answer o.ensures.analysis o.ensures.compilation
    o.ensures.run c.search.ensures.promise
