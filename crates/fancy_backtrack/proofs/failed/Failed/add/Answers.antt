use Rattle.std.proofs.Common.{sym}
use Rattle.std.proofs.lemmas.Result.{on_ok_weaker, on_err_weaker}
use Rattle.fancy_backtrack.proofs.FailedLaws.{number_set, list_added, same_words, same_lists, on_err}
use Rattle.fancy_backtrack.proofs.failed.Failed.add.Goals as goal

pub returns-in_err-insert-in-None-clause-err : goal.returns-in_err-insert-in-None-clause-err
returns-in_err-insert-in-None-clause-err c =
    on_err c.from_residual-in_err-insert-in-None.result
    (same_lists c.args.self.now c.insert.new.self c.in_err-insert-in-None.ensures.err)

pub returns-in-Some-clause-ok : goal.returns-in-Some-clause-ok
returns-in-Some-clause-ok c =
    on_ok_weaker c.set_number.result (number_set c.args.self.now c.set_number.new.words c.args.pair.now c.in-Some.number (sym c.in-Some.ensures))
    c.set_number.ensures.ok

pub returns-in-Some-clause-err : goal.returns-in-Some-clause-err
returns-in-Some-clause-err c =
    on_err_weaker c.set_number.result (same_words c.args.self.now c.set_number.new.words) c.set_number.ensures.err

pub returns-in_ok-insert-in-None-clause-ok : goal.returns-in_ok-insert-in-None-clause-ok
returns-in_ok-insert-in-None-clause-ok c =
    let h = c.in_ok-insert-in-None.ensures in
    list_added c.args.self.now c.insert.new.self _ c.args.pair.now c.in_ok-pair-in-None.pair _ (sym c.in-None.ensures)
    c.in_ok-pair-in-None.ensures.items h.added h.keys
