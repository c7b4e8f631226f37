use Rattle.fancy_vm.proofs.AttemptsLaws.{fresh_memos}
use Rattle.fancy_vm.proofs.runs.begin_attempts.Goals as goal

pub returns-clause-may : goal.returns-clause-may
returns-clause-may c prog text = record {
  are_memos = λ task _ _. c.forget_cost.ensures.memos task (fresh_memos c.renew_memos.new.self.memos c.renew_memos.ensures task);
}
