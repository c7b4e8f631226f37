use Rattle.std.proofs.Common.{Ok, Some, sym, subst}
use Rattle.fancy_nfa_laws.specs.NfaSearch as plain
use Rattle.fancy_nfa_laws.specs.NfaStates.{Close}
use Rattle.fancy_backtrack.specs.Memos.{Simulates}
use Rattle.fancy_backtrack.specs.declared.memo.StepResult.TheVariants as step_result
use Rattle.fancy_backtrack.specs.declared.trail.NfaConfig.{NfaConfig}
use Rattle.fancy_backtrack.proofs.MemoLaws.{close_none, close_steps}
use Rattle.fancy_backtrack.proofs.memo.Memo.close.Goals as goal

pub returns-in_default-clause-leads : goal.returns-in_default-clause-leads
returns-in_default-clause-leads c = λ continuation s f h here.
    let m = c.args.self.now in
    subst (λ (x : NfaConfig). Simulates continuation s f.failed (plain.next_by (plain.close_step c.args.group s s.opened) (Some (Close c.args.group)) s f)
    (Ok (step_result.Goes x)) m) (sym c.forward.ensures)
    (close_none m c.args.config s continuation f c.args.group h here c.in_default.ensures)

pub returns-clause-leads : goal.returns-clause-leads
returns-clause-leads c = λ continuation s f h here.
    close_steps c.args.self.now c.push.new.self c.args.config s continuation f c.args.group c.in-Some.from c.in-Some.outer h here
    c.in-Some.ensures c.in_ok-push.ensures.entries
