use Rattle.std.proofs.Common.{◌+◌, ◌-◌, ◌++◌, true, refl, ap, ◌∙◌, arith}
use Rattle.fancy_backtrack.specs.BacktrackStack.{choices_of, run_choices}
use Rattle.fancy_backtrack.specs.declared.trail.NfaConfig.{NfaConfig}
use Rattle.fancy_backtrack.proofs.KeptRunLaws.{run_stands}
use Rattle.fancy_backtrack.proofs.memo.Memo.keep_run.Goals as goal

pub returns-clause-ok : goal.returns-clause-ok
returns-clause-ok c = λ continuation f s first second h stands loop_splits.
    let m = c.args.self.now in
    let count = c.args.count in
    let last : NfaConfig = record c.args.config { place = c.args.config.place + count - 1 } in
    run_stands continuation m (record m { frames = c.push.new.self; visits = c.saturating_add-self.result }) c.args.config
    (record c.args.config { place = c.args.config.place + count }) s f first second count (c.args.config.place + count - 1) c.requires.some refl refl
    (c.in_ok-push.ensures
    ∙ ap (λ path. run_choices (count - 1) (record { config = last; path = path; is_untried = true }) ++ choices_of m.frames) c.len.ensures)
    refl (omega (arith, c.saturating_add-self.ensures, c.saturating_mul.ensures)) h stands loop_splits
