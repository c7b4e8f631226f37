use Rattle.std.proofs.Common.{◌∙◌, ap, slice_get}
use Rattle.std.proofs.lemmas.Result.{err_from_is_err_and}
use Rattle.fancy_nfa_laws.specs.NfaSearch.{TakesUp}
use Rattle.fancy_backtrack.proofs.MemoLaws.{failed_by}
use Rattle.fancy_nfa.specs.Searches.{continuation_of}
use Rattle.fancy_nfa.specs.declared.nfa_state.NfaState.TheVariants as nfa_state
use Rattle.fancy_nfa.proofs.BackLaws.{comes_by, comes_further}
use Rattle.fancy_nfa.proofs.RunLaws.{body_read, loop_split_runs}
use Rattle.fancy_nfa.proofs.SearchLaws.{at_step, steps_by}
use Rattle.fancy_nfa.proofs.search.Searcher.take_up_loop_split.Goals as goal

pub skip_run-requires-clause-runs : goal.skip_run-requires-clause-runs
skip_run-requires-clause-runs c =
    loop_split_runs c.args.self.now c.args.m.now c.args.config c.in-Some.test.now c.args.first c.requires.at.0 c.requires.at.1 c.in-Some.ensures

pub skip_run-requires-clause-read : goal.skip_run-requires-clause-read
skip_run-requires-clause-read c = body_read c.args.self.now _ _ c.in-Some.test.now c.requires.searcher c.in-Some.ensures

pub returns-in_default-clause-leads : goal.returns-in_default-clause-leads
returns-in_default-clause-leads c = λ s f h here.
    let searcher = c.args.self.now in
    let p = nfa_state.LoopSplit c.args.first c.requires.at.0 in
    comes_by searcher s f c.loop_split.result c.loop_split.new.self
    (at_step searcher p c.args.config s f here.at c.requires.at.1 c.loop_split.result c.loop_split.new.self
    (c.loop_split.ensures.leads (continuation_of searcher) s c.requires.at.0 f h here (steps_by searcher p c.args.config s here.at c.requires.at.1)))

pub returns-in_err-on-clause-leads : goal.returns-in_err-on-clause-leads
returns-in_err-on-clause-leads c = λ s f h here.
    let p = err_from_is_err_and c.from_residual.result c.from_residual.ensures.1 in
    rw p.1 (0, failed_by c.args.m.now c.skip_run.new.m f.failed c.in_err-on.ensures.failed h.failed)

pub returns-clause-leads : goal.returns-clause-leads
returns-clause-leads c = λ s f h here.
    let searcher = c.args.self.now in
    let on = c.in_ok-on.on in
    let came = c.in_ok-on.ensures.ok s f h here in
    let g = came.1.0 in
    let t = came.1.1.0 in
    let stands = came.1.1.1.2 in
    let p = nfa_state.LoopSplit c.args.first c.requires.at.0 in
    let there = ap (slice_get searcher.states.now) c.in_ok-on.ensures.at ∙ c.requires.at.1 in
    comes_further searcher came.0 (TakesUp s f) (TakesUp t g) c.loop_split-2.result c.loop_split-2.new.self came.1.1.1.0
    (comes_by searcher t g c.loop_split-2.result c.loop_split-2.new.self
    (at_step searcher p on t g stands.at there c.loop_split-2.result c.loop_split-2.new.self
    (c.loop_split-2.ensures.leads (continuation_of searcher) t c.requires.at.0 g came.1.1.1.1 stands (steps_by searcher p on t stands.at there))))
