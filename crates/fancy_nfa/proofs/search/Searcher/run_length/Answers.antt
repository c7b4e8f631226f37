use Rattle.std.proofs.Common.{sym, ◌∙◌, arith}
use Rattle.fancy_nfa.proofs.RunLaws.{blank_run, may_pass_by, one_further}
use Rattle.fancy_nfa.proofs.search.Searcher.run_length.Goals as goal

pub run-preserved : goal.run-preserved
run-preserved c =
    let searcher = c.args.self.now in
    let m = c.args.m.now in
    let test = c.args.test.now in
    let here = c.args.config in
    let on = c.run.invariant.0 in (
      omega (arith, on),
      one_further searcher m test here c.run.end on c.run.invariant.1
          (may_pass_by c.as_bytes-text.result.now searcher m test here c.run.end c.as_bytes-text.ensures.value c.run-test.true c.if-text-end-lt128.true
          (sym c.takes_ascii.ensures ∙ c.if-takes_ascii.true) (c.may_have_failed.ensures c.if-not-may_have_failed.true)),
    )

pub returns-clause-run : goal.returns-clause-run
returns-clause-run c i from below = c.run.invariant.1 i from (let on = c.run.invariant.0 in omega (arith, on, below))

pub returns-then-is_blank-clause-run : goal.returns-then-is_blank-clause-run
returns-then-is_blank-clause-run c =
    blank_run c.as_bytes-text.result.now c.args.self.now c.args.m.now c.args.test.now c.args.config c.skip_ascii.result
    c.as_bytes-text.ensures.value c.skip_ascii.ensures.pass c.skip_ascii.ensures.further (c.is_blank.ensures c.if-is_blank.true)
