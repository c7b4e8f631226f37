use Rattle.std.proofs.Common.{sym, ◌∙◌, arith}
use Rattle.fancy_nfa.proofs.OnePassLaws.{Test, past_char_further, runs_both, runs_further, runs_out}
use Rattle.fancy_nfa.proofs.search.Searcher.skip_all.Goals as goal

pub run-init : goal.run-init
run-init c = (c.skip_ascii-place.ensures.further, c.skip_ascii-place.ensures.on)

pub run-preserved : goal.run-preserved
run-preserved c =
    let searcher = c.args.self.now in
    let test = c.args.test.now in
    let from = c.args.from in
    let place = c.run.place in
    let next = c.in-Some.next in
    let end = c.skip_ascii-place-in-Some.result in
    let past = sym c.in_ok-next.ensures.ok ∙ c.in-Some.is in
    let over = past_char_further searcher.text.now (Test searcher test) place next past in
    let further = c.skip_ascii-place-in-Some.ensures.further in
    let before = c.run.invariant.0 in (
      omega (arith, before, over, further),
      runs_both searcher test from next end (runs_further searcher test from place next c.run.invariant.1 past) c.skip_ascii-place-in-Some.ensures.on,
    )

pub returns : goal.returns
returns c = runs_out c.args.self.now c.args.test.now c.args.from c.run.place c.run.invariant.1 (sym c.in_ok-next.ensures.ok ∙ c.in_default.is)
