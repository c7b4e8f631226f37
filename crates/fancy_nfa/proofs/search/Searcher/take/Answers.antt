use Rattle.std.proofs.Common.{sym, ap, ◌∙◌, subst, ◌+◌, Some}
use Rattle.fancy_nfa_laws.specs.NfaSearch as plain
use Rattle.fancy_nfa_laws.specs.NfaStates as states
use Rattle.fancy_nfa_laws.specs.NfaSearch.{Next, Search, TakesBack, TakesUp, pair_of}
use Rattle.fancy_nfa.specs.Views.{test_of}
use Rattle.fancy_backtrack.specs.Memos.{HaveFailed}
use Rattle.fancy_nfa.specs.Searches.{continuation_of}
use Rattle.std.proofs.lemmas.Result.{err_from_is_err_and}
use Rattle.fancy_meaning.specs.Moves.{past_char}
use Rattle.fancy_backtrack.specs.declared.memo.Memo.{Memo}
use Rattle.fancy_backtrack.proofs.MemoLaws.{here_by, here_past, one_visit}
use Rattle.fancy_nfa.proofs.search.Searcher.take.Goals as goal

-- src/search.rt:502:15
pub returns-in_err-place-clause-leads : goal.returns-in_err-place-clause-leads
returns-in_err-place-clause-leads c = λ s f h here.
    let p = err_from_is_err_and c.from_residual.result c.from_residual.ensures.1 in
    rw p.1
    (subst (λ (m : Memo). HaveFailed m f.failed) (sym c.count.ensures) h.failed)

-- src/search.rt:491:5
pub returns-in-Some-clause-leads : goal.returns-in-Some-clause-leads
returns-in-Some-clause-leads c = λ s f h here.
    let searcher = c.args.self.now in
    let test = test_of c.args.test.now in
    let past = past_char searcher.text.now (plain.passes searcher.text.now searcher.unicode test) in
    let counted = record f { visits = f.visits + 1 } in (
      counted,
      (
        record (plain.forward s) { place = c.in-Some.place },
        (
          ap (λ o. plain.next_by (plain.goes_past s o) (Some (states.Character test)) s f)
              (ap past (sym here.place) ∙ sym c.in_ok-place.ensures.ok ∙ c.in-Some.is),
          one_visit (continuation_of searcher) c.args.m.now f h c.count.new.self c.count.ensures,
          here_past c.count.new.self c.args.config s c.in-Some.place
              (here_by c.args.m.now c.count.new.self c.args.config s (ap (λ (m : Memo). m.trail) c.count.ensures) here),
        ),
      ),
    )

-- src/search.rt:491:5
pub returns-in-None-clause-leads : goal.returns-in-None-clause-leads
returns-in-None-clause-leads c = λ s f h here.
    let searcher = c.args.self.now in
    let test = test_of c.args.test.now in
    let past = past_char searcher.text.now (plain.passes searcher.text.now searcher.unicode test) in
    let counted = record f { visits = f.visits + 1 } in (
      counted,
      (
        ap (λ o. plain.next_by (plain.goes_past s o) (Some (states.Character test)) s f)
            (ap past (sym here.place) ∙ sym c.in_ok-place.ensures.ok ∙ c.in-None.is),
        one_visit (continuation_of searcher) c.args.m.now f h c.count.new.self c.count.ensures,
      ),
    )
