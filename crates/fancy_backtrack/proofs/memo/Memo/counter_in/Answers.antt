use Rattle.std.proofs.Common.{refl, ap, ◌∙◌, subst, ◌∷◌}
use Rattle.fancy_nfa_laws.specs.NfaSearch as plain
use Rattle.fancy_nfa_laws.specs.NfaSearch.{Next, Search, TakesBack, TakesUp, pair_of}
use Rattle.fancy_backtrack.specs.Paths.{counter_of}
use Rattle.fancy_backtrack.specs.Loops.{loop_of}
use Rattle.fancy_backtrack.specs.Memos.{IsHere}
use Rattle.fancy_backtrack.proofs.memo.Memo.counter_in.Goals as goal

-- src/search.rt:392:5
pub returns-clause-leads : goal.returns-clause-leads
returns-clause-leads c = λ continuation s f around h here le has.
    let next = plain.next_counter (loop_of c.args.bounds) s.place (counter_of c.args.counter) in (
      f,
      (
        record (plain.forward s) { counters = next ∷ around },
        (
          refl,
          c.in_ok-on.ensures.search continuation f h,
          subst (λ t. IsHere c.begin_iteration.new.self c.in_ok-on.on (record (plain.forward s) { counters = t ∷ around }))
              (c.next_counter-next.ensures ∙ ap (λ i. plain.next_counter (loop_of c.args.bounds) i (counter_of c.args.counter)) here.place)
              (c.in_ok-on.ensures.here s around here le has),
        ),
      ),
    )
