use Rattle.fancy_backtrack.specs.declared.trail.Entry.TheVariants as entry
use Rattle.fancy_backtrack.proofs.MemoLaws.{here_in_turn, search_pushed}
use Rattle.fancy_backtrack.proofs.memo.Memo.begin_iteration.Goals as goal

-- src/search.rt:205:5
pub returns-clause-here : goal.returns-clause-here
returns-clause-here c = λ s counters h le has.
    here_in_turn c.args.self.now c.push.new.self c.args.config s h c.args.outer c.in_ok-counters.counters c.args.counter counters
    c.in_ok-counters.ensures.entries c.in_ok-counters.ensures.link le has

-- src/search.rt:205:5
pub returns-clause-search : goal.returns-clause-search
returns-clause-search c =
    search_pushed c.args.self.now c.push.new.self (entry.LoopCounter c.args.outer c.args.counter) c.in_ok-counters.ensures.entries
