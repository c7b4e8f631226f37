use Rattle.std.proofs.Common.{◌≡◌, ℕ, [], take}
use Rattle.fancy_nfa_laws.specs.FirstWays.{spans_of}
use Rattle.fancy_backtrack.specs.Paths.{closed_after}
use Rattle.fancy_nfa.specs.Ways.{listed}
use Rattle.fancy_nfa.proofs.WayLaws.{AreBelow, Rise}
use Rattle.fancy_nfa.proofs.first_way.spans.Given as goal

abbrev pub invariant-loop-entry : goal.invariant-loop-entry
invariant-loop-entry l =
    AreBelow l.behind l.spans.items × Rise l.spans.items
    × ((g : ℕ) → listed l.spans.items g ≡ spans_of (closed_after [] (take l.entry-index l.entries)) g)
