use Rattle.std.proofs.Common.{◌≤◌, ◌-◌, [], length}
use Rattle.fancy_nfa_laws.specs.NfaSearch.{passes}
use Rattle.fancy_nfa.specs.AsciiRuns.{AllPass}
use Rattle.fancy_nfa.specs.Views.{test_of}
use Rattle.fancy_nfa.proofs.nfa_state.CharTest.skip_ascii.Given as goal

abbrev pub invariant-run : goal.invariant-run
invariant-run l = AllPass (passes [] l.unicode (test_of l.self)) l.text l.from l.place × (l.from ≤ l.place)

abbrev pub decreases-run : goal.decreases-run
decreases-run l = length l.text - l.place

abbrev pub invariant-ascii : goal.invariant-ascii
invariant-ascii l = AllPass (passes [] l.unicode (test_of l.self)) l.text l.from l.place × (l.from ≤ l.place)

abbrev pub decreases-ascii : goal.decreases-ascii
decreases-ascii l = length l.text - l.place

abbrev pub invariant-class : goal.invariant-class
invariant-class l = AllPass (passes [] l.unicode (test_of l.self)) l.text l.from l.place × (l.from ≤ l.place)

abbrev pub decreases-class : goal.decreases-class
decreases-class l = length l.text - l.place
