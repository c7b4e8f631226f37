use Rattle.std.proofs.Common.{◌≡◌, ◌++◌, ℕ, [], map, take}
use Rattle.std.specs.BTreeMap as tree
use Rattle.std.specs.Ordering.{nat_cmp}
use Rattle.fancy_nfa_laws.specs.FirstWays.{spans_of}
use Rattle.fancy_backtrack.specs.Paths.{closed_after}
use Rattle.fancy_nfa.specs.Ways.{span_entry}
use Rattle.fancy_nfa.proofs.first_way.spans_by_map.Given as goal

abbrev pub invariant-loop-entry : goal.invariant-loop-entry
invariant-loop-entry l = (g : ℕ) → tree.get nat_cmp l.last g ≡ spans_of (closed_after [] (take l.entry-index l.entries)) g

abbrev pub invariant-loop-group : goal.invariant-loop-group
invariant-loop-group l = map span_entry l.spans.items ++ l.group-iterator ≡ l.initial.group-iterator
