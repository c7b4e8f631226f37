use Rattle.std.proofs.Common.{◌≡◌, ◌+◌, ◌-◌, ℕ, length}
use Rattle.fancy_nfa.specs.GroupSpans.{span_from}
use Rattle.fancy_nfa.proofs.group_spans.grow.Given as goal

abbrev pub invariant-groups : goal.invariant-groups
invariant-groups l = (first g : ℕ) → span_from first l.spans.items g ≡ span_from first l.initial.spans.items g

abbrev pub decreases-groups : goal.decreases-groups
decreases-groups l = l.index + 1 - length l.spans.items
