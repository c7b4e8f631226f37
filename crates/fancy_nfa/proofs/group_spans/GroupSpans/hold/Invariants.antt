use Rattle.std.proofs.Common.{◌≡◌, ℕ, drop}
use Rattle.fancy_nfa.specs.GroupSpans.{span_from}
use Rattle.fancy_nfa.specs.Ways.{Ascends, listed}
use Rattle.fancy_nfa.proofs.GroupSpansLaws.{or_else}
use Rattle.fancy_nfa.proofs.group_spans.GroupSpans.hold.Given as goal

abbrev pub invariant-groups : goal.invariant-groups
invariant-groups l = record {
  first : (l.self).first ≡ 0;
  ascend : Ascends (drop l.group-index l.spans);
  same : (g : ℕ) → or_else (listed (drop l.group-index l.spans) g) (span_from 0 ((l.self).spans).items g) ≡ listed l.spans g;
}
