use Rattle.std.proofs.Common.{◌≡◌, ◌++◌, drop}
use Rattle.fancy_faults.specs.Leaves.{spans_of}
use Rattle.fancy_faults.proofs.leaves.spans_of.Given as goal

abbrev pub invariant-loop-atom : goal.invariant-loop-atom
invariant-loop-atom l = l.spans.items ++ spans_of l.text (drop l.atom-index l.atoms) ≡ spans_of l.text l.atoms
