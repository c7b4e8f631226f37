use Rattle.std.proofs.Common.{◌≡◌, vec_len}
use Rattle.fancy_nfa.specs.Layouts.{states_in, Replaces}
use Rattle.fancy_nfa.specs.Shapes.{with_jumps}
use Rattle.fancy_nfa.proofs.layout.Layout.patch_jumps.Given as goal

abbrev pub invariant-loop-jump : goal.invariant-loop-jump
invariant-loop-jump l = record {
  same : Replaces (states_in l.self) l.fn.self l.self;
  states : with_jumps l.left.items l.end (states_in l.self) ≡ with_jumps l.fn.jumps.items l.end (states_in l.fn.self);
}

abbrev pub decreases-loop-jump : goal.decreases-loop-jump
decreases-loop-jump l = vec_len l.left
