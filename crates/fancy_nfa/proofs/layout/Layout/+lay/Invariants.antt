use Rattle.std.proofs.Common.{◌≡◌, ◌+◌, ◌*◌, ◌==◌, true, drop, length}
use Rattle.fancy_meaning.specs.Options.{Analysis}
use Rattle.fancy_expr.specs.Each.{Each}
use Rattle.fancy_nfa.specs.declared.layout.Layout.{Layout}
use Rattle.fancy_nfa.specs.ClassTexts.{AreClasses, texts_in}
use Rattle.fancy_nfa.specs.Shapes.{with_jumps}
use Rattle.fancy_nfa.specs.Layouts.{Replaces, states_in}
use Rattle.fancy_nfa.specs.Neighbours.{IsEasy, trees_of}
use Rattle.fancy_nfa.proofs.Branches.{AddsEach, with_branches}
use Rattle.fancy_info.specs.NodeCounts.{node_count, node_counts}
use Rattle.fancy_nfa.proofs.layout.Layout.+lay.Given as goal

abbrev pub decreases-lay : goal.decreases-lay
decreases-lay l = 8 * node_count l.info.now

abbrev pub decreases-lay_each : goal.decreases-lay_each
decreases-lay_each l = 8 * node_counts l.infos.now + 1

abbrev pub decreases-lay_alternation : goal.decreases-lay_alternation
decreases-lay_alternation l = 8 * node_counts l.infos.now + 3

abbrev pub decreases-lay_branches : goal.decreases-lay_branches
decreases-lay_branches l = 8 * node_counts l.infos.now + 2

abbrev pub decreases-lay_branch : goal.decreases-lay_branch
decreases-lay_branch l = 8 * node_count l.info.now + 1

abbrev pub decreases-lay_group : goal.decreases-lay_group
decreases-lay_group l = 8 * node_count l.body.now + 1

abbrev pub decreases-lay_repeat : goal.decreases-lay_repeat
decreases-lay_repeat l = 8 * node_count l.body.now + 4

abbrev pub decreases-lay_loop : goal.decreases-lay_loop
decreases-lay_loop l = 8 * node_count l.body.now + 3

abbrev pub decreases-lay_plus : goal.decreases-lay_plus
decreases-lay_plus l = 8 * node_count l.body.now + 2

abbrev pub decreases-lay_star : goal.decreases-lay_star
decreases-lay_star l = 8 * node_count l.body.now + 1

abbrev pub decreases-lay_counted : goal.decreases-lay_counted
decreases-lay_counted l = 8 * node_count l.body.now + 1

abbrev pub decreases-lay_at_most_once : goal.decreases-lay_at_most_once
decreases-lay_at_most_once l = 8 * node_count l.body.now + 1

-- what is left, added from here, completes the whole
abbrev pub invariant-lay_each-loop-info : goal.invariant-lay_each-loop-info
invariant-lay_each-loop-info l = record {
  unicode : l.self.unicode ≡ l.fn.self.unicode;
  goes : (a : Analysis) → Each (IsEasy a) l.infos → (u : Layout) → AddsEach a (drop l.info-index l.infos) l.self u → AddsEach a l.infos l.fn.self u;
}

abbrev pub invariant-lay_branches-loop-i : goal.invariant-lay_branches-loop-i
invariant-lay_branches-loop-i l = record {
  same : Replaces (states_in l.self) l.fn.self l.self;
  goes : (a : Analysis) → Each (IsEasy a) l.infos →
      with_jumps l.jumps.items (length (with_branches a l.self (l.i == 0) (drop l.i l.infos))) (with_branches a l.self (l.i == 0) (drop l.i l.infos))
      ≡ with_branches a l.fn.self true l.infos;
  classes : (a : Analysis) → Each (IsEasy a) l.infos → AreClasses l.fn.self.unicode (texts_in (trees_of (drop l.i l.infos))) →
      AreClasses l.fn.self.unicode (texts_in (trees_of l.infos));
}
