use Rattle.std.proofs.Common.{ℕ, ◌+◌, ◌*◌, ◌≤◌, Bool, map, drop, length}
use Rattle.fancy_meaning.specs.Code.{Code, in_turn, branches}
use Rattle.fancy_code.specs.Sites.{Site}
use Rattle.fancy_info.specs.Infos.{info_tree, IsAnalysed}
use Rattle.fancy_expr.specs.Each.{Each}
use Rattle.fancy_code.specs.Drafts.{Draft, Writes, draft_of, with_jumps}
use Rattle.fancy_info.specs.NodeCounts.{node_count, node_counts}
use Rattle.fancy_compile.specs.Nodes.{work, codes_in_turn, codes_of_branches, codes_of_none, IsScopeAt}
use Rattle.fancy_compile.proofs.scope.Scope.+emit.Given as goal

abbrev pub decreases-emit : goal.decreases-emit
decreases-emit l = work l.self.now + 8 * node_count l.info.now + 1

abbrev pub decreases-emit_node : goal.decreases-emit_node
decreases-emit_node l = work l.self.now + 8 * node_count l.info.now

abbrev pub decreases-emit_concat : goal.decreases-emit_concat
decreases-emit_concat l = work l.self.now + 8 * node_counts l.infos.now + 3

abbrev pub decreases-emit_in_turn : goal.decreases-emit_in_turn
decreases-emit_in_turn l = work l.self.now + 8 * node_counts l.infos.now + 2

abbrev pub decreases-emit_branches : goal.decreases-emit_branches
decreases-emit_branches l = work l.self.now + 8 * node_counts l.infos.now + 7

abbrev pub decreases-emit_branch : goal.decreases-emit_branch
decreases-emit_branch l = work l.self.now + 8 * node_count l.info.now + 4

abbrev pub decreases-emit_around : goal.decreases-emit_around
decreases-emit_around l = work l.self.now + 8 * node_count l.body.now + 2

abbrev pub decreases-emit_conditional : goal.decreases-emit_conditional
decreases-emit_conditional l = work l.self.now + 8 * (node_count l.first.now + node_count l.second.now + node_count l.third.now) + 2

abbrev pub decreases-emit_repeat : goal.decreases-emit_repeat
decreases-emit_repeat l = work l.self.now + 8 * node_count l.body.now + 3

abbrev pub decreases-emit_look : goal.decreases-emit_look
decreases-emit_look l = work l.self.now + 8 * node_count l.body.now + 6

abbrev pub decreases-emit_behind : goal.decreases-emit_behind
decreases-emit_behind l = work l.self.now + 8 * node_count l.body.now + 5

abbrev pub decreases-emit_none_behind : goal.decreases-emit_none_behind
decreases-emit_none_behind l = work l.self.now + 8 * node_counts l.infos.now + 7

abbrev pub decreases-emit_absent : goal.decreases-emit_absent
decreases-emit_absent l = work l.self.now + 8 * node_count l.body.now + 4

abbrev pub decreases-emit_step_past : goal.decreases-emit_step_past
decreases-emit_step_past l = work l.self.now + 8 * node_count l.body.now + 3

abbrev pub decreases-emit_call : goal.decreases-emit_call
decreases-emit_call l = work l.self.now + 7

-- what is left, written from here, completes the whole
abbrev pub invariant-emit_in_turn-loop-info : goal.invariant-emit_in_turn-loop-info
invariant-emit_in_turn-loop-info l =
    (p : Site) (call : ℕ → Bool → Code) (u : Draft)
    → IsScopeAt p call l.self
    → Each (IsAnalysed p.analysis) l.infos
    → Writes p (in_turn (codes_in_turn p call l.is_first (map info_tree (drop l.info-index l.infos)))) (map info_tree (drop l.info-index l.infos))
    (draft_of l.writer) u
    → Writes p (in_turn (codes_in_turn p call l.at_start (map info_tree l.infos))) (map info_tree l.infos) (draft_of l.fn.writer) u

abbrev pub invariant-emit_branches-loop-i : goal.invariant-emit_branches-loop-i
invariant-emit_branches-loop-i l = record {
  room : length l.infos ≤ l.jumps.cap;
  few : length l.jumps.items ≤ l.i;
  goes : (p : Site) (call : ℕ → Bool → Code) (u : Draft)
      → IsScopeAt p call l.self
      → Each (IsAnalysed p.analysis) l.infos
      → Writes p (branches (codes_of_branches p call l.behind l.in_hard (map info_tree (drop l.i l.infos)))) (map info_tree (drop l.i l.infos))
      (draft_of l.writer) u
      → Writes p (branches (codes_of_branches p call l.behind l.in_hard (map info_tree l.infos))) (map info_tree l.infos) (draft_of l.fn.writer)
      (with_jumps l.jumps.items (length u.instrs) u);
}

abbrev pub invariant-emit_none_behind-loop-info : goal.invariant-emit_none_behind-loop-info
invariant-emit_none_behind-loop-info l =
    (p : Site) (call : ℕ → Bool → Code) (u : Draft)
    → IsScopeAt p call l.self
    → Each (IsAnalysed p.analysis) l.infos
    → Writes p (in_turn (codes_of_none p call (map info_tree (drop l.info-index l.infos)))) (map info_tree (drop l.info-index l.infos)) (draft_of l.writer) u
    → Writes p (in_turn (codes_of_none p call (map info_tree l.infos))) (map info_tree l.infos) (draft_of l.fn.writer) u
