use Rattle.std.proofs.Common.{◌≡◌, ◌+◌, ◌-◌, ◌<◌, ◌≤◌, ◌||◌, ◌&&◌, ◌==◌, ℕ, Bool, true, false, not, [], ◌∷◌, ◌++◌, length, map, get_or, length-append, if◌then◌else◌, refl, sym, ap, ◌∙◌, subst, arith}
use Rattle.std.specs.Prelude.{slice_index_or}
use Rattle.std.specs.Result.{is_ok}
use Rattle.std.proofs.lemmas.List.{length-map}
use Rattle.fancy_program.specs.Insns.{insn_of}
use Rattle.fancy_meaning.specs.Tree as plain
use Rattle.fancy_meaning.specs.Tree.{trees}
use Rattle.fancy_meaning.specs.Nodes.{is_read, nodes, is_absent}
use Rattle.fancy_meaning.specs.Code.{Code, nothing, one, ◌>>◌, branch}
use Rattle.fancy_meaning.specs.Constructs.{group_code, loop_form, repeat_code}
use Rattle.fancy_meaning.specs.Instr.{Instr}
use Rattle.fancy_info.specs.declared.info.Info.TheViews.{out-Info}
use Rattle.fancy_info.specs.Infos.{node_over, info_tree, info_size, info_hard, info_children, info_within, is_read_group, IsAnalysed}
use Rattle.fancy_expr.specs.Each.{Each}
use Rattle.fancy_info.proofs.Unfolded.{tree_out}
use Rattle.fancy_code.specs.Drafts.{draft_of, with_patch, with_jumps, Adds, Writes, code_in, written_code, node_code}
use Rattle.fancy_meaning.specs.AnalysisRefusals as refusal
use Rattle.fancy_meaning.specs.CompileRefusals.{here}
use Rattle.fancy_meaning.specs.Sizes.{Size}
use Rattle.fancy_code.specs.Faults.{refused_as, HasRejected}
use Rattle.fancy_info.specs.NodeCounts.{node_counts}
use Rattle.fancy_compile.specs.Nodes.{AreWhole, IsScopeAt, IsWhole, branch_over, look_behind, step_past, work}
use Rattle.fancy_compile.specs.AnalysedNodes.{back_start, front_count, rest_of}
use Rattle.std.specs.List.{list_all, list_any}
use Rattle.std.proofs.lemmas.Bool.{and_parts, cond-true, cond-false}
use Rattle.fancy_meaning.specs.Batches.{batch}
use Rattle.fancy_nfa.specs.Neighbours.{IsEasy}
use Rattle.fancy_fragments.specs.Nodes.{AreEasyNeighbours}
use Rattle.fancy_compile.proofs.Slices.{back_each, back_neighbours, front_each, front_neighbours, not_true, total_middle, whole_drop, whole_take}
use Rattle.fancy_compile.proofs.EachLaws.{each_drop, each_take}
use Rattle.fancy_code.proofs.Writing.{wrote_then, wrote_nothing}
use Rattle.fancy_code.proofs.Patches.{wrote_both}
use Rattle.fancy_compile.proofs.Concat.{ahead_by, negative_by}
use Rattle.fancy_expr.specs.Views.{look_of, bound_of}
use Rattle.fancy_code.specs.declared.around.Construct.TheVariants as around
use Rattle.fancy_code.specs.Arounds.{around_code, form_of, kind_form, behind, not_ahead, not_behind}
use Rattle.fancy_meaning.specs.OpenCalls.{call_depth}
use Rattle.fancy_compile.specs.OpenDepths.{depths_of}
use Rattle.fancy_code.specs.Sites.{under_call, within_node}
use Rattle.fancy_compile.proofs.Called.{zero_target, in_range, no_target, some_target, found_body, found_target, found_tree, found_facts, found_starts}
use Rattle.fancy_compile.proofs.CallLaws.{missing_refused, wrote_full, code_of_zero, code_of_group, same_tree, lighter, inner_code, inner_u, root_by, wrote_body, wrote_called}
use Rattle.fancy_compile.proofs.Rooms.{all_within, at_within, deep_part, no_room, room_at, whole_within}
use Rattle.fancy_code.proofs.Alone.{wrote_assertion}
use Rattle.fancy_compile.proofs.LoopForms.{wrote_repeat, wrote_never}
use Rattle.fancy_compile.proofs.Lookbehinds.{const_branches, varying_branch, variable_refused, wrote_behind, wrote_behind_branches, wrote_none_behind}
use Rattle.fancy_code.proofs.Written.{wrote_node, written_as, safe_fine}
use Rattle.fancy_compile.proofs.AbsentLaws.{repeater_over, repeater_below, not_repeater, repeater_refused, wrote_absent, wrote_repeater}
use Rattle.fancy_info.proofs.Children.{tree_by, each_at, node_count-below, child_count}
use Rattle.fancy_compile.proofs.Infos.{whole_at, whole_below, easy_known, easy_alone, has_one, only_child, smaller_child, whole_child, analysed_only, three_children, smaller_three, whole_three, analysed_three}
use Rattle.fancy_compile.proofs.Known.{known_child, size_known, hard_child, read_known}
use Rattle.fancy_compile.proofs.Neighbours.{wrote_child, LeftBranches, LeftNone, in_turn_step, none_step, no_more_none, at_branch, last_step, branch_step, jumps_more, no_more_in_turn, no_more_branches, wrote_three, wrote_concat, wrote_alt}
use Rattle.fancy_compile.proofs.scope.Scope.+emit.Goals as goal

pub emit-emit_batch-requires : goal.emit-emit_batch-requires
emit-emit_batch-requires t c =
    let i = c.args.info.now in
    let easy = not_true (info_hard i) (and_parts (not (info_hard i)) (not c.args.in_hard) (sym c.is_batch.ensures ∙ c.if-is_batch.true)).0 in
    subst AreEasyNeighbours (sym c.from_ref.ensures.value) (easy_alone c.args.self.now i c.requires easy)

pub emit-returns-then-is_batch : goal.emit-returns-then-is_batch
emit-returns-then-is_batch t c = λ p call u known.
    let i = c.args.info.now in
    let e = info_tree i in
    let s = draft_of c.args.writer.now in
    let z = draft_of c.emit_batch.new.writer in
    let batched = sym c.is_batch.ensures ∙ c.if-is_batch.true in
    let easy = not_true (info_hard i) (and_parts (not (info_hard i)) (not c.args.in_hard) batched).0 in
    let alone = c.from_ref.ensures.value in
    subst (λ k. Writes p k (e ∷ []) s z) (sym (cond-true (not (info_hard i) && not c.args.in_hard) _ _ batched))
    (subst (λ l. Writes p (batch p.unicode (map info_tree l)) (map info_tree l) s z) alone
    (c.emit_batch.ensures p u.unicode u.room (subst (Each (IsEasy p.analysis)) (sym alone) (easy_known p.analysis i known easy, tt))))

pub emit-returns-then-not-has_room : goal.emit-returns-then-not-has_room
emit-returns-then-not-has_room t c = λ p call u known. c.fail.ensures p _ _ (no_room p _ (u.room ∙ c.has_room.ensures.no c.if-not-has_room.true))

pub emit-emit_node-requires : goal.emit-emit_node-requires
emit-emit_node-requires t c =
    let i = c.args.info.now in (
      omega (arith, ap work c.within_node-inner.ensures),
      subst (λ x. IsWhole x i) (sym c.within_node-inner.ensures) (whole_within c.args.self.now i c.requires),
    )

pub emit-returns : goal.emit-returns
emit-returns t c = λ p call u known.
    let i = c.args.info.now in
    let e = info_tree i in
    let scope = c.args.self.now in
    let s = draft_of c.args.writer.now in
    let z = draft_of c.emit_node.new.writer in
    let out = sym c.is_batch.ensures ∙ c.if-is_batch.false in
    let room = room_at scope p call u (c.has_room.ensures.yes c.if-not-has_room.false) in
    let inner = subst (IsScopeAt (within_node p) call) (sym c.within_node-inner.ensures) (at_within scope p call u) in
    subst (λ k. Writes p k (e ∷ []) s z) (sym (cond-false (not (info_hard i) && not c.args.in_hard) _ _ out)) (c.emit_node.ensures p call room inner known)

-- ---- concatenations

pub emit_concat-emit_batch-requires : goal.emit_concat-emit_batch-requires
emit_concat-emit_batch-requires t c =
    subst AreEasyNeighbours (sym c.in_three.ensures.front) (front_neighbours c.args.self.now c.args.infos.now c.requires)

pub emit_concat-emit_in_turn-requires : goal.emit_concat-emit_in_turn-requires
emit_concat-emit_in_turn-requires t c =
    let scope = c.args.self.now in
    let is = c.args.infos.now in
    let n = front_count is in
    let m = back_start c.args.in_hard (rest_of is) in (
      omega (arith, ap node_counts c.in_three.ensures.middle, total_middle n m is),
      subst (AreWhole scope) (sym c.in_three.ensures.middle) (whole_take scope m (rest_of is) (whole_drop scope n is c.requires)),
    )

pub emit_concat-emit_batch-requires-2 : goal.emit_concat-emit_batch-requires-2
emit_concat-emit_batch-requires-2 t c =
    let scope = c.args.self.now in
    let is = c.args.infos.now in
    subst AreEasyNeighbours (sym c.in_three.ensures.back)
    (back_neighbours c.args.in_hard scope (rest_of is) (whole_drop scope (front_count is) is c.requires))

pub emit_concat-returns : goal.emit_concat-returns
emit_concat-returns t c = λ p call u each.
    let is = c.args.infos.now in
    let in_hard = c.args.in_hard in
    let h = c.in_three.ensures in
    let rest = each_drop (IsAnalysed p.analysis) (front_count is) is each in
    let first = c.is_first_behind.ensures ∙ ap (λ l. c.args.at_start && list_all (λ i. (info_size i).most == 0) l) h.front in
    wrote_three p call c.args.at_start in_hard is each _ _ _ c.is_first_behind.result _ _ _ _ h.front h.middle h.back first
    (c.emit_batch.ensures p u.unicode u.room (subst (Each (IsEasy p.analysis)) (sym h.front) (front_each p.analysis is each)))
    (c.emit_in_turn.ensures p call u
    (subst (Each (IsAnalysed p.analysis)) (sym h.middle) (each_take (IsAnalysed p.analysis) (back_start in_hard (rest_of is)) (rest_of is) rest)))
    (c.emit_batch-2.ensures p u.unicode u.room (subst (Each (IsEasy p.analysis)) (sym h.back) (back_each in_hard p.analysis (rest_of is) rest)))

pub emit_node-emit_concat-requires : goal.emit_node-emit_concat-requires
emit_node-emit_concat-requires t c = (
  omega (arith, node_count-below c.args.info.now, ap node_counts c.children.ensures),
  subst (AreWhole c.args.self.now) (sym c.children.ensures) (whole_below c.args.self.now c.args.info.now c.requires),
)

pub emit_node-emit_branches-requires : goal.emit_node-emit_branches-requires
emit_node-emit_branches-requires t c = (
  omega (arith, node_count-below c.args.info.now, ap node_counts c.children-in-Alt.ensures),
  subst (AreWhole c.args.self.now) (sym c.children-in-Alt.ensures) (whole_below c.args.self.now c.args.info.now c.requires),
)

pub emit_node-child-requires : goal.emit_node-child-requires
emit_node-child-requires t c = omega (
  arith,
  has_one c.args.self.now c.args.info.now c.args.info.now _
      (sym c.expr-expr.ensures ∙ c.in-Group.is) c.requires refl,
)

pub emit_node-emit_around-requires : goal.emit_node-emit_around-requires
emit_node-emit_around-requires t c =
    let at = sym c.expr-expr.ensures ∙ c.in-Group.is in
    let body = c.child.result.now in (
      omega (arith, smaller_child c.args.self.now c.args.info.now body _ at c.requires refl c.child.ensures),
      whole_child c.args.self.now c.args.info.now body _ at c.requires refl c.child.ensures,
    )

pub emit_node-child-requires-in-AtomicGroup : goal.emit_node-child-requires-in-AtomicGroup
emit_node-child-requires-in-AtomicGroup t c = omega (
  arith,
  has_one c.args.self.now c.args.info.now c.args.info.now _
      (sym c.expr-expr.ensures ∙ c.in-AtomicGroup.is) c.requires refl,
)

pub emit_node-emit_around-requires-in-AtomicGroup : goal.emit_node-emit_around-requires-in-AtomicGroup
emit_node-emit_around-requires-in-AtomicGroup t c =
    let at = sym c.expr-expr.ensures ∙ c.in-AtomicGroup.is in
    let body = c.child-in-AtomicGroup.result.now in (
      omega (arith, smaller_child c.args.self.now c.args.info.now body _ at c.requires refl c.child-in-AtomicGroup.ensures),
      whole_child c.args.self.now c.args.info.now body _ at c.requires refl c.child-in-AtomicGroup.ensures,
    )

pub emit_node-returns-in-Concat : goal.emit_node-returns-in-Concat
emit_node-returns-in-Concat t c = λ p call room u known.
    let q = within_node p in
    let at = sym c.expr-expr.ensures ∙ c.in-Concat.is in
    let tree = tree_by c.args.info.now _ c.children.result.now at (sym c.children.ensures) in
    written_as p call c.args.at_start c.args.in_hard _ _ _ _ tree
    (wrote_concat p call room (map info_tree c.children.result.now) c.args.at_start c.args.in_hard _ _
    (c.emit_concat.ensures q call u (subst (Each (IsAnalysed p.analysis)) (sym c.children.ensures) known.children)))

pub emit_node-returns-in-Alt : goal.emit_node-returns-in-Alt
emit_node-returns-in-Alt t c = λ p call room u known.
    let q = within_node p in
    let at = sym c.expr-expr.ensures ∙ c.in-Alt.is in
    let tree = tree_by c.args.info.now _ c.children-in-Alt.result.now at (sym c.children-in-Alt.ensures) in
    written_as p call c.args.at_start c.args.in_hard _ _ _ _ tree
    (wrote_alt p call room (map info_tree c.children-in-Alt.result.now) c.args.at_start c.args.in_hard _ _
    (c.emit_branches.ensures q call u (subst (Each (IsAnalysed p.analysis)) (sym c.children-in-Alt.ensures) known.children)))

pub emit_node-returns-in-Group : goal.emit_node-returns-in-Group
emit_node-returns-in-Group t c = λ p call room u known.
    let q = within_node p in
    let at = sym c.expr-expr.ensures ∙ c.in-Group.is in
    let i = c.args.info.now in
    let body = c.child.result.now in
    let n = (out-Info i).start_group in
    let tree = tree_by i _ (body ∷ []) at (only_child c.args.self.now i body _ at c.requires refl c.child.ensures) in
    let s = draft_of c.args.writer.now in
    let t = draft_of c.emit_around.new.writer in
    let inside = c.args.in_hard || is_read p.analysis.tree n in
    let is_inside = c.is_body_hard-is_hard.ensures
    ∙ ap (λ b. c.args.in_hard || b) (read_known p.analysis i known ∙ ap (is_read_group p.analysis.tree) tree) in
    let code : ℕ → Bool → Code = λ m b. group_code m (node_code p call (info_tree body) c.args.at_start b) in
    let wrote = c.emit_around.ensures q call u (analysed_only c.args.self.now i body _ at c.requires refl c.child.ensures p.analysis known) in
    written_as p call c.args.at_start c.args.in_hard _ _ _ _ tree
    (wrote_node p room _ (plain.Group n (info_tree body)) s t (safe_fine p (plain.Group n (info_tree body)) refl refl)
    (subst (λ b. Writes q (code n b) (info_tree body ∷ []) s t) is_inside
    (subst (λ m. Writes q (code m c.is_body_hard-is_hard.result) (info_tree body ∷ []) s t) c.start_group.ensures wrote)))

pub emit_node-returns-in-AtomicGroup : goal.emit_node-returns-in-AtomicGroup
emit_node-returns-in-AtomicGroup t c = λ p call room u known.
    let q = within_node p in
    let at = sym c.expr-expr.ensures ∙ c.in-AtomicGroup.is in
    let body = c.child-in-AtomicGroup.result.now in
    let tree = tree_by c.args.info.now _ (body ∷ []) at (only_child c.args.self.now c.args.info.now body _ at c.requires refl c.child-in-AtomicGroup.ensures)
    in
    let s = draft_of c.args.writer.now in
    let t = draft_of c.emit_around-in-AtomicGroup.new.writer in
    written_as p call c.args.at_start c.args.in_hard _ _ _ _ tree
    (wrote_node p room _ (plain.AtomicGroup (info_tree body)) s t (safe_fine p (plain.AtomicGroup (info_tree body)) refl refl)
    (c.emit_around-in-AtomicGroup.ensures q call u
    (analysed_only c.args.self.now c.args.info.now body _ at c.requires refl c.child-in-AtomicGroup.ensures p.analysis known)))

pub emit_node-child-requires-in-LookAround : goal.emit_node-child-requires-in-LookAround
emit_node-child-requires-in-LookAround t c = omega (
  arith,
  has_one c.args.self.now c.args.info.now c.args.info.now _
      (sym c.expr-expr.ensures ∙ c.in-LookAround.is) c.requires refl,
)

pub emit_node-emit_look-requires : goal.emit_node-emit_look-requires
emit_node-emit_look-requires t c =
    let at = sym c.expr-expr.ensures ∙ c.in-LookAround.is in
    let body = c.child-in-LookAround.result.now in (
      omega (arith, smaller_child c.args.self.now c.args.info.now body _ at c.requires refl c.child-in-LookAround.ensures),
      whole_child c.args.self.now c.args.info.now body _ at c.requires refl c.child-in-LookAround.ensures,
    )

pub emit_node-returns-in-LookAround : goal.emit_node-returns-in-LookAround
emit_node-returns-in-LookAround t c = λ p call room u known.
    let at = sym c.expr-expr.ensures ∙ c.in-LookAround.is in
    let body = c.child-in-LookAround.result.now in
    let tree = tree_by c.args.info.now _ (body ∷ []) at (only_child c.args.self.now c.args.info.now body _ at c.requires refl c.child-in-LookAround.ensures) in
    written_as p call c.args.at_start c.args.in_hard _ _ _ _ tree
    (c.emit_look.ensures c.args.in_hard p call c.args.at_start room u
    (analysed_only c.args.self.now c.args.info.now body _ at c.requires refl c.child-in-LookAround.ensures p.analysis known))

pub emit_node-returns-in-Conditional : goal.emit_node-returns-in-Conditional
emit_node-returns-in-Conditional t c = λ p call room u known.
    let q = within_node p in
    let tree = tree_by c.args.info.now _ _ (sym c.expr-expr.ensures ∙ c.in-Conditional.is)
    (three_children c.args.self.now c.args.info.now c.child-first.result.now c.child-second.result.now
    c.child-third.result.now _ (sym c.expr-expr.ensures ∙ c.in-Conditional.is) c.requires refl c.child-first.ensures
    c.child-second.ensures c.child-third.ensures) in
    let each = analysed_three c.args.self.now c.args.info.now c.child-first.result.now c.child-second.result.now
    c.child-third.result.now _ (sym c.expr-expr.ensures ∙ c.in-Conditional.is) c.requires refl c.child-first.ensures
    c.child-second.ensures c.child-third.ensures p.analysis known in
    let e = plain.Conditional (info_tree c.child-first.result.now) (info_tree c.child-second.result.now)
    (info_tree c.child-third.result.now) in
    written_as p call c.args.at_start c.args.in_hard _ _ _ _ tree
    (wrote_node p room _ e _ _ (safe_fine p e refl refl) (c.emit_conditional.ensures q call u each.0 each.1.0 each.1.1))

pub emit_node-emit_conditional-requires : goal.emit_node-emit_conditional-requires
emit_node-emit_conditional-requires t c =
    let each = whole_three c.args.self.now c.args.info.now c.child-first.result.now c.child-second.result.now
    c.child-third.result.now _ (sym c.expr-expr.ensures ∙ c.in-Conditional.is) c.requires refl c.child-first.ensures
    c.child-second.ensures c.child-third.ensures in (
      omega (
        arith,
        smaller_three c.args.self.now c.args.info.now c.child-first.result.now c.child-second.result.now
            c.child-third.result.now _ (sym c.expr-expr.ensures ∙ c.in-Conditional.is) c.requires refl c.child-first.ensures
            c.child-second.ensures c.child-third.ensures,
      ),
      each,
    )

pub emit_conditional-returns : goal.emit_conditional-returns
emit_conditional-returns t c = λ p call u first second third.
    let at_first = node_code p call (info_tree c.args.first.now) false c.args.in_hard in
    let at_second = node_code p call (info_tree c.args.second.now) false c.args.in_hard in
    let at_third = node_code p call (info_tree c.args.third.now) false c.args.in_hard in
    let end : Code = one Instr.EndAtomic in
    let a : Code = at_first >> end >> at_second in
    let b : Code = end >> at_third in
    let es = info_tree c.args.first.now ∷ info_tree c.args.second.now ∷ [] in
    let ds = info_tree c.args.third.now ∷ [] in
    let first_wrote = wrote_child p call c.args.first.now first false c.args.in_hard _ _
    (c.emit.ensures p call u (known_child p.analysis c.args.first.now first)) in
    let second_wrote = wrote_child p call c.args.second.now second false c.args.in_hard _ _
    (c.emit-2.ensures p call u (known_child p.analysis c.args.second.now second)) in
    let third_wrote = wrote_child p call c.args.third.now third false c.args.in_hard _ _
    (c.emit-3.ensures p call u (known_child p.analysis c.args.third.now third)) in
    let wrote_a = wrote_then p at_first (end >> at_second) (info_tree c.args.first.now ∷ []) (info_tree c.args.second.now ∷ []) _ _ _
    first_wrote (wrote_then p end at_second [] (info_tree c.args.second.now ∷ []) _ _ _ (c.push-3.ensures.writes p) second_wrote) in
    let wrote_b = wrote_then p end at_third [] ds _ _ _ (c.push-5.ensures.writes p) third_wrote in
    let jump = subst (λ d. Writes p (one (Instr.Jmp 0)) [] d (draft_of c.push-4.new.self)) c.patch.ensures (c.push-4.ensures.writes p) in
    let both = wrote_both p es ds a b (draft_of c.push.new.self) (draft_of c.push-2.new.self) (draft_of c.emit-2.new.writer) (draft_of c.push-4.new.self)
    (draft_of c.emit-3.new.writer) c.len-split.result c.len-jump.result _ _
    (c.len-split.ensures ∙ c.push.new.self.code.ok.0 ∙ sym (length-map c.push.new.self.code.items insn_of))
    (c.len-jump.ensures ∙ c.emit-2.new.writer.code.ok.0 ∙ sym (length-map c.emit-2.new.writer.code.items insn_of))
    (c.push-2.ensures.writes p) wrote_a jump wrote_b in
    let last : length (draft_of c.emit-3.new.writer).instrs ≡ c.len-end.result = length-map c.emit-3.new.writer.code.items insn_of
    ∙ sym (c.len-end.ensures ∙ c.emit-3.new.writer.code.ok.0) in
    let done = ap (λ n. with_patch (draft_of c.emit-3.new.writer) c.len-jump.result (Instr.Jmp n)) last ∙ sym c.patch-2.ensures in
    wrote_then p (one Instr.BeginAtomic) (branch a b) [] (es ++ ds) _ _ _ (c.push.ensures.writes p)
    (subst (λ d. Writes p (branch a b) (es ++ ds) (draft_of c.push.new.self) d) done both)

pub emit_node-returns-in_default : goal.emit_node-returns-in_default
emit_node-returns-in_default t c = λ p call room u known.
    let tree = tree_out c.args.info.now ∙ ap (λ x. node_over x (out-Info c.args.info.now).start_group (info_within c.args.info.now)
    (trees (map info_tree (info_children c.args.info.now)))) (sym c.expr-expr.ensures) in
    written_as p call c.args.at_start c.args.in_hard _ _ _ _ tree
    (c.emit_leaf.ensures p call c.args.in_hard _ _ _ room u.unicode)

pub emit_in_turn-emit-requires : goal.emit_in_turn-emit-requires
emit_in_turn-emit-requires t c =
    let lt : c.loop-info.info-index < length c.args.infos.now = omega arith in (
      omega (arith, child_count c.args.infos.now c.loop-info.info-index c.info-item.result lt c.info-item.is),
      whole_at c.args.self.now c.args.infos.now c.loop-info.info-index c.info-item.result c.requires lt c.info-item.is,
    )

pub emit_in_turn-loop-info-preserved : goal.emit_in_turn-loop-info-preserved
emit_in_turn-loop-info-preserved t c = λ p call u same each left.
    let x = c.info-item.result in
    let lt : c.loop-info.info-index < length c.args.infos.now = omega arith in
    let here = each_at (IsAnalysed p.analysis) c.args.infos.now c.loop-info.info-index x each lt c.info-item.is in
    let known = known_child p.analysis x here in
    c.loop-info.invariant p call u same each
    (in_turn_step p call c.args.infos.now c.loop-info.info-index x lt c.info-item.is (draft_of c.loop-info.writer) c.loop-info.is_first _
    (draft_of c.emit.new.writer) u
    (c.is_still_first-is_first.ensures ∙ ap (λ (z : Size). c.loop-info.is_first && z.most == 0) (size_known x p.analysis known))
    (wrote_child p call x here c.loop-info.is_first true _ _ (c.emit.ensures p call same known)) left)

pub emit_in_turn-returns : goal.emit_in_turn-returns
emit_in_turn-returns t c = λ p call same each.
    c.loop-info.invariant p call _ same each (no_more_in_turn p call c.loop-info.is_first c.args.infos.now c.loop-info.info-index (draft_of c.loop-info.writer)
    (omega arith))

pub emit_branches-returns-in-Err : goal.emit_branches-returns-in-Err
emit_branches-returns-in-Err t c = λ p call u each. c.fail.ensures p _ _ tt

pub emit_branches-emit_branch-requires : goal.emit_branches-emit_branch-requires
emit_branches-emit_branch-requires t c =
    let lt : c.loop-i.i < length c.args.infos.now = omega arith in (
      omega (arith, child_count c.args.infos.now c.loop-i.i c.index-infos-i.result lt c.index-infos-i.is),
      whole_at c.args.self.now c.args.infos.now c.loop-i.i c.index-infos-i.result c.requires lt c.index-infos-i.is,
    )

pub emit_branches-emit_branch-requires-2 : goal.emit_branches-emit_branch-requires-2
emit_branches-emit_branch-requires-2 t c =
    let last = length c.args.infos.now - 1 in
    let lt : last < length c.args.infos.now = omega (arith, c.if-count-eq0.false) in (
      omega (arith, child_count c.args.infos.now last c.index-infos-count.result lt c.index-infos-count.is),
      whole_at c.args.self.now c.args.infos.now last c.index-infos-count.result c.requires lt c.index-infos-count.is,
    )

pub emit_branches-loop-i-preserved : goal.emit_branches-loop-i-preserved
emit_branches-loop-i-preserved t c =
    let x = c.index-infos-i.result in
    let i = c.loop-i.i in
    let infos = c.args.infos.now in
    let lt : i < length infos = omega arith in
    let more : i + 1 < length infos = omega arith in
    let jumps : c.push-in-loop-i.new.self.items ≡ c.loop-i.jumps.items ++ c.len-jump.result ∷ [] =
    c.push-in-loop-i.ensures.items ∙ ap (λ r. if◌then◌else◌ (is_ok r) (c.loop-i.jumps.items ++ c.len-jump.result ∷ []) c.loop-i.jumps.items) c.unwrap.ensures in
    record {
      room = omega (arith, c.loop-i.invariant.room, c.push-in-loop-i.ensures.capacity);
      few = omega (arith, c.loop-i.invariant.few, ap length jumps, length-append c.loop-i.jumps.items (c.len-jump.result ∷ []));
      goes = λ p call u same each left.
          let here = each_at (IsAnalysed p.analysis) infos i x each lt c.index-infos-i.is in
          let known = known_child p.analysis x here in
          let step = branch_step p call infos i x lt c.index-infos-i.is (draft_of c.loop-i.writer) c.args.behind c.args.in_hard more (draft_of c.push.new.self)
          (draft_of c.emit_branch.new.writer) (draft_of c.push-in-loop-i-2.new.self) u c.len-split.result c.len-jump.result _ _
          (c.len-split.ensures ∙ c.loop-i.writer.code.ok.0 ∙ sym (length-map c.loop-i.writer.code.items insn_of))
          (c.len-jump.ensures ∙ c.emit_branch.new.writer.code.ok.0 ∙ sym (length-map c.emit_branch.new.writer.code.items insn_of))
          (c.push.ensures.writes p)
          (at_branch p call c.args.behind c.args.in_hard x known _ _ (c.emit_branch.ensures p call same here))
          (subst (λ d. Writes p (one (Instr.Jmp 0)) [] d (draft_of c.push-in-loop-i-2.new.self)) c.patch.ensures (c.push-in-loop-i-2.ensures.writes p))
          left in
          jumps_more p call c.args.behind c.args.in_hard infos (draft_of c.args.writer.now) u c.loop-i.jumps.items _ c.len-jump.result jumps
          (c.loop-i.invariant.goes p call _ same each step);
    }

pub emit_branches-returns : goal.emit_branches-returns
emit_branches-returns t c = λ p call same each.
    let x = c.index-infos-count.result in
    let i = c.loop-i.i in
    let infos = c.args.infos.now in
    let end : length infos - 1 ≡ i = omega arith in
    let lt : i < length infos = omega (arith, c.if-count-eq0.false) in
    let at : x ≡ get_or infos i x = c.index-infos-count.is ∙ ap (λ n. get_or infos n x) end in
    let here = each_at (IsAnalysed p.analysis) infos i x each lt at in
    let known = known_child p.analysis x here in
    let w = draft_of c.emit_branch-2.new.writer in
    let last = last_step p call infos i x lt at (draft_of c.loop-i.writer) c.args.behind c.args.in_hard w w (omega arith)
    (at_branch p call c.args.behind c.args.in_hard x known _ _ (c.emit_branch-2.ensures p call same here))
    (no_more_branches p call c.args.behind c.args.in_hard infos (i + 1) w (omega arith)) in
    subst (λ d. LeftBranches p call c.args.behind c.args.in_hard infos (draft_of c.args.writer.now) d)
    (ap (λ n. with_jumps c.loop-i.jumps.items n w) (length-map c.emit_branch-2.new.writer.code.items insn_of) ∙ sym c.patch_jumps.ensures)
    (c.loop-i.invariant.goes p call w same each last)

pub emit_node-child-requires-in-Repeat : goal.emit_node-child-requires-in-Repeat
emit_node-child-requires-in-Repeat t c = omega (
  arith,
  has_one c.args.self.now c.args.info.now c.args.info.now _
      (sym c.expr-expr.ensures ∙ c.in-Repeat.is) c.requires refl,
)

pub emit_node-emit_repeat-requires : goal.emit_node-emit_repeat-requires
emit_node-emit_repeat-requires t c =
    let at = sym c.expr-expr.ensures ∙ c.in-Repeat.is in
    let body = c.child-in-Repeat.result.now in (
      omega (arith, smaller_child c.args.self.now c.args.info.now body _ at c.requires refl c.child-in-Repeat.ensures),
      whole_child c.args.self.now c.args.info.now body _ at c.requires refl c.child-in-Repeat.ensures,
    )

pub emit_node-returns-in-Repeat : goal.emit_node-returns-in-Repeat
emit_node-returns-in-Repeat t c = λ p call room u known.
    let at = sym c.expr-expr.ensures ∙ c.in-Repeat.is in
    let body = c.child-in-Repeat.result.now in
    let tree = tree_by c.args.info.now _ (body ∷ []) at (only_child c.args.self.now c.args.info.now body _ at c.requires refl c.child-in-Repeat.ensures) in
    written_as p call c.args.at_start c.args.in_hard _ _ _ _ tree
    (c.emit_repeat.ensures p call c.args.at_start room u
    (analysed_only c.args.self.now c.args.info.now body _ at c.requires refl c.child-in-Repeat.ensures p.analysis known))

pub emit_repeat-returns-in-Some : goal.emit_repeat-returns-in-Some
emit_repeat-returns-in-Some t c = λ p call at_start room u known.
    let e = info_tree c.args.body.now in
    let size = size_known c.args.body.now p.analysis (known_child p.analysis c.args.body.now known) in
    let empty = ap (λ n. n == 0) (c.min_size.ensures ∙ ap (λ (z : Size). z.least) size) in
    let form = kind_form c.in-Some.kind in
    wrote_repeat p room call at_start c.args.in_hard c.args.lo c.args.greedy e _ _ (bound_of c.args.hi) c.in-Some.kind
    (ap form_of (sym c.in-Some.is) ∙ c.loop_kind.ensures ∙ ap (loop_form c.args.lo (bound_of c.args.hi)) empty)
    (subst (λ b. Writes (within_node p) (repeat_code c.args.greedy (node_code p call e false b) form) (e ∷ []) (draft_of c.args.writer.now)
    (draft_of c.emit_around.new.writer))
    c.is_body_hard.ensures (c.emit_around.ensures (within_node p) call u known))

pub emit_repeat-returns-in-None : goal.emit_repeat-returns-in-None
emit_repeat-returns-in-None t c = λ p call at_start room u known.
    let e = info_tree c.args.body.now in
    let size = size_known c.args.body.now p.analysis (known_child p.analysis c.args.body.now known) in
    let empty = ap (λ n. n == 0) (c.min_size.ensures ∙ ap (λ (z : Size). z.least) size) in
    wrote_never p room call at_start c.args.in_hard c.args.lo c.args.greedy e _ (bound_of c.args.hi)
    (ap form_of (sym c.in-None.is) ∙ c.loop_kind.ensures ∙ ap (loop_form c.args.lo (bound_of c.args.hi)) empty)

pub emit_around-returns : goal.emit_around-returns
emit_around-returns t c = λ p call u known.
    let body = c.args.body.now in
    c.end.ensures p (node_code p call (info_tree body) c.args.at_start c.args.in_hard) (info_tree body ∷ []) _ _ c.start-start.ensures
    (c.begin.ensures p) (wrote_child p call body known c.args.at_start c.args.in_hard _ _ (c.emit.ensures p call u (known_child p.analysis body known)))

pub emit_branch-returns-then-behind : goal.emit_branch-returns-then-behind
emit_branch-returns-then-behind t c = λ p call u known.
    let e = info_tree c.args.info.now in
    let body = node_code p call e false c.args.in_hard in
    subst (λ b. Writes p (branch_over b (info_size c.args.info.now).least body) (e ∷ []) (draft_of c.args.writer.now) (draft_of c.emit_around.new.writer))
    (sym c.if-behind.true)
    (subst (λ n. Writes p (around_code (behind n) body) (e ∷ []) (draft_of c.args.writer.now) (draft_of c.emit_around.new.writer)) c.min_size.ensures
    (c.emit_around.ensures p call u known))

pub emit_branch-returns-else-behind : goal.emit_branch-returns-else-behind
emit_branch-returns-else-behind t c = λ p call u known.
    let x = c.args.info.now in
    let e = info_tree x in
    subst (λ b. Writes p (branch_over b (info_size x).least (node_code p call e false c.args.in_hard)) (e ∷ []) (draft_of c.args.writer.now)
    (draft_of c.emit.new.writer)) (sym c.if-behind.false)
    (wrote_child p call x known false c.args.in_hard _ _ (c.emit.ensures p call u (known_child p.analysis x known)))

pub emit_look-returns-in-LookAhead : goal.emit_look-returns-in-LookAhead
emit_look-returns-in-LookAhead t c = λ in_hard p call at_start room u known.
    let e = info_tree c.args.body.now in
    let s = draft_of c.args.writer.now in
    let z = draft_of c.emit_around.new.writer in
    written_as p call at_start in_hard _ _ _ _ (ap (λ l. plain.LookAround (look_of l) e) c.in-LookAhead.is)
    (subst (λ k. Writes p k (plain.LookAround plain.LookAhead e ∷ []) s z) (sym (ahead_by p call at_start in_hard e))
    (wrote_node p room _ (plain.LookAround plain.LookAhead e) s z (safe_fine p (plain.LookAround plain.LookAhead e) refl refl)
    (c.emit_around.ensures (within_node p) call u known)))

pub emit_look-returns-in-LookAheadNeg : goal.emit_look-returns-in-LookAheadNeg
emit_look-returns-in-LookAheadNeg t c = λ in_hard p call at_start room u known.
    let e = info_tree c.args.body.now in
    let s = draft_of c.args.writer.now in
    let z = draft_of c.emit_around-in-LookAheadNeg.new.writer in
    written_as p call at_start in_hard _ _ _ _ (ap (λ l. plain.LookAround (look_of l) e) c.in-LookAheadNeg.is)
    (subst (λ k. Writes p k (plain.LookAround plain.LookAheadNeg e ∷ []) s z) (sym (negative_by p call at_start in_hard e))
    (wrote_node p room _ (plain.LookAround plain.LookAheadNeg e) s z (safe_fine p (plain.LookAround plain.LookAheadNeg e) refl refl)
    (c.emit_around-in-LookAheadNeg.ensures (within_node p) call u known)))

pub emit_look-returns-in-LookBehind : goal.emit_look-returns-in-LookBehind
emit_look-returns-in-LookBehind t c = λ in_hard p call at_start room u known.
    let e = info_tree c.args.body.now in
    written_as p call at_start in_hard _ _ _ _ (ap (λ l. plain.LookAround (look_of l) e) c.in-LookBehind.is)
    (c.emit_behind.ensures in_hard p call at_start room u known)

pub emit_look-returns-in-LookBehindNeg : goal.emit_look-returns-in-LookBehindNeg
emit_look-returns-in-LookBehindNeg t c = λ in_hard p call at_start room u known.
    let e = info_tree c.args.body.now in
    written_as p call at_start in_hard _ _ _ _ (ap (λ l. plain.LookAround (look_of l) e) c.in-LookBehindNeg.is)
    (c.emit_behind-in-LookBehindNeg.ensures in_hard p call at_start room u known)

-- ---- lookbehinds

pub emit_behind-returns-then-const_size : goal.emit_behind-returns-then-const_size
emit_behind-returns-then-const_size t c = λ in_hard p call at_start room u known.
    let e = info_tree c.args.body.now in
    let size = size_known c.args.body.now p.analysis (known_child p.analysis c.args.body.now known) in
    let const = ap (λ (z : Size). z.is_const) (sym size) ∙ sym c.const_size.ensures ∙ c.if-const_size.true in
    let least = c.min_size.ensures ∙ ap (λ (z : Size). z.least) size in
    wrote_behind p room call at_start in_hard _ _ c.args.negative e c.min_size.result const least
    (subst (λ k. Writes (within_node p) (around_code (around.Look k) (node_code p call e false false)) (e ∷ []) (draft_of c.args.writer.now)
    (draft_of c.emit_around.new.writer))
    c.behind_kind-kind.ensures (c.emit_around.ensures (within_node p) call u known))

pub emit_behind-returns-then-not-has_const_branches : goal.emit_behind-returns-then-not-has_const_branches
emit_behind-returns-then-not-has_const_branches t c = λ in_hard p call at_start room u known.
    let body = c.args.body.now in
    let found = known_child p.analysis body known in
    let varies = ap (λ (z : Size). z.is_const) (sym (size_known body p.analysis found)) ∙ sym c.const_size.ensures ∙ c.if-const_size.false in
    c.refuse.ensures p _ _ (variable_refused p c.args.negative (info_tree body) varies
    (varying_branch p.analysis body found (sym c.has_const_branches.ensures ∙ c.if-not-has_const_branches.true) varies))

pub emit_behind-returns-then-not-has_room : goal.emit_behind-returns-then-not-has_room
emit_behind-returns-then-not-has_room t c = λ in_hard p call at_start room u known.
    let q = within_node p in
    let e = info_tree c.args.body.now in
    c.fail.ensures p _ _ (deep_part p _ e here (no_room q e (u.room ∙ c.has_room.ensures.no c.if-not-has_room.true)))

pub emit_behind-emit_none_behind-requires : goal.emit_behind-emit_none_behind-requires
emit_behind-emit_none_behind-requires t c = (
  omega (arith, node_count-below c.args.body.now, ap node_counts c.children.ensures, ap work c.within_node-inner.ensures),
  subst (λ x. AreWhole x c.children.result.now) (sym c.within_node-inner.ensures)
      (all_within c.args.self.now _ (subst (AreWhole c.args.self.now) (sym c.children.ensures) (whole_below c.args.self.now c.args.body.now c.requires))),
)

pub emit_behind-returns-then-negative : goal.emit_behind-returns-then-negative
emit_behind-returns-then-negative t c = λ in_hard p call at_start room u known.
    let body = c.args.body.now in
    let found = known_child p.analysis body known in
    let e = info_tree body in
    let varies = ap (λ (z : Size). z.is_const) (sym (size_known body p.analysis found)) ∙ sym c.const_size.ensures ∙ c.if-const_size.false in
    let branched = const_branches p.analysis body found (sym c.has_const_branches.ensures ∙ c.if-not-has_const_branches.false) in
    let each = subst (Each (IsAnalysed p.analysis)) (sym c.children.ensures) found.children in
    let q = within_node p in
    let scope = c.args.self.now in
    let again = room_at scope q call u (c.has_room.ensures.yes c.if-not-has_room.false) in
    let v = subst (IsScopeAt (within_node q) call) (sym c.within_node-inner.ensures) (at_within scope q call u) in
    let z = draft_of c.emit_none_behind.new.writer in
    written_as p call at_start in_hard _ _ _ _ (ap (λ b. plain.LookAround (look_behind b) e) c.if-negative.true)
    (wrote_none_behind p room call at_start in_hard _ z again e (map info_tree (info_children body)) branched.0 varies branched.1
    (subst (λ l. LeftNone (within_node q) call l (draft_of c.args.writer.now) z) c.children.ensures (c.emit_none_behind.ensures (within_node q) call v each)))

pub emit_behind-emit_branches-requires : goal.emit_behind-emit_branches-requires
emit_behind-emit_branches-requires t c = (
  omega (arith, node_count-below c.args.body.now, ap node_counts c.children-else-negative.ensures, ap work c.within_node-inner.ensures),
  subst (λ x. AreWhole x c.children-else-negative.result.now) (sym c.within_node-inner.ensures)
      (all_within c.args.self.now _
      (subst (AreWhole c.args.self.now) (sym c.children-else-negative.ensures) (whole_below c.args.self.now c.args.body.now c.requires))),
)

pub emit_behind-returns-else-negative : goal.emit_behind-returns-else-negative
emit_behind-returns-else-negative t c = λ in_hard p call at_start room u known.
    let body = c.args.body.now in
    let found = known_child p.analysis body known in
    let e = info_tree body in
    let varies = ap (λ (z : Size). z.is_const) (sym (size_known body p.analysis found)) ∙ sym c.const_size.ensures ∙ c.if-const_size.false in
    let branched = const_branches p.analysis body found (sym c.has_const_branches.ensures ∙ c.if-not-has_const_branches.false) in
    let each = subst (Each (IsAnalysed p.analysis)) (sym c.children-else-negative.ensures) found.children in
    let q = within_node p in
    let scope = c.args.self.now in
    let again = room_at scope q call u (c.has_room.ensures.yes c.if-not-has_room.false) in
    let v = subst (IsScopeAt (within_node q) call) (sym c.within_node-inner.ensures) (at_within scope q call u) in
    let z = draft_of c.emit_branches.new.writer in
    written_as p call at_start in_hard _ _ _ _ (ap (λ b. plain.LookAround (look_behind b) e) c.if-negative.false)
    (wrote_behind_branches p room call at_start in_hard _ z again e (map info_tree (info_children body)) branched.0 varies branched.1
    (subst (λ l. LeftBranches (within_node q) call true false l (draft_of c.args.writer.now) z) c.children-else-negative.ensures
    (c.emit_branches.ensures (within_node q) call v each)))

pub emit_none_behind-emit_around-requires : goal.emit_none_behind-emit_around-requires
emit_none_behind-emit_around-requires t c =
    let lt : c.loop-info.info-index < length c.args.infos.now = omega arith in (
      omega (arith, child_count c.args.infos.now c.loop-info.info-index c.info-item.result lt c.info-item.is),
      whole_at c.args.self.now c.args.infos.now c.loop-info.info-index c.info-item.result c.requires lt c.info-item.is,
    )

pub emit_none_behind-loop-info-preserved : goal.emit_none_behind-loop-info-preserved
emit_none_behind-loop-info-preserved t c = λ p call u same each left.
    let x = c.info-item.result in
    let lt : c.loop-info.info-index < length c.args.infos.now = omega arith in
    let here = each_at (IsAnalysed p.analysis) c.args.infos.now c.loop-info.info-index x each lt c.info-item.is in
    let known = known_child p.analysis x here in
    let least = c.min_size.ensures ∙ ap (λ (z : Size). z.least) (size_known x p.analysis known) in
    c.loop-info.invariant p call u same each
    (none_step p call c.args.infos.now c.loop-info.info-index x lt c.info-item.is (draft_of c.loop-info.writer) (draft_of c.emit_around.new.writer) u
    (subst (λ n. Writes p (around_code (not_behind n) (node_code p call (info_tree x) false false)) (info_tree x ∷ []) (draft_of c.loop-info.writer)
    (draft_of c.emit_around.new.writer)) least (c.emit_around.ensures p call same here)) left)

pub emit_none_behind-returns : goal.emit_none_behind-returns
emit_none_behind-returns t c = λ p call same each.
    c.loop-info.invariant p call _ same each (no_more_none p call c.args.infos.now c.loop-info.info-index (draft_of c.loop-info.writer) (omega arith))

-- ---- absent nodes

pub emit_node-child-requires-then-is_repeater : goal.emit_node-child-requires-then-is_repeater
emit_node-child-requires-then-is_repeater t c =
    let one = repeater_below c.in-Absent.absent (sym c.is_repeater.ensures ∙ c.if-is_repeater.true) in
    omega (arith, has_one c.args.self.now c.args.info.now c.args.info.now _ (sym c.expr-expr.ensures ∙ c.in-Absent.is) c.requires one)

pub emit_node-emit_absent-requires : goal.emit_node-emit_absent-requires
emit_node-emit_absent-requires t c =
    let at = sym c.expr-expr.ensures ∙ c.in-Absent.is in
    let one = repeater_below c.in-Absent.absent (sym c.is_repeater.ensures ∙ c.if-is_repeater.true) in
    let body = c.child-then-is_repeater.result.now in (
      omega (arith, smaller_child c.args.self.now c.args.info.now body _ at c.requires one c.child-then-is_repeater.ensures),
      whole_child c.args.self.now c.args.info.now body _ at c.requires one c.child-then-is_repeater.ensures,
    )

pub emit_node-returns-then-is_repeater : goal.emit_node-returns-then-is_repeater
emit_node-returns-then-is_repeater t c = λ p call room u known.
    let at = sym c.expr-expr.ensures ∙ c.in-Absent.is in
    let is = sym c.is_repeater.ensures ∙ c.if-is_repeater.true in
    let one = repeater_below c.in-Absent.absent is in
    let body = c.child-then-is_repeater.result.now in
    let only = only_child c.args.self.now c.args.info.now body _ at c.requires one c.child-then-is_repeater.ensures in
    let tree = tree_by c.args.info.now _ (body ∷ []) at only ∙ repeater_over c.in-Absent.absent (info_tree body) is in
    written_as p call c.args.at_start c.args.in_hard _ _ _ _ tree
    (c.emit_absent.ensures c.args.in_hard p call c.args.at_start room u
    (analysed_only c.args.self.now c.args.info.now body _ at c.requires one c.child-then-is_repeater.ensures p.analysis known))

pub emit_node-returns-else-is_repeater : goal.emit_node-returns-else-is_repeater
emit_node-returns-else-is_repeater t c = λ p call room u known.
    let tree = tree_by c.args.info.now _ _ (sym c.expr-expr.ensures ∙ c.in-Absent.is) refl in
    c.refuse.ensures p _ _ (subst (λ e. HasRejected p (e ∷ []) (refused_as refusal.FeatureNotYetSupported)) (sym tree)
    (not_repeater p _ _ (sym c.is_repeater.ensures ∙ c.if-is_repeater.false)))

pub emit_absent-emit_easy_absent-requires : goal.emit_absent-emit_easy_absent-requires
emit_absent-emit_easy_absent-requires t c = record { whole = c.requires; easy = sym c.hard.ensures ∙ c.if-not-hard.true }

pub emit_absent-returns-then-not-hard : goal.emit_absent-returns-then-not-hard
emit_absent-returns-then-not-hard t c = c.emit_easy_absent.ensures

pub emit_absent-returns-then-is_refused_body : goal.emit_absent-returns-then-is_refused_body
emit_absent-returns-then-is_refused_body t c = λ in_hard p call at_start room u known.
    let e = info_tree c.args.body.now in
    let hard = hard_child p.analysis c.args.body.now known in
    let is = ap (λ b. b && list_any is_absent (nodes e)) (sym hard) ∙ sym c.is_refused_body.ensures ∙ c.if-is_refused_body.true in
    c.refuse.ensures p _ _ (repeater_refused p e is)

pub emit_absent-is_refused_body-requires : goal.emit_absent-is_refused_body-requires
emit_absent-is_refused_body-requires t c = (c.requires.analysis, c.requires.known)

pub emit_absent-returns : goal.emit_absent-returns
emit_absent-returns t c = λ in_hard p call at_start room u known.
    let q = within_node p in
    let e = info_tree c.args.body.now in
    let hard = hard_child p.analysis c.args.body.now known in
    let is = ap (λ b. b && list_any is_absent (nodes e)) (sym hard) ∙ sym c.is_refused_body.ensures ∙ c.if-is_refused_body.false in
    let inner = step_past (node_code p call e false false) in
    wrote_absent p e room call at_start in_hard _ _ (sym hard ∙ sym c.hard.ensures ∙ c.if-not-hard.false) is
    (c.end.ensures q inner (e ∷ []) _ _ c.start-start.ensures (c.begin.ensures q) (c.emit_step_past.ensures q call u known))

pub emit_step_past-returns : goal.emit_step_past-returns
emit_step_past-returns t c = λ p call u known.
    let e = info_tree c.args.body.now in
    let look : Code = around_code not_ahead (node_code p call e false false) in
    let end : Code = one Instr.EndAtomic in
    let any : Code = one Instr.Any in
    let a : Code = look >> end >> any in
    let b : Code = end >> nothing in
    let es = e ∷ [] in
    let wrote_a = wrote_then p look (end >> any) es [] _ _ _ (c.emit_around.ensures p call u known)
    (wrote_then p end any [] [] _ _ _ (c.push-3.ensures.writes p) (c.push-4.ensures.writes p)) in
    let z = draft_of c.push-6.new.self in
    let wrote_b = wrote_then p end nothing [] [] _ z z (c.push-6.ensures.writes p) (wrote_nothing p z) in
    let jump = subst (λ d. Writes p (one (Instr.Jmp 0)) [] d (draft_of c.push-5.new.self)) c.patch.ensures (c.push-5.ensures.writes p) in
    let both = wrote_both p es [] a b (draft_of c.push.new.self) (draft_of c.push-2.new.self) (draft_of c.push-4.new.self)
    (draft_of c.push-5.new.self) z c.len-split.result c.len-jump.result _ _
    (c.len-split.ensures ∙ c.push.new.self.code.ok.0 ∙ sym (length-map c.push.new.self.code.items insn_of))
    (c.len-jump.ensures ∙ c.push-4.new.self.code.ok.0 ∙ sym (length-map c.push-4.new.self.code.items insn_of))
    (c.push-2.ensures.writes p) wrote_a jump wrote_b in
    let last : length z.instrs ≡ c.len-end.result = length-map c.push-6.new.self.code.items insn_of ∙ sym (c.len-end.ensures ∙ c.push-6.new.self.code.ok.0) in
    let done = ap (λ n. with_patch z c.len-jump.result (Instr.Jmp n)) last ∙ sym c.patch-2.ensures in
    wrote_then p (one Instr.BeginAtomic) (branch a b) [] es _ _ _ (c.push.ensures.writes p)
    (subst (λ d. Writes p (branch a b) es (draft_of c.push.new.self) d) done both)

-- ---- calls

pub emit_node-emit_call-requires : goal.emit_node-emit_call-requires
emit_node-emit_call-requires t c = (omega (arith, node_count-below c.args.info.now), (c.requires.analysis, c.requires.of_tree))

pub emit_node-returns-in-SubroutineCall : goal.emit_node-returns-in-SubroutineCall
emit_node-returns-in-SubroutineCall t c = λ p call room u known.
    let tree = tree_by c.args.info.now _ _ (sym c.expr-expr.ensures ∙ c.in-SubroutineCall.is) refl in
    written_as p call c.args.at_start c.args.in_hard _ _ _ _ tree
    (c.emit_call.ensures p call c.args.at_start room u)

pub emit_call-returns-then-not-has_target : goal.emit_call-returns-then-not-has_target
emit_call-returns-then-not-has_target t c = λ p call at_start room u.
    let missing = no_target p.analysis c.args.self.now u.of_tree c.args.group (sym c.has_target.ensures ∙ c.if-not-has_target.true) in
    c.refuse.ensures p _ _ (missing_refused p c.args.group missing)

pub emit_call-returns-then-depth-ge-CALL_DEPTH : goal.emit_call-returns-then-depth-ge-CALL_DEPTH
emit_call-returns-then-depth-ge-CALL_DEPTH t c = λ p call at_start room u.
    let found = some_target p.analysis c.args.self.now u.of_tree c.args.group (sym c.has_target.ensures ∙ c.if-not-has_target.false) in
    let full : call_depth ≤ p.depths c.args.group = omega (arith, c.open_calls-depth.ensures, ap (λ d. d c.args.group) u.depths, c.if-depth-ge-CALL_DEPTH.true)
    in
    wrote_full p room c.args.group found.0 found.1 call u.budget at_start c.args.in_hard _ _ u.calls full (c.push.ensures.writes p)

pub emit_call-emit-requires : goal.emit_call-emit-requires
emit_call-emit-requires t c =
    let a = c.requires.0 in
    let s = c.requires.1 in
    let scope = c.args.self.now in
    let g = c.args.group in
    let free : depths_of scope.calls g < call_depth = omega (arith, c.open_calls-depth.ensures, c.if-depth-ge-CALL_DEPTH.false) in
    let deeper = ap (λ n. n + 1) c.open_calls-depth.ensures in
    let at = zero_target a scope s g c.if-group-eq0.true in (
      omega (arith, lighter scope g (c.open_calls-depth.result + 1) deeper a a.tree s at free),
      record { analysis = a; of_tree = same_tree a scope _ s; known = s.root; small = omega arith; fine = s.fine },
    )

pub emit_call-returns-then-group-eq0 : goal.emit_call-returns-then-group-eq0
emit_call-returns-then-group-eq0 t c = λ p call at_start room u.
    let scope = c.args.self.now in
    let g = c.args.group in
    let whole = p.analysis.tree in
    let free : p.depths g < call_depth = omega (arith, c.open_calls-depth.ensures, ap (λ d. d g) u.depths, c.if-depth-ge-CALL_DEPTH.false) in
    let deeper = ap (λ n. n + 1) c.open_calls-depth.ensures in
    let at = zero_target p.analysis scope u.of_tree g c.if-group-eq0.true in
    let inner = inner_code p room call scope u g whole at free in
    let hard = info_hard scope.root.now in
    let s = draft_of c.args.writer.now in
    let z = draft_of c.emit.new.writer in
    let q = under_call g (within_node p) in
    let wrote = c.emit.ensures q inner (inner_u p room call scope u g whole at free (c.open_calls-depth.result + 1) deeper _) (u.of_tree).root in
    wrote_called p room call scope u g whole at free at_start c.args.in_hard s z
    (subst (λ k. Adds q (k (length s.instrs) s.fresh) (whole ∷ []) s z) (sym (code_of_zero p c.args.in_hard inner whole g c.if-group-eq0.true))
    (subst (λ b. Writes q (code_in q inner b whole true c.args.in_hard) (whole ∷ []) s z) (root_by p.plan hard (u.of_tree).hard)
    (subst (λ e. Writes q (code_in q inner (not hard) e true c.args.in_hard) (e ∷ []) s z) (u.of_tree).tree wrote)))

pub emit_call-node-requires : goal.emit_call-node-requires
emit_call-node-requires t c =
    (in_range c.requires.0 c.args.self.now c.requires.1 c.args.group c.if-group-eq0.false (sym c.has_target.ensures ∙ c.if-not-has_target.false)).1

pub emit_call-emit_node-requires : goal.emit_call-emit_node-requires
emit_call-emit_node-requires t c =
    let a = c.requires.0 in
    let s = c.requires.1 in
    let scope = c.args.self.now in
    let g = c.args.group in
    let free : depths_of scope.calls g < call_depth = omega (arith, c.open_calls-depth.ensures, c.if-depth-ge-CALL_DEPTH.false) in
    let deeper = ap (λ n. n + 1) c.open_calls-depth.ensures in
    let range = in_range a scope s g c.if-group-eq0.false (sym c.has_target.ensures ∙ c.if-not-has_target.false) in
    let b = c.node.result in
    let at = found_target a scope s g b range.0 range.1 c.node.ensures c.if-group-eq0.false in
    let facts = found_facts a scope s g b range.0 range.1 c.node.ensures in (
      omega (arith, facts.1, lighter scope g (c.open_calls-depth.result + 1) deeper a (found_body a scope s g b range.0 range.1 c.node.ensures) s at free),
      record { analysis = a; of_tree = same_tree a scope _ s; known = facts.0; small = facts.1; fine = facts.2 },
    )

pub emit_call-returns : goal.emit_call-returns
emit_call-returns t c = λ p call at_start room u.
    let scope = c.args.self.now in
    let g = c.args.group in
    let free : p.depths g < call_depth = omega (arith, c.open_calls-depth.ensures, ap (λ d. d g) u.depths, c.if-depth-ge-CALL_DEPTH.false) in
    let deeper = ap (λ n. n + 1) c.open_calls-depth.ensures in
    let range = in_range p.analysis scope u.of_tree g c.if-group-eq0.false (sym c.has_target.ensures ∙ c.if-not-has_target.false) in
    let b = c.node.result in
    let body = found_body p.analysis scope u.of_tree g b range.0 range.1 c.node.ensures in
    let at = found_target p.analysis scope u.of_tree g b range.0 range.1 c.node.ensures c.if-group-eq0.false in
    let tree = found_tree p.analysis scope u.of_tree g b range.0 range.1 c.node.ensures in
    let facts = found_facts p.analysis scope u.of_tree g b range.0 range.1 c.node.ensures in
    let marked = c.is_marked-at_start.result in
    let starts = c.is_marked-at_start.ensures ∙ ap (λ l. slice_index_or l (g - scope.groups.now.first) false) c.deref.ensures.value
    ∙ found_starts p.analysis scope u.of_tree g b range.0 range.1 c.node.ensures in
    let inner = inner_code p room call scope u g body at free in
    let s = draft_of c.args.writer.now in
    let z = draft_of c.emit_node.new.writer in
    let q = under_call g p in
    let wrote = c.emit_node.ensures q inner room (inner_u p room call scope u g body at free (c.open_calls-depth.result + 1) deeper _) facts.0 in
    wrote_called p room call scope u g body at free at_start c.args.in_hard s z
    (subst (λ k. Adds (within_node q) (k (length s.instrs) s.fresh) (body ∷ []) s z)
    (sym (code_of_group p c.args.in_hard inner body g marked c.if-group-eq0.false starts))
    (wrote_body q room g body (written_code q inner (plain.Group g body) marked c.args.in_hard) s z
    (subst (λ e. Writes q (written_code q inner e marked c.args.in_hard) (e ∷ []) s z) tree wrote)))

pub emit_node-returns-in-Assertion : goal.emit_node-returns-in-Assertion
emit_node-returns-in-Assertion t c = λ p call room u known.
    let q = within_node p in
    let i = c.args.info.now in
    let tree = tree_by i _ _ (sym c.expr-expr.ensures ∙ c.in-Assertion.is) refl in
    written_as p call c.args.at_start c.args.in_hard _ _ _ _ tree
    (wrote_assertion p call c.args.at_start c.args.in_hard _ _ (info_within i) _ c.in_look_around.result room c.in_look_around.ensures
    (c.emit_assertion.ensures q))
