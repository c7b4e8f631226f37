use Rattle.std.proofs.Common.{Some, ◌≡◌, ℕ, ◌+◌, ◌-◌, ◌<◌, ◌≤◌, ◌==◌, true, false, [], ◌∷◌, ◌++◌, length, drop, get_or, refl, sym, ap, ◌∙◌, subst, arith, length-append, ne_eqb}
use Rattle.fancy_meaning.specs.Tree as plain_tree
use Rattle.fancy_meaning.specs.Constructs.{loop_form}
use Rattle.fancy_meaning.specs.Sizes.{Size, size}
use Rattle.fancy_delegation.proofs.EasyNodes.{easy_group, easy_repeat, easy_concat, easy_alt}
use Rattle.fancy_info.specs.declared.info.Info.TheViews.{out-Info}
use Rattle.fancy_info.specs.Infos.{info_tree, info_children}
use Rattle.fancy_expr.specs.Views.{bound_of}
use Rattle.fancy_nfa_laws.specs.NfaStates as plain
use Rattle.fancy_nfa_laws.specs.NfaCode.{NfaCode, ◌>>◌, one, around, headed, preferring, laid, each_laid, in_sequence, branches, one_of, repeated, star, plus}
use Rattle.fancy_nfa.specs.ClassTexts.{texts_of, texts_in, AreClasses}
use Rattle.fancy_nfa.specs.Views.{state_of}
use Rattle.fancy_backtrack.specs.Loops.{loop_of}
use Rattle.fancy_nfa.specs.Shapes.{form_of, branch_choice, group_code, with_jumps}
use Rattle.fancy_nfa.specs.Layouts.{Replaces, Lays, states_in}
use Rattle.fancy_nfa.specs.Neighbours.{IsEasy, trees_of}
use Rattle.fancy_info.specs.NodeCounts.{node_counts}
use Rattle.fancy_info.proofs.Children.{node_count-below, child_count, each_at, tree_by}
use Rattle.fancy_nfa.proofs.Nodes.{easy_kids, easy_size, has_one, smaller_child, tree_over, easy_body}
use Rattle.fancy_nfa.proofs.Laid.{place, same_states, replaced_then, replaced_same, lays_behind, lays_before, adds_behind, adds_before, adds_headed, adds_around, lays_at, lays_fault}
use Rattle.fancy_nfa.proofs.Texts.{lays_fault_at, lays_parts, lays_part, repeat_parts, form_enters}
use Rattle.fancy_nfa.proofs.Branches.{sequence_step, sequence_end, with_branches, branch_step, branch_end, classes_step, classes_end}
use Rattle.fancy_nfa.proofs.layout.Layout.+lay.Goals as goal

-- ---- a node

pub lay-lay_each-requires : goal.lay-lay_each-requires
lay-lay_each-requires t c =
    let info = c.args.info.now in
    let a = c.requires.0 in
    let tree = tree_by info _ _ (sym c.expr.ensures ∙ c.in-Concat.is) refl in (
      omega (arith, node_count-below info, ap node_counts c.children.ensures),
      (a, easy_kids info a c.requires.1 plain_tree.Concat (easy_concat a) tree _ c.children.ensures),
    )

pub lay-lay_alternation-requires : goal.lay-lay_alternation-requires
lay-lay_alternation-requires t c =
    let info = c.args.info.now in
    let a = c.requires.0 in
    let tree = tree_by info _ _ (sym c.expr.ensures ∙ c.in-Alt.is) refl in (
      omega (arith, node_count-below info, ap node_counts c.children-in-Alt.ensures),
      (a, easy_kids info a c.requires.1 plain_tree.Alt (easy_alt a) tree _ c.children-in-Alt.ensures),
    )

pub lay-only_child-requires : goal.lay-only_child-requires
lay-only_child-requires t c =
    let info = c.args.info.now in
    omega (arith, has_one info c.requires.0 c.requires.1 info _ (sym c.expr.ensures ∙ c.in-Group.is) refl)

pub lay-lay_group-requires : goal.lay-lay_group-requires
lay-lay_group-requires t c =
    let info = c.args.info.now in
    let body = c.only_child.result.now in
    let a = c.requires.0 in
    let at = sym c.expr.ensures ∙ c.in-Group.is in
    let one = c.only_child.ensures in (
      omega (arith, smaller_child info a c.requires.1 body _ at refl one),
      (a, easy_body info a c.requires.1 body _ at refl one (λ h. (easy_group a _ (info_tree body) h).1)),
    )

pub lay-only_child-requires-in-Repeat : goal.lay-only_child-requires-in-Repeat
lay-only_child-requires-in-Repeat t c =
    let info = c.args.info.now in
    omega (arith, has_one info c.requires.0 c.requires.1 info _ (sym c.expr.ensures ∙ c.in-Repeat.is) refl)

pub lay-lay_repeat-requires : goal.lay-lay_repeat-requires
lay-lay_repeat-requires t c =
    let info = c.args.info.now in
    let body = c.only_child-in-Repeat.result.now in
    let a = c.requires.0 in
    let at = sym c.expr.ensures ∙ c.in-Repeat.is in
    let one = c.only_child-in-Repeat.ensures in (
      omega (arith, smaller_child info a c.requires.1 body _ at refl one),
      (
        a,
        easy_body info a c.requires.1 body _ at refl one
            (easy_repeat a c.in-Repeat.lo (bound_of c.in-Repeat.hi) c.in-Repeat.greedy (info_tree body)),
      ),
    )

pub lay-returns-in-Concat : goal.lay-returns-in-Concat
lay-returns-in-Concat t c = λ a easy.
    let info = c.args.info.now in
    let kids = info_children info in
    let tree = tree_by info _ _ (sym c.expr.ensures ∙ c.in-Concat.is) refl in
    let s = c.args.self.now in
    let u = c.lay_each.new.self in
    subst (λ e. Lays (laid a.tree e) (texts_of e) s u c.lay_each.result) (sym tree)
    (lays_parts (in_sequence (each_laid a.tree (trees_of kids))) (plain_tree.Concat (trees_of kids)) tt s u c.lay_each.result
    (subst (λ l. Lays (in_sequence (each_laid a.tree (trees_of l))) (texts_in (trees_of l)) s u c.lay_each.result) c.children.ensures
    (c.lay_each.ensures a (easy_kids info a easy plain_tree.Concat (easy_concat a) tree _ c.children.ensures))))

pub lay-returns-in-Alt : goal.lay-returns-in-Alt
lay-returns-in-Alt t c = λ a easy.
    let info = c.args.info.now in
    let kids = info_children info in
    let tree = tree_by info _ _ (sym c.expr.ensures ∙ c.in-Alt.is) refl in
    let s = c.args.self.now in
    let u = c.lay_alternation.new.self in
    subst (λ e. Lays (laid a.tree e) (texts_of e) s u c.lay_alternation.result) (sym tree)
    (lays_parts (one_of (each_laid a.tree (trees_of kids))) (plain_tree.Alt (trees_of kids)) tt s u c.lay_alternation.result
    (subst (λ l. Lays (one_of (each_laid a.tree (trees_of l))) (texts_in (trees_of l)) s u c.lay_alternation.result) c.children-in-Alt.ensures
    (c.lay_alternation.ensures a (easy_kids info a easy plain_tree.Alt (easy_alt a) tree _ c.children-in-Alt.ensures))))

pub lay-returns-in-Group : goal.lay-returns-in-Group
lay-returns-in-Group t c = λ a easy.
    let info = c.args.info.now in
    let body = c.only_child.result.now in
    let at = sym c.expr.ensures ∙ c.in-Group.is in
    let tree = tree_over info a easy body _ at refl c.only_child.ensures in
    let g = (out-Info info).start_group in
    let known = easy_body info a easy body _ at refl c.only_child.ensures (λ h. (easy_group a g (info_tree body) h).1) in
    let s = c.args.self.now in
    let u = c.lay_group.new.self in
    subst (λ e. Lays (laid a.tree e) (texts_of e) s u c.lay_group.result) (sym tree)
    (lays_part (group_code g (laid a.tree (info_tree body))) (plain_tree.Group g (info_tree body)) tt s u c.lay_group.result (info_tree body) refl
    (subst (λ n. Lays (group_code n (laid a.tree (info_tree body))) (texts_of (info_tree body)) s u c.lay_group.result) c.start_group.ensures
    (c.lay_group.ensures a known)))

pub lay-returns-in-Repeat : goal.lay-returns-in-Repeat
lay-returns-in-Repeat t c = λ a easy.
    let info = c.args.info.now in
    let body = c.only_child-in-Repeat.result.now in
    let at = sym c.expr.ensures ∙ c.in-Repeat.is in
    let tree = tree_over info a easy body _ at refl c.only_child-in-Repeat.ensures in
    let known = easy_body info a easy body _ at refl c.only_child-in-Repeat.ensures
    (easy_repeat a c.in-Repeat.lo (bound_of c.in-Repeat.hi) c.in-Repeat.greedy (info_tree body)) in
    subst (λ e. Lays (laid a.tree e) (texts_of e) c.args.self.now c.lay_repeat.new.self c.lay_repeat.result) (sym tree)
    (c.lay_repeat.ensures a known)

-- ---- a sequence

pub lay_each-lay-requires : goal.lay_each-lay-requires
lay_each-lay-requires t c =
    let i = c.loop-info.info-index in
    let x = c.info-item.result in
    let lt : i < length c.args.infos.now = omega arith in (
      omega (arith, child_count c.args.infos.now i x lt c.info-item.is),
      (c.requires.0, each_at (IsEasy c.requires.0) c.args.infos.now i x c.requires.1 lt c.info-item.is),
    )

pub lay_each-loop-info-init : goal.lay_each-loop-info-init
lay_each-loop-info-init t c = record { unicode = refl; goes = λ a each u all. all }

pub lay_each-loop-info-preserved : goal.lay_each-loop-info-preserved
lay_each-loop-info-preserved t c =
    let i = c.loop-info.info-index in
    let x = c.info-item.result in
    let infos = c.args.infos.now in
    let lt : i < length infos = omega arith in
    let own = each_at (IsEasy c.requires.0) infos i x c.requires.1 lt c.info-item.is in
    record {
      unicode = (c.in_ok-lay.ensures c.requires.0 own).added.unicode ∙ c.loop-info.invariant.unicode;
      goes = λ a each u left.
          c.loop-info.invariant.goes a each u
          (sequence_step a infos i x lt c.info-item.is c.loop-info.self c.lay.new.self u
          (c.in_ok-lay.ensures a (each_at (IsEasy a) infos i x each lt c.info-item.is)) left);
    }

pub lay_each-returns-in_err-lay : goal.lay_each-returns-in_err-lay
lay_each-returns-in_err-lay t c = λ a each.
    let i = c.loop-info.info-index in
    let x = c.info-item.result in
    let infos = c.args.infos.now in
    let lt : i < length infos = omega arith in
    lays_fault_at (in_sequence (each_laid a.tree (trees_of infos))) infos c.args.self.now c.lay.new.self _ c.in_err-lay.field-0.0 i x _ lt
    c.info-item.is c.from_residual.ensures c.loop-info.invariant.unicode
    (c.in_err-lay.ensures a (each_at (IsEasy a) infos i x each lt c.info-item.is))

pub lay_each-returns : goal.lay_each-returns
lay_each-returns t c = λ a each.
    c.loop-info.invariant.goes a each c.loop-info.self (sequence_end a c.args.infos.now c.loop-info.info-index c.loop-info.self (omega arith))

-- ---- branches

pub lay_alternation-returns-in_err-lay_branches : goal.lay_alternation-returns-in_err-lay_branches
lay_alternation-returns-in_err-lay_branches t c = λ a each.
    let cs = each_laid a.tree (trees_of c.args.infos.now) in
    lays_fault (one_of cs) (texts_in (trees_of c.args.infos.now)) c.args.self.now _ _ _ c.from_residual.ensures (c.in_err-lay_branches.ensures a each)

pub lay_alternation-returns : goal.lay_alternation-returns
lay_alternation-returns t c = λ a each.
    let cs = each_laid a.tree (trees_of c.args.infos.now) in
    lays_before (branches plain.Split cs) (one plain.Join) c.args.self.now c.lay_branches.new.self c.push.new.self (texts_in (trees_of c.args.infos.now))
    c.push.result (c.in_ok-lay_branches.ensures a each) c.push.ensures

pub lay_branch-returns-clause-lays : goal.lay_branch-returns-clause-lays
lay_branch-returns-clause-lays t c = λ a easy.
    let body = laid a.tree (info_tree c.args.info.now) in
    let texts = texts_of (info_tree c.args.info.now) in
    let s = c.args.self.now in
    let t1 = c.push.new.self in
    let t2 = c.lay.new.self in
    let t3 = c.push-2.new.self in
    let here = c.len-here.result in
    let jump = c.len-jump.result in
    let end : jump + 1 ≡ length (states_in t3) = omega
    (arith, c.len-jump.ensures, place t2, ap length c.in_ok-push-2.ensures.added.states, length-append (states_in t2) (plain.Jump 0 ∷ [])) in
    adds_headed (plain.Jump 0) (state_of c.branch_choice.result) (λ here after. branch_choice c.args.is_first (here + 1) after) (body >> one (plain.Jump 0))
    texts s t3 c.patch.new.self here (c.len-here.ensures ∙ place s)
    (c.branch_choice.ensures.value ∙ ap (branch_choice c.args.is_first (here + 1)) end)
    (adds_behind (one (plain.Jump 0)) (body >> one (plain.Jump 0)) s t1 t3 texts c.in_ok-push.ensures
    (adds_before body (one (plain.Jump 0)) t1 t2 t3 texts (c.in_ok-lay.ensures a easy) c.in_ok-push-2.ensures))
    c.patch.ensures

pub lay_branches-lay_branch-requires : goal.lay_branches-lay_branch-requires
lay_branches-lay_branch-requires t c =
    let x = c.index-infos-i.result in
    let lt : c.loop-i.i < length c.args.infos.now = omega arith in (
      omega (arith, child_count c.args.infos.now c.loop-i.i x lt c.index-infos-i.is),
      (c.requires.0, each_at (IsEasy c.requires.0) c.args.infos.now c.loop-i.i x c.requires.1 lt c.index-infos-i.is),
    )

pub lay_branches-lay-requires : goal.lay_branches-lay-requires
lay_branches-lay-requires t c =
    let x = c.index-infos-count.result in
    let last = length c.args.infos.now - 1 in
    let lt : last < length c.args.infos.now = omega (arith, c.if-count-eq0.false) in (
      omega (arith, child_count c.args.infos.now last x lt c.index-infos-count.is),
      (c.requires.0, each_at (IsEasy c.requires.0) c.args.infos.now last x c.requires.1 lt c.index-infos-count.is),
    )

pub lay_branches-loop-i-init : goal.lay_branches-loop-i-init
lay_branches-loop-i-init t c = record {
  same = same_states c.args.self.now;
  goes = λ a each.
      let all = with_branches a c.args.self.now true c.args.infos.now in ap (λ js. with_jumps js (length all) all) c.in_ok-jumps.ensures.items;
  classes = λ a each h. h;
}

pub lay_branches-loop-i-preserved : goal.lay_branches-loop-i-preserved
lay_branches-loop-i-preserved t c =
    let i = c.loop-i.i in
    let x = c.index-infos-i.result in
    let infos = c.args.infos.now in
    let lt : i < length infos = omega arith in
    let more : i + 1 < length infos = omega arith in
    let own = each_at (IsEasy c.requires.0) infos i x c.requires.1 lt c.index-infos-i.is in
    let s = c.args.self.now in
    let t1 = c.loop-i.self in
    let t2 = c.lay_branch.new.self in
    let rest = drop (i + 1) infos in
    let further : (i + 1 == 0) ≡ false = ne_eqb (i + 1) 0 (λ e. omega (arith, e)) in record {
      same = replaced_same _ s t2 (replaced_then _ _ s t1 t2 c.loop-i.invariant.same (c.in_ok-jump.ensures.lays c.requires.0 own).added);
      goes = λ a each.
          let laid_one = c.in_ok-jump.ensures.lays a (each_at (IsEasy a) infos i x each lt c.index-infos-i.is) in
          let all = with_branches a t2 false rest in
          subst (λ b. with_jumps c.push.new.self.items (length (with_branches a t2 b rest)) (with_branches a t2 b rest) ≡ with_branches a s true infos)
          (sym further)
          (ap (λ js. with_jumps js (length all) all) {y = c.loop-i.jumps.items ++ c.in_ok-jump.jump ∷ []} c.in_ok-push.ensures.items
          ∙ branch_step a infos i x lt c.index-infos-i.is (i == 0) t1 t2 more laid_one c.in_ok-jump.jump c.in_ok-jump.ensures.jump c.loop-i.jumps.items
          ∙ c.loop-i.invariant.goes a each);
      classes = λ a each left.
          let laid_one = c.in_ok-jump.ensures.lays a (each_at (IsEasy a) infos i x each lt c.index-infos-i.is) in
          c.loop-i.invariant.classes a each
          (classes_step s.unicode infos i x lt c.index-infos-i.is
          (subst (λ u. AreClasses u (texts_of (info_tree x))) c.loop-i.invariant.same.unicode laid_one.classes) left);
    }

pub lay_branches-returns-in_err-jump : goal.lay_branches-returns-in_err-jump
lay_branches-returns-in_err-jump t c = λ a each.
    let i = c.loop-i.i in
    let x = c.index-infos-i.result in
    let infos = c.args.infos.now in
    let lt : i < length infos = omega arith in
    lays_fault_at (branches plain.Split (each_laid a.tree (trees_of infos))) infos c.args.self.now c.lay_branch.new.self _ c.in_err-jump.field-0.0
    i x _ lt c.index-infos-i.is c.from_residual-in_err-jump.ensures c.loop-i.invariant.same.unicode
    (c.in_err-jump.ensures.lays a (each_at (IsEasy a) infos i x each lt c.index-infos-i.is))

pub lay_branches-returns-in_err-lay : goal.lay_branches-returns-in_err-lay
lay_branches-returns-in_err-lay t c = λ a each.
    let x = c.index-infos-count.result in
    let infos = c.args.infos.now in
    let last = length infos - 1 in
    let lt : last < length infos = omega (arith, c.if-count-eq0.false) in
    lays_fault_at (branches plain.Split (each_laid a.tree (trees_of infos))) infos c.args.self.now c.lay.new.self _ c.in_err-lay.field-0.0 last x _
    lt c.index-infos-count.is c.from_residual-in_err-lay.ensures c.loop-i.invariant.same.unicode
    (c.in_err-lay.ensures a (each_at (IsEasy a) infos last x each lt c.index-infos-count.is))

pub lay_branches-returns : goal.lay_branches-returns
lay_branches-returns t c = λ a each.
    let i = c.loop-i.i in
    let x = c.index-infos-count.result in
    let infos = c.args.infos.now in
    let end : length infos - 1 ≡ i = omega arith in
    let lt : i < length infos = omega (arith, c.if-count-eq0.false) in
    let at : x ≡ get_or infos i x = c.index-infos-count.is ∙ ap (λ n. get_or infos n x) end in
    let laid_one = c.in_ok-lay.ensures a (each_at (IsEasy a) infos i x each lt at) in
    let s = c.args.self.now in
    let t1 = c.loop-i.self in
    let t2 = c.lay.new.self in
    let u = c.patch_jumps.new.self in
    let last : length infos ≤ i + 1 = omega arith in
    let left = with_branches a t1 (i == 0) (drop i infos) in
    let all = ap (λ l. with_jumps c.loop-i.jumps.items (length l) l) {y = left} (sym (branch_end a infos i x lt at (i == 0) t1 t2 last laid_one))
    ∙ c.loop-i.invariant.goes a each in record {
      added = subst (λ l. Replaces l s u) all
          (replaced_then _ _ s t2 u (replaced_then _ _ s t1 t2 c.loop-i.invariant.same laid_one.added) c.patch_jumps.ensures);
      classes = c.loop-i.invariant.classes a each
          (classes_step s.unicode infos i x lt at
          (subst (λ v. AreClasses v (texts_of (info_tree x))) c.loop-i.invariant.same.unicode laid_one.classes)
          (classes_end s.unicode infos (i + 1) last));
    }

-- ---- a group, and loops

pub lay_group-returns : goal.lay_group-returns
lay_group-returns t c = λ a easy.
    let body = laid a.tree (info_tree c.args.body.now) in
    let texts = texts_of (info_tree c.args.body.now) in
    let close : NfaCode = one (plain.Close c.args.group) in
    lays_behind (one plain.Open) (body >> close) c.args.self.now c.push.new.self c.push-2.new.self texts c.push-2.result c.in_ok-push.ensures
    (lays_before body close c.push.new.self c.lay.new.self c.push-2.new.self texts c.push-2.result (c.in_ok-lay.ensures a easy) c.push-2.ensures)

pub lay_at_most_once-returns : goal.lay_at_most_once-returns
lay_at_most_once-returns t c = λ a easy.
    let body = laid a.tree (info_tree c.args.body.now) in
    let texts = texts_of (info_tree c.args.body.now) in
    let s = c.args.self.now in
    let t2 = c.lay.new.self in
    let head : ℕ → ℕ → plain.NfaState = λ here after. preferring plain.Split c.args.greedy (here + 1) after in
    let here = c.len-here.result in
    let q = plain.Split c.preferred-first.result.0 c.preferred-first.result.1 in
    lays_before (headed head body) (one plain.Join) s c.patch.new.self c.push-2.new.self texts c.push-2.result
    (adds_headed (plain.Jump 0) q head body texts s t2 c.patch.new.self here (c.len-here.ensures ∙ place s)
    (c.preferred-first.ensures plain.Split ∙ ap (head here) (c.len.ensures ∙ place t2))
    (adds_behind (one (plain.Jump 0)) body s c.push.new.self t2 texts c.in_ok-push.ensures (c.in_ok-lay.ensures a easy)) c.patch.ensures)
    c.push-2.ensures

pub lay_star-returns : goal.lay_star-returns
lay_star-returns t c = λ a easy.
    let body = laid a.tree (info_tree c.args.body.now) in
    let texts = texts_of (info_tree c.args.body.now) in
    let s = c.args.self.now in
    let t3 = c.push-2.new.self in
    let head : ℕ → ℕ → plain.NfaState = λ here after. preferring plain.LoopSplit c.args.greedy (here + 1) after in
    let here = c.len-here.result in
    let q = plain.LoopSplit c.preferred-first.result.0 c.preferred-first.result.1 in
    adds_around body texts s c.push.new.self c.lay.new.self t3 c.patch.new.self head q here (c.len-here.ensures ∙ place s)
    (c.preferred-first.ensures plain.LoopSplit ∙ ap (head here) (c.len.ensures ∙ place t3))
    c.in_ok-push.ensures (c.in_ok-lay.ensures a easy) c.in_ok-push-2.ensures c.patch.ensures

pub lay_plus-returns : goal.lay_plus-returns
lay_plus-returns t c = λ a easy.
    let body = laid a.tree (info_tree c.args.body.now) in
    let texts = texts_of (info_tree c.args.body.now) in
    let s = c.args.self.now in
    let u = c.lay_star.new.self in
    let base = c.len-base.result in
    let n = length (states_in s) in
    lays_at (one (plain.Jump (base + 2)) >> star c.args.greedy body) (plus c.args.greedy body) texts s u
    (ap (λ m. plain.Jump (m + 2) ∷ star c.args.greedy body (n + 1)) (c.len-base.ensures ∙ place s)) c.lay_star.result
    (lays_behind (one (plain.Jump (base + 2))) (star c.args.greedy body) s c.push.new.self u texts c.lay_star.result c.in_ok-push.ensures
    (c.lay_star.ensures a easy))

pub lay_counted-returns : goal.lay_counted-returns
lay_counted-returns t c = λ a easy.
    let body = laid a.tree (info_tree c.args.body.now) in
    let texts = texts_of (info_tree c.args.body.now) in
    let s = c.args.self.now in
    let t1 = c.push.new.self in
    let t4 = c.push-3.new.self in
    let t5 = c.patch.new.self in
    let t6 = c.push-4.new.self in
    let head : ℕ → ℕ → plain.NfaState = λ here after. plain.CounterLoop (loop_of c.args.bounds) after in
    let here = c.len-here.result in
    lays_behind (one plain.CounterBegin) (around head body >> one plain.Join) s t1 t6 texts c.push-4.result c.in_ok-push.ensures
    (lays_before (around head body) (one plain.Join) t1 t5 t6 texts c.push-4.result
    (adds_around body texts t1 c.push-2.new.self c.lay.new.self t4 t5 head (plain.CounterLoop (loop_of c.args.bounds) c.len-after.result) here
    (c.len-here.ensures ∙ place t1) (ap (head here) (c.len-after.ensures ∙ place t4)) c.in_ok-push-2.ensures (c.in_ok-lay.ensures a easy)
    c.in_ok-push-3.ensures c.patch.ensures)
    c.push-4.ensures)

pub lay_repeat-returns-in-Some : goal.lay_repeat-returns-in-Some
lay_repeat-returns-in-Some t c = λ a easy.
    let i = c.args.body.now in
    let e = info_tree i in
    let lo = c.args.lo in
    let hi = bound_of c.args.hi in
    let greedy = c.args.greedy in
    let s = c.args.self.now in
    let u = c.lay_loop.new.self in
    let r = c.lay_loop.result in
    let is : form_of (Some c.in-Some.form) ≡ loop_form lo hi ((size a.tree e).least == 0) =
    ap form_of (sym c.in-Some.is) ∙ c.loop_form.ensures
    ∙ ap (λ n. loop_form lo hi (n == 0))
    (c.min_size.ensures ∙ ap (λ (z : Size). z.least) (easy_size a i easy)) in
    let code = repeated greedy (laid a.tree e) (loop_form lo hi ((size a.tree e).least == 0)) in
    lays_part code (plain_tree.Repeat lo hi greedy e) tt s u r e (repeat_parts lo hi greedy e (form_enters c.in-Some.form lo hi _ is))
    (subst (λ f. Lays (repeated greedy (laid a.tree e) f) (texts_of e) s u r) is (c.lay_loop.ensures a easy))
