use Rattle.std.proofs.Common.{◌<◌, ◌+◌, ◌++◌, ◌∷◌, [], length, drop, sym, ap, ◌∙◌, arith, append-nil, append_assoc}
use Rattle.std.proofs.lemmas.List.{drop_all}
use Rattle.fancy_info.specs.Infos.{info_tree}
use Rattle.fancy_faults.specs.Blame.{is_variable_look_behind}
use Rattle.fancy_faults.proofs.Analysed.{marks, each_marks, marks_below, each_rest, part_known, part_smaller}
use Rattle.fancy_faults.proofs.finder.+push_look_behinds.Goals as goal

pub loop-part-init : goal.loop-part-init
loop-part-init t c = λ a k.
    let i = c.args.info.now in
    let f = is_variable_look_behind a.tree in
    let old = c.args.marks.now.items in
    ap (λ l. l ++ each_marks f c.children-children.result.now) (c.in_ok-push.ensures.items
    ∙ ap (λ b. old ++ b ∷ []) (c.is_variable_look_behind.ensures a k))
    ∙ append_assoc old (f (info_tree i) ∷ []) (each_marks f c.children-children.result.now)
    ∙ ap (λ l. old ++ (f (info_tree i) ∷ each_marks f l)) c.children-children.ensures
    ∙ ap (λ l. old ++ l) (sym (marks_below f a i k))

pub push_look_behinds-requires : goal.push_look_behinds-requires
push_look_behinds-requires t c =
    let lt : c.loop-part.part-index < length c.children-children.result.now = omega arith in
    (omega (arith, part_smaller c.args.info.now _ c.children-children.ensures _ _ lt c.part-item.is), tt)

pub loop-part-preserved : goal.loop-part-preserved
loop-part-preserved t c = λ a k.
    let children = c.children-children.result.now in
    let n = c.loop-part.part-index in
    let x = c.part-item.result in
    let lt : n < length children = omega arith in
    let f = is_variable_look_behind a.tree in
    let before = c.loop-part.marks.items in
    ap (λ l. l ++ each_marks f (drop (n + 1) children)) (c.in_ok-push_look_behinds.ensures a
    (part_known c.args.info.now children c.children-children.ensures n x lt c.part-item.is a k))
    ∙ append_assoc before (marks f x) (each_marks f (drop (n + 1) children))
    ∙ ap (λ l. before ++ l) (sym (each_rest f children n x lt c.part-item.is))
    ∙ c.loop-part.invariant a k

pub returns : goal.returns
returns t c = λ a k.
    let children = c.children-children.result.now in
    let n = c.loop-part.part-index in
    let before = c.loop-part.marks.items in
    let f = is_variable_look_behind a.tree in
    sym (append-nil before) ∙ ap (λ l. before ++ each_marks f l) (sym (drop_all n children (omega arith))) ∙ c.loop-part.invariant a k
