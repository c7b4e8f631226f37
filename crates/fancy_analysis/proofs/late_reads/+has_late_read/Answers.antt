use Rattle.std.proofs.Common.{◌≡◌, ◌<◌, ◌||◌, length, get_or, arith, ap, ◌∙◌, sym}
use Rattle.std.specs.List.{list_any}
use Rattle.std.proofs.lemmas.List.{take_all}
use Rattle.fancy_meaning.specs.Nodes.{nodes}
use Rattle.fancy_info.specs.Infos.{info_tree, info_children}
use Rattle.fancy_analysis.specs.LateReads.{is_read_late}
use Rattle.std.proofs.lemmas.Bool.{or_right}
use Rattle.fancy_meaning.specs.Sizes.{known_of}
use Rattle.fancy_analysis.proofs.InfoNodes.{child_sized, sized_parts, any_in_each, any-below, any-taken, any-at}
use Rattle.fancy_analysis.proofs.late_reads.+has_late_read.Goals as goal

pub loop-child-preserved : goal.loop-child-preserved
loop-child-preserved t c = λ whole sized.
    let info = c.args.info.now in
    let child = c.child-item.result in
    let n = c.loop-child.child-index in
    let lt : n < length (info_children info) = omega (arith, ap length c.deref-child-items.ensures.value) in
    let at : child ≡ get_or (info_children info) n child = c.child-item.is ∙ ap (λ l. get_or l n child) c.deref-child-items.ensures.value in
    any-taken (is_read_late whole) (info_children info) n child lt at
    ∙ ap (λ b. b || list_any (is_read_late whole) (nodes (info_tree child))) (c.loop-child.invariant whole sized)
    ∙ sym (c.has_late_read.ensures whole (child_sized (known_of whole) info n child lt at sized))
    ∙ c.if-has_late_read.false

pub returns-then-has_late_read : goal.returns-then-has_late_read
returns-then-has_late_read t c = λ whole sized.
    let info = c.args.info.now in
    let child = c.child-item.result in
    let n = c.loop-child.child-index in
    let lt : n < length (info_children info) = omega (arith, ap length c.deref-child-items.ensures.value) in
    let at : child ≡ get_or (info_children info) n child = c.child-item.is ∙ ap (λ l. get_or l n child) c.deref-child-items.ensures.value in
    let here = sym (c.has_late_read.ensures whole (child_sized (known_of whole) info n child lt at sized)) ∙ c.if-has_late_read.true in
    sym (any-below (is_read_late whole) info (sized_parts (known_of whole) info sized)
    ∙ or_right (is_read_late whole (info_tree info)) (any_in_each (is_read_late whole) (info_children info)) (any-at (is_read_late whole) (info_children info) n child lt at here))

pub returns : goal.returns
returns t c = λ whole sized.
    let info = c.args.info.now in
    let none = ap (any_in_each (is_read_late whole))
    (sym (take_all c.loop-child.child-index (info_children info) (omega (arith, ap length c.deref-child-items.ensures.value))))
    ∙ c.loop-child.invariant whole sized in
    sym (any-below (is_read_late whole) info (sized_parts (known_of whole) info sized)
    ∙ ap (λ b. b || any_in_each (is_read_late whole) (info_children info)) (sym (c.is_read_late.ensures whole sized) ∙ c.if-is_read_late.false)
    ∙ none)
