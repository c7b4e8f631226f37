use Rattle.std.proofs.Common.{◌+◌, ◌||◌, drop, ◌<◌, length, sym, ap, ◌∙◌, arith}
use Rattle.fancy_info.specs.Infos.{info_children}
use Rattle.fancy_compile.specs.NodeKinds.{is_of_kind, is_of_kind_expr}
use Rattle.fancy_compile.proofs.Known.{part_known, part_smaller}
use Rattle.fancy_compile.proofs.AnyBelow.{any_below, any_more, any_of_info, found_below, none_found}
use Rattle.fancy_compile.proofs.NodeKindsLaws.{over_kind}
use Rattle.fancy_compile.proofs.below.+has_kind.Goals as goal

pub returns-then-is_of_kind : goal.returns-then-is_of_kind
returns-then-is_of_kind t c =
    sym (any_of_info (is_of_kind c.args.kind) (is_of_kind_expr c.args.kind) (λ es n w. over_kind es n w c.args.kind)
    c.requires.0 c.args.info.now c.requires.1
    ∙ ap (λ b. b || any_below (is_of_kind c.args.kind) (info_children c.args.info.now))
    (ap (is_of_kind_expr c.args.kind) (sym c.expr.ensures) ∙ sym c.is_of_kind.ensures ∙ c.if-is_of_kind.true))

pub loop-child-preserved : goal.loop-child-preserved
loop-child-preserved t c =
    let lt : c.loop-child.child-index < length c.children-children.result.now = omega arith in
    c.loop-child.invariant
    ∙ any_more (is_of_kind c.args.kind) c.children-children.result.now c.loop-child.child-index c.child-item.result lt c.child-item.is
    ∙ ap (λ b. b || any_below (is_of_kind c.args.kind) (drop (c.loop-child.child-index + 1) c.children-children.result.now))
    (sym c.has_kind.ensures ∙ c.if-has_kind.false)

pub has_kind-requires : goal.has_kind-requires
has_kind-requires t c =
    let lt : c.loop-child.child-index < length c.children-children.result.now = omega arith in (
      omega (arith, part_smaller c.args.info.now _ c.children-children.ensures _ _ lt c.child-item.is),
      (c.requires.0, part_known c.args.info.now _ c.children-children.ensures _ _ lt c.child-item.is c.requires.0 c.requires.1),
    )

pub returns-then-has_kind : goal.returns-then-has_kind
returns-then-has_kind t c =
    let lt : c.loop-child.child-index < length c.children-children.result.now = omega arith in
    found_below (is_of_kind c.args.kind) (is_of_kind_expr c.args.kind) (λ es n w. over_kind es n w c.args.kind) c.requires.0 c.args.info.now c.requires.1
    c.children-children.result.now c.children-children.ensures c.loop-child.child-index
    c.loop-child.invariant c.child-item.result lt c.child-item.is (sym c.has_kind.ensures ∙ c.if-has_kind.true)

pub returns : goal.returns
returns t c =
    none_found (is_of_kind c.args.kind) (is_of_kind_expr c.args.kind) (λ es n w. over_kind es n w c.args.kind) c.requires.0 c.args.info.now c.requires.1
    c.children-children.result.now c.children-children.ensures c.loop-child.child-index
    c.loop-child.invariant
    (ap (is_of_kind_expr c.args.kind) (sym c.expr.ensures) ∙ sym c.is_of_kind.ensures ∙ c.if-is_of_kind.false) (omega arith)
