use Rattle.std.proofs.Common.{◌<◌, ◌-◌, length, map, sym, ap, ◌∙◌, subst, arith}
use Rattle.fancy_meaning.specs.Tree.{none, trees}
use Rattle.fancy_expr.specs.Each.{Each}
use Rattle.fancy_code.specs.Nesting.{NestsDeeper, alone}
use Rattle.fancy_info.specs.Infos.{info_tree}
use Rattle.fancy_info.proofs.Children.{each_at}
use Rattle.fancy_nfa.specs.Neighbours.{IsEasy}
use Rattle.fancy_compile.proofs.NestLaws.{children_easy, children_written, deeper_by_one, no_deeper_by_all, none_at, none_below, none_left, none_written, one_at}
use Rattle.fancy_compile.proofs.nesting.+nest.Goals as goal

pub nests_deeper-returns-then-most-eq0-clause-deeper : goal.nests_deeper-returns-then-most-eq0-clause-deeper
nests_deeper-returns-then-most-eq0-clause-deeper t c = λ yes whole calls.
    subst (λ n. NestsDeeper whole calls n (info_tree c.args.info.now)) (sym c.if-most-eq0.true) alone

pub nests_deeper-returns-then-not-is_entered-clause-within : goal.nests_deeper-returns-then-not-is_entered-clause-within
nests_deeper-returns-then-not-is_entered-clause-within t c = λ no.
    let i = c.args.info.now in
    let easy = c.requires.1 in
    let is = sym c.is_entered.ensures ∙ c.if-not-is_entered.true in
    no_deeper_by_all c.requires.0 (info_tree i) easy.easy none c.args.most c.if-most-eq0.false
    (none_written c.requires.0 i easy c.expr.result.now (sym c.expr.ensures) is) (λ e m. none_below e (c.args.most - 1) m)

pub nests_deeper-one_nests_deeper-requires : goal.nests_deeper-one_nests_deeper-requires
nests_deeper-one_nests_deeper-requires t c =
    let a = c.requires.0 in
    let is = sym c.is_entered.ensures ∙ c.if-not-is_entered.false in (
      omega (arith, c.if-most-eq0.false),
      (a, subst (Each (IsEasy a)) (sym c.children.ensures) (children_easy a c.args.info.now c.requires.1 c.expr.result.now (sym c.expr.ensures) is)),
    )

pub nests_deeper-returns-clause-deeper : goal.nests_deeper-returns-clause-deeper
nests_deeper-returns-clause-deeper t c = λ yes.
    let i = c.args.info.now in
    let is = sym c.is_entered.ensures ∙ c.if-not-is_entered.false in
    deeper_by_one (info_tree i) c.children.result.now c.args.most c.if-most-eq0.false
    (children_written c.requires.0 i c.requires.1 c.expr.result.now (sym c.expr.ensures) is ∙ ap (λ l. trees (map info_tree l)) (sym c.children.ensures))
    (c.one_nests_deeper.ensures.deeper yes)

pub nests_deeper-returns-clause-within : goal.nests_deeper-returns-clause-within
nests_deeper-returns-clause-within t c = λ no.
    let i = c.args.info.now in
    let easy = c.requires.1 in
    let is = sym c.is_entered.ensures ∙ c.if-not-is_entered.false in
    no_deeper_by_all c.requires.0 (info_tree i) easy.easy (trees (map info_tree c.children.result.now)) c.args.most c.if-most-eq0.false
    (children_written c.requires.0 i easy c.expr.result.now (sym c.expr.ensures) is ∙ ap (λ l. trees (map info_tree l)) (sym c.children.ensures))
    (c.one_nests_deeper.ensures.within no)

pub one_nests_deeper-nests_deeper-requires : goal.one_nests_deeper-nests_deeper-requires
one_nests_deeper-nests_deeper-requires t c =
    let a = c.requires.0 in
    let lt : c.loop-info.info-index < length c.args.infos.now = omega arith in (
      omega arith,
      (a, each_at (IsEasy a) c.args.infos.now c.loop-info.info-index c.info-item.result c.requires.1 lt c.info-item.is),
    )

pub one_nests_deeper-returns-then-nests_deeper-clause-deeper : goal.one_nests_deeper-returns-then-nests_deeper-clause-deeper
one_nests_deeper-returns-then-nests_deeper-clause-deeper t c = λ yes.
    let lt : c.loop-info.info-index < length c.args.infos.now = omega arith in
    one_at c.args.infos.now c.loop-info.info-index c.info-item.result c.args.most lt c.info-item.is (c.nests_deeper.ensures.deeper c.if-nests_deeper.true)

pub one_nests_deeper-loop-info-preserved : goal.one_nests_deeper-loop-info-preserved
one_nests_deeper-loop-info-preserved t c = λ rest.
    let lt : c.loop-info.info-index < length c.args.infos.now = omega arith in
    c.loop-info.invariant
    (none_at c.args.infos.now c.loop-info.info-index c.info-item.result c.args.most lt c.info-item.is
    (c.nests_deeper.ensures.within c.if-nests_deeper.false) rest)

pub one_nests_deeper-returns-clause-within : goal.one_nests_deeper-returns-clause-within
one_nests_deeper-returns-clause-within t c = λ no.
    c.loop-info.invariant (none_left c.args.infos.now c.loop-info.info-index c.args.most (omega arith))
