use Rattle.std.proofs.Common.{[], None, refl, sym, ap, option_map, ◌∙◌, subst, arith, IfOk}
use Rattle.std.proofs.lemmas.Result.{err_from_is_err_and}
use Rattle.fancy_meaning.specs.Tree as tree
use Rattle.fancy_meaning.specs.Tree.{Literal}
use Rattle.fancy_expr.specs.Views.{tree_of, look_of}
use Rattle.fancy_pattern.specs.Grammar.{bar, closing, opening, class_open, enclosed, node, node_of, SpellsBranch, SpellsBodies, SpellsOpened, asked, no_bar, branch, no_piece, branches}
use Rattle.fancy_pattern.specs.Naming.{pairs_in}
use Rattle.fancy_tokens.specs.PatternViews.{opening_of, reference_of}
use Rattle.fancy_pattern.specs.Reading.{point_of, Pushes, SpellsLast, none_read}
use Rattle.fancy_tokens.specs.Tokens.{AbsentBar, Around, Group, If, IfPattern, IfLook}
use Rattle.fancy_pattern.proofs.OneChars.{reference_chars}
use Rattle.fancy_pattern.proofs.Points as points
use Rattle.fancy_pattern.proofs.WhereStuck as stuck
use Rattle.fancy_pattern.proofs.reader.Reader.+reading.Goals as goal

-- ---- absent expressions

pub read_absent-returns-then-is_at_bar-clause-pushes : goal.read_absent-returns-then-is_at_bar-clause-pushes
read_absent-returns-then-is_at_bar-clause-pushes t c =
    let first = c.in_ok-absent.ensures.boxes in
    let exp = c.in_ok-exp.ensures.boxes in
    points.pushed (SpellsOpened (pairs_in c.args.names.now.pairs) AbsentBar) c.args.self.now c.read_boxed.new.self c.args.nodes.now.items
    c.push_expression.new.nodes.items
    (tree.AbsentExpression (tree_of c.in_ok-absent.absent.value) (tree_of c.in_ok-exp.exp.value))
    (points.expression_spelled (pairs_in c.args.names.now.pairs) (point_of c.args.self.now) (point_of c.read_boxed_branch.new.self) (point_of c.skip.new.self)
    (point_of c.read_boxed.new.self) (tree_of c.in_ok-absent.absent.value) (tree_of c.in_ok-exp.exp.value) _ first.spelled
    (points.takes_at bar c.read_boxed_branch.new.self c.skip.new.self (sym c.is_at_bar.ensures.value ∙ c.if-is_at_bar.true) c.skip.ensures.skips)
    exp.spelled refl)
    (points.on_same _ c.args.nodes.now.items c.read_boxed.new.nodes.items c.push_expression.new.nodes.items (exp.rest ∙ first.rest)
    (c.in_ok-push_expression.ensures first.one_char exp.one_char))

pub read_absent-returns-clause-pushes : goal.read_absent-returns-clause-pushes
read_absent-returns-clause-pushes t c =
    let first = c.in_ok-absent.ensures.boxes in
    points.pushed (SpellsOpened (pairs_in c.args.names.now.pairs) AbsentBar) c.args.self.now c.read_close.new.self c.args.nodes.now.items
    c.push_stopper.new.nodes.items
    (tree.AbsentStopper (tree_of c.in_ok-absent.absent.value))
    (points.stopper_spelled (pairs_in c.args.names.now.pairs) (point_of c.args.self.now) (point_of c.read_boxed_branch.new.self)
    (point_of c.read_close.new.self)
    (tree_of c.in_ok-absent.absent.value) _ first.spelled c.in_ok-read_close.ensures.takes refl)
    (points.on_same _ c.args.nodes.now.items c.read_boxed_branch.new.nodes.items c.push_stopper.new.nodes.items first.rest
    (c.in_ok-push_stopper.ensures first.one_char))

-- ---- alternatives

pub read_alternatives-returns-then-is_at_bar-clause-pushes : goal.read_alternatives-returns-then-is_at_bar-clause-pushes
read_alternatives-returns-then-is_at_bar-clause-pushes t c =
    let first = c.in_ok-read_branch.ensures.pushes in
    points.alternatives_pushed (pairs_in c.args.names.now.pairs) c.args.self.now c.read_branch.new.self c.read_bars.new.self c.args.nodes.now.items
    c.read_bars.new.nodes.items c.read_bars.result first.read
    first.spelled (c.read_bars.ensures.pushes c.args.nodes.now.items first.read first.adds)

pub read_alternatives-returns-else-is_at_bar-clause-pushes : goal.read_alternatives-returns-else-is_at_bar-clause-pushes
read_alternatives-returns-else-is_at_bar-clause-pushes t c =
    let first = c.in_ok-read_branch.ensures.pushes in
    record { read = first.read; adds = first.adds; spelled = branches first.spelled (no_bar (sym c.is_at_bar.ensures.value ∙ c.if-is_at_bar.false)) }

pub read_bars-loop-self-init : goal.read_bars-loop-self-init
read_bars-loop-self-init t c =
    record {
      given = c.in_ok-branches.branches.items;
      bars = points.bars_begin (pairs_in c.args.names.now.pairs) c.args.self.now c.in_ok-branches.branches.items;
      first = λ below e h. c.in_ok-branches.ensures below e h;
    }

pub read_bars-loop-self-preserved : goal.read_bars-loop-self-preserved
read_bars-loop-self-preserved t c =
    let next = c.in_ok-read_branch.ensures.pushes in
    record {
      given = c.loop-self.invariant.given;
      bars =
          points.bars_next (pairs_in c.args.names.now.pairs) c.args.self.now c.loop-self.self c.skip.new.self c.read_branch.new.self
          c.loop-self.invariant.given
          c.loop-self.branches.items c.read_branch.new.nodes.items next.adds.node c.loop-self.invariant.bars
          (points.takes_at bar c.loop-self.self c.skip.new.self (sym c.is_at_bar.ensures.value ∙ c.loop-self-test.true) c.skip.ensures.skips)
          (subst (SpellsBranch (pairs_in c.args.names.now.pairs) (point_of c.skip.new.self) (point_of c.read_branch.new.self)) (sym next.adds.made)
          next.spelled) next.adds.added
          (let a = c.skip.ensures.shorter in let b = c.in_ok-read_branch.ensures.shorter in omega (arith, a, b)) next.adds.one_char;
      first = c.loop-self.invariant.first;
    }

pub read_bars-returns-clause-pushes : goal.read_bars-returns-clause-pushes
read_bars-returns-clause-pushes t c =
    λ below e h.
    points.bars_pushed (pairs_in c.args.names.now.pairs) c.args.self.now c.loop-self.self c.args.nodes.now.items c.pop_first.new.nodes.items
    c.loop-self.branches.items
    c.push_alternated.new.nodes.items c.loop-self.invariant
    (sym c.is_at_bar.ensures.value ∙ c.loop-self-test.false) c.in_ok-push_alternated.ensures below e h

-- ---- pieces

pub read_branch-returns-then-is_branch_end-clause-pushes : goal.read_branch-returns-then-is_branch_end-clause-pushes
read_branch-returns-then-is_branch_end-clause-pushes t c =
    points.pushed (SpellsBranch (pairs_in c.args.names.now.pairs)) c.args.self.now c.args.self.now c.args.nodes.now.items c.push_empty.new.nodes.items
    tree.Empty
    (branch (no_piece (sym c.is_branch_end.ensures ∙ c.if-is_branch_end.true))) c.in_ok-push_empty.ensures

pub read_branch-returns-then-is_branch_end-2-clause-pushes : goal.read_branch-returns-then-is_branch_end-2-clause-pushes
read_branch-returns-then-is_branch_end-2-clause-pushes t c =
    let first = c.in_ok-read_piece.ensures.pushes in
    record {
      read = first.read;
      adds = first.adds;
      spelled =
          points.piece_alone (pairs_in c.args.names.now.pairs) (point_of c.args.self.now) (point_of c.read_piece.new.self) first.read
          (sym c.is_branch_end.ensures ∙ c.if-is_branch_end.false) first.spelled
          (sym c.is_branch_end-2.ensures ∙ c.if-is_branch_end-2.true);
    }

pub read_branch-returns-clause-pushes : goal.read_branch-returns-clause-pushes
read_branch-returns-clause-pushes t c =
    points.pieces_pushed (pairs_in c.args.names.now.pairs) c.args.self.now c.loop-self.self c.args.nodes.now.items c.pop_first.new.nodes.items
    c.loop-self.pieces.items
    c.push_joined.new.nodes.items c.loop-self.invariant
    (sym c.is_branch_end-in-loop-self.ensures ∙ c.loop-self-test.false) c.in_ok-push_joined.ensures

pub read_branch-loop-self-init : goal.read_branch-loop-self-init
read_branch-loop-self-init t c =
    let names = (pairs_in c.args.names.now.pairs) in
    let first = c.in_ok-read_piece.ensures.pushes in
    let taken = c.in_ok-pieces.ensures c.args.nodes.now.items first.read first.adds in
    let some = c.drop_empty.ensures [] first.read taken.0 in
    record {
      pieces =
          points.pieces_next names c.args.self.now c.args.self.now c.read_piece.new.self [] c.drop_empty.new.nodes.items
          first.read (points.pieces_begin names c.args.self.now [] refl) (sym c.is_branch_end.ensures ∙ c.if-is_branch_end.false)
          first.spelled some.added (let a = c.in_ok-read_piece.ensures.shorter in omega (arith, a)) (some.one_char tt);
      rest = taken.1;
    }

pub read_branch-loop-self-preserved : goal.read_branch-loop-self-preserved
read_branch-loop-self-preserved t c =
    let next = c.in_ok-read_piece-in-None.ensures.pushes in
    let before = c.loop-self.invariant.pieces in
    let some = c.drop_empty-in-None.ensures c.loop-self.pieces.items next.read next.adds in
    record {
      pieces =
          points.pieces_next (pairs_in c.args.names.now.pairs) c.args.self.now c.loop-self.self c.read_piece-in-None.new.self c.loop-self.pieces.items
          c.drop_empty-in-None.new.nodes.items next.read before
          (sym c.is_branch_end-in-loop-self.ensures ∙ c.loop-self-test.true) next.spelled some.added
          (let a = c.in_ok-read_piece-in-None.ensures.shorter in omega (arith, a)) (some.one_char before.one_char);
      rest = c.loop-self.invariant.rest;
    }

pub read_branch-loop-self-preserved-in_ok-read_literals-in-Some : goal.read_branch-loop-self-preserved-in_ok-read_literals-in-Some
read_branch-loop-self-preserved-in_ok-read_literals-in-Some t c =
    let names = pairs_in c.args.names.now.pairs in
    let before = c.loop-self.invariant in
    record {
      pieces =
          points.pieces_row names c.args.self.now c.loop-self.self c.read_literals.new.self c.loop-self.pieces.items c.read_literals.new.nodes.items
          before.pieces (c.in_ok-read_literals-in-Some.ensures.pushes names) (let a = c.in_ok-read_literals-in-Some.ensures.shorter in omega (arith, a));
      rest = before.rest;
    }

pub read_boxed_branch-returns-clause-boxes : goal.read_boxed_branch-returns-clause-boxes
read_boxed_branch-returns-clause-boxes t c =
    let read = c.in_ok-read_branch.ensures.pushes in
    points.boxed (SpellsBranch (pairs_in c.args.names.now.pairs)) c.args.self.now c.read_branch.new.self c.args.nodes.now.items c.pop_boxed.new.nodes.items
    c.in_ok-pop_boxed.field-0.value read.read read.spelled
    (c.in_ok-pop_boxed.ensures c.args.nodes.now.items read.read read.adds)

pub read_piece-returns-clause-pushes : goal.read_piece-returns-clause-pushes
read_piece-returns-clause-pushes t c =
    let atom = c.in_ok-read_atom.ensures.pushes in
    points.piece_read (pairs_in c.args.names.now.pairs) atom.read c.args.self.now c.read_atom.new.self c.read_quantifier.new.self c.args.nodes.now.items
    c.read_quantifier.new.nodes.items
    c.read_quantifier.result atom.spelled (c.read_quantifier.ensures.pushes c.args.nodes.now.items atom.read atom.adds)

-- ---- atoms

pub read_atom-returns-in-Some-clause-pushes : goal.read_atom-returns-in-Some-clause-pushes
read_atom-returns-in-Some-clause-pushes t c =
    let names = pairs_in c.args.names.now.pairs in
    record {
      read = Literal c.in-Some.val c.in-Some.casei;
      adds = c.in_ok-push_literal.ensures;
      spelled =
          node (points.takes_next (node_of names) (Literal c.in-Some.val c.in-Some.casei) c.args.self.now c.skip.new.self (c.in-Some.ensures.value names)
          c.skip.ensures.skips);
    }

pub read_atom-returns-in-Some-next_enclosing-clause-pushes : goal.read_atom-returns-in-Some-next_enclosing-clause-pushes
read_atom-returns-in-Some-next_enclosing-clause-pushes t c =
    points.atom_opened (pairs_in c.args.names.now.pairs) c.args.self.now c.skip-in-Some-next_enclosing.new.self c.read_enclosed.new.self
    (Around c.in-Some-next_enclosing.enclosing) c.args.nodes.now.items c.read_enclosed.new.nodes.items
    c.read_enclosed.result c.in-Some-next_enclosing.ensures.value c.skip-in-Some-next_enclosing.ensures.skips c.read_enclosed.ensures.pushes

pub read_atom-returns-in-Some-next_group-clause-pushes : goal.read_atom-returns-in-Some-next_group-clause-pushes
read_atom-returns-in-Some-next_group-clause-pushes t c =
    points.atom_opened (pairs_in c.args.names.now.pairs) c.args.self.now c.skip-in-Some-next_group.new.self c.read_group.new.self
    (Group c.in-Some-next_group.field-0 None) c.args.nodes.now.items c.read_group.new.nodes.items
    c.read_group.result c.in-Some-next_group.ensures.value c.skip-in-Some-next_group.ensures.skips (c.read_group.ensures.pushes _ None)

pub read_other-returns-in-Some-clause-pushes : goal.read_other-returns-in-Some-clause-pushes
read_other-returns-in-Some-clause-pushes t c =
    points.atom_opened (pairs_in c.args.names.now.pairs) c.args.self.now c.skip.new.self c.read_opened.new.self (opening_of c.in-Some.opening)
    c.args.nodes.now.items c.read_opened.new.nodes.items
    c.read_opened.result (sym c.in-Some.ensures.value) c.skip.ensures.skips c.read_opened.ensures.pushes

pub read_other-returns-in-Some-next_class-clause-pushes : goal.read_other-returns-in-Some-next_class-clause-pushes
read_other-returns-in-Some-next_class-clause-pushes t c =
    points.atom_class (pairs_in c.args.names.now.pairs) c.args.self.now c.skip-in-Some-next_class.new.self c.read_class.new.self
    c.in-Some-next_class.casei c.args.nodes.now.items c.read_class.new.nodes.items c.read_class.result (sym c.in-Some-next_class.ensures.value)
    c.skip-in-Some-next_class.ensures.skips c.read_class.ensures.pushes

pub read_other-returns-clause-pushes : goal.read_other-returns-clause-pushes
read_other-returns-clause-pushes t c =
    points.atom_node (pairs_in c.args.names.now.pairs) c.args.self.now c.read_node.new.self c.args.nodes.now.items c.read_node.new.nodes.items
    c.read_node.result c.read_node.ensures.pushes

-- ---- conditionals

pub read_bodies-returns-then-is_at_bar-clause-pushes : goal.read_bodies-returns-then-is_at_bar-clause-pushes
read_bodies-returns-then-is_at_bar-clause-pushes t c =
    λ chars.
    let true_branch = c.in_ok-true_branch.ensures.boxes in
    let false_branch = c.in_ok-false_branch.ensures.boxes in
    points.pushed (SpellsBodies (pairs_in c.args.names.now.pairs) (tree_of c.args.condition.value)) c.args.self.now c.read_boxed.new.self
    c.args.nodes.now.items c.push_conditional.new.nodes.items
    (tree.Conditional (tree_of c.args.condition.value) (tree_of c.in_ok-true_branch.true_branch.value) (tree_of c.in_ok-false_branch.false_branch.value))
    (points.two_bodies_spelled (pairs_in c.args.names.now.pairs) (tree_of c.args.condition.value) (point_of c.args.self.now)
    (point_of c.read_boxed_branch.new.self)
    (point_of c.skip.new.self) (point_of c.read_boxed.new.self) (tree_of c.in_ok-true_branch.true_branch.value)
    (tree_of c.in_ok-false_branch.false_branch.value) _ true_branch.spelled
    (points.takes_at bar c.read_boxed_branch.new.self c.skip.new.self (sym c.is_at_bar.ensures.value ∙ c.if-is_at_bar.true) c.skip.ensures.skips)
    false_branch.spelled refl)
    (points.on_same _ c.args.nodes.now.items c.read_boxed.new.nodes.items c.push_conditional.new.nodes.items
    (false_branch.rest ∙ true_branch.rest)
    (c.in_ok-push_conditional.ensures chars true_branch.one_char false_branch.one_char))

pub read_bodies-returns-clause-pushes : goal.read_bodies-returns-clause-pushes
read_bodies-returns-clause-pushes t c =
    λ chars.
    let true_branch = c.in_ok-true_branch.ensures.boxes in
    let nothing = c.in_ok-false_branch-2.ensures in
    points.pushed (SpellsBodies (pairs_in c.args.names.now.pairs) (tree_of c.args.condition.value)) c.args.self.now c.read_close.new.self
    c.args.nodes.now.items c.push_conditional-2.new.nodes.items
    (tree.Conditional (tree_of c.args.condition.value) (tree_of c.in_ok-true_branch.true_branch.value) (tree_of c.in_ok-false_branch-2.false_branch.value))
    (points.one_body_spelled (pairs_in c.args.names.now.pairs) (tree_of c.args.condition.value) (point_of c.args.self.now)
    (point_of c.read_boxed_branch.new.self)
    (point_of c.read_close.new.self) (tree_of c.in_ok-true_branch.true_branch.value) _ true_branch.spelled c.in_ok-read_close.ensures.takes
    (ap (λ e. tree.Conditional (tree_of c.args.condition.value) (tree_of c.in_ok-true_branch.true_branch.value) e) nothing.made))
    (points.on_same _ c.args.nodes.now.items c.read_boxed_branch.new.nodes.items c.push_conditional-2.new.nodes.items true_branch.rest
    (c.in_ok-push_conditional-2.ensures chars true_branch.one_char nothing.one_char))

pub read_if-returns-then-is_at_close-clause-pushes : goal.read_if-returns-then-is_at_close-clause-pushes
read_if-returns-then-is_at_close-clause-pushes t c =
    points.pushed (SpellsOpened (pairs_in c.args.names.now.pairs) (If (reference_of c.args.found))) c.args.self.now c.skip.new.self c.args.nodes.now.items
    c.push_boxed.new.nodes.items (tree_of c.in_ok-condition.condition.value)
    (asked (sym c.in_ok-condition.ensures.made)
    (points.takes_at closing c.args.self.now c.skip.new.self (sym c.is_at_close.ensures.value ∙ c.if-is_at_close.true) c.skip.ensures.skips))
    (c.in_ok-push_boxed.ensures (reference_chars (pairs_in c.args.names.now.pairs) (reference_of c.args.found) c.in_ok-condition.condition.value
    c.in_ok-condition.ensures.made))

pub read_if-returns-clause-pushes : goal.read_if-returns-clause-pushes
read_if-returns-clause-pushes t c =
    points.if_group_read (pairs_in c.args.names.now.pairs) (reference_of c.args.found) (tree_of c.in_ok-condition.condition.value) c.args.self.now
    c.read_bodies.new.self c.args.nodes.now.items c.read_bodies.new.nodes.items c.read_bodies.result c.in_ok-condition.ensures.made
    (sym c.if-is_at_close.false ∙ c.is_at_close.ensures.value)
    (c.read_bodies.ensures.pushes (reference_chars (pairs_in c.args.names.now.pairs) (reference_of c.args.found) c.in_ok-condition.condition.value
    c.in_ok-condition.ensures.made))

-- ---- groups

pub read_opened-returns-in-Group-clause-pushes : goal.read_opened-returns-in-Group-clause-pushes
read_opened-returns-in-Group-clause-pushes t c =
    subst (λ o. IfOk c.read_group.result (λ u. Pushes (SpellsOpened (pairs_in c.args.names.now.pairs) (opening_of o)) c.args.self.now c.read_group.new.self
    c.args.nodes.now.items c.read_group.new.nodes.items))
    (sym c.in-Group.is)
    (c.read_group.ensures.pushes c.in-Group.number (option_map (λ n. n.now) c.in-Group.name))

pub read_opened-returns-in-Enclosing-clause-pushes : goal.read_opened-returns-in-Enclosing-clause-pushes
read_opened-returns-in-Enclosing-clause-pushes t c =
    subst (λ o. IfOk c.read_enclosed.result (λ u. Pushes (SpellsOpened (pairs_in c.args.names.now.pairs) (opening_of o)) c.args.self.now
    c.read_enclosed.new.self c.args.nodes.now.items c.read_enclosed.new.nodes.items))
    (sym c.in-Enclosing.is)
    (c.read_enclosed.ensures.pushes)

pub read_opened-returns-in-AbsentBar-clause-pushes : goal.read_opened-returns-in-AbsentBar-clause-pushes
read_opened-returns-in-AbsentBar-clause-pushes t c =
    subst (λ o. IfOk c.read_absent.result (λ u. Pushes (SpellsOpened (pairs_in c.args.names.now.pairs) (opening_of o)) c.args.self.now
    c.read_absent.new.self c.args.nodes.now.items c.read_absent.new.nodes.items))
    (sym c.in-AbsentBar.is)
    (c.read_absent.ensures.pushes)

pub read_opened-returns-in-If-clause-pushes : goal.read_opened-returns-in-If-clause-pushes
read_opened-returns-in-If-clause-pushes t c =
    subst (λ o. IfOk c.read_if.result (λ u. Pushes (SpellsOpened (pairs_in c.args.names.now.pairs) (opening_of o)) c.args.self.now c.read_if.new.self
    c.args.nodes.now.items c.read_if.new.nodes.items))
    (sym c.in-If.is)
    (c.read_if.ensures.pushes)

pub read_opened-returns-in_ok-condition-in-IfPattern-clause-pushes : goal.read_opened-returns-in_ok-condition-in-IfPattern-clause-pushes
read_opened-returns-in_ok-condition-in-IfPattern-clause-pushes t c =
    let condition = c.in_ok-condition-in-IfPattern.ensures.boxes in
    subst (λ o. IfOk c.read_bodies.result (λ u. Pushes (SpellsOpened (pairs_in c.args.names.now.pairs) (opening_of o)) c.args.self.now
    c.read_bodies.new.self c.args.nodes.now.items
    c.read_bodies.new.nodes.items))
    (sym c.in-IfPattern.is)
    (subst (λ l. IfOk c.read_bodies.result (λ u. Pushes (SpellsOpened (pairs_in c.args.names.now.pairs) IfPattern) c.args.self.now c.read_bodies.new.self l
    c.read_bodies.new.nodes.items)) condition.rest
    (points.if_pattern_read (pairs_in c.args.names.now.pairs) (tree_of c.in_ok-condition-in-IfPattern.condition.value) c.args.self.now
    c.read_boxed.new.self c.read_bodies.new.self c.read_boxed.new.nodes.items c.read_bodies.new.nodes.items
    c.read_bodies.result condition.spelled (c.read_bodies.ensures.pushes condition.one_char)))

pub read_opened-returns-in_ok-condition-in-IfLook-clause-pushes : goal.read_opened-returns-in_ok-condition-in-IfLook-clause-pushes
read_opened-returns-in_ok-condition-in-IfLook-clause-pushes t c =
    let body = c.in_ok-body-in-IfLook.ensures.boxes in
    subst (λ o. IfOk c.read_bodies-in-IfLook.result
    (λ u. Pushes (SpellsOpened (pairs_in c.args.names.now.pairs) (opening_of o)) c.args.self.now c.read_bodies-in-IfLook.new.self c.args.nodes.now.items
    c.read_bodies-in-IfLook.new.nodes.items))
    (sym c.in-IfLook.is)
    (subst (λ l. IfOk c.read_bodies-in-IfLook.result
    (λ u. Pushes (SpellsOpened (pairs_in c.args.names.now.pairs) (IfLook (look_of c.in-IfLook.look))) c.args.self.now
    c.read_bodies-in-IfLook.new.self l c.read_bodies-in-IfLook.new.nodes.items)) body.rest
    (points.if_look_read (pairs_in c.args.names.now.pairs) (look_of c.in-IfLook.look) (tree_of c.in_ok-body-in-IfLook.body.value)
    (tree_of c.in_ok-condition-in-IfLook.condition.value) c.args.self.now c.read_boxed-in-IfLook.new.self c.read_bodies-in-IfLook.new.self
    c.read_boxed-in-IfLook.new.nodes.items c.read_bodies-in-IfLook.new.nodes.items
    c.read_bodies-in-IfLook.result body.spelled c.in_ok-condition-in-IfLook.ensures.made
    (c.read_bodies-in-IfLook.ensures.pushes (c.in_ok-condition-in-IfLook.ensures.one_char body.one_char))))

pub read_enclosed-returns-clause-pushes : goal.read_enclosed-returns-clause-pushes
read_enclosed-returns-clause-pushes t c =
    let body = c.in_ok-read_last.ensures.pushes in
    points.pushed (SpellsOpened (pairs_in c.args.names.now.pairs) (Around c.args.enclosing)) c.args.self.now c.read_last.new.self c.args.nodes.now.items
    c.enclose_last.new.nodes.items
    (enclosed c.args.enclosing body.read)
    (points.around_spelled (pairs_in c.args.names.now.pairs) c.args.enclosing (point_of c.args.self.now) (point_of c.read_last.new.self) body.read _
    body.spelled refl)
    (c.in_ok-enclose_last.ensures c.args.nodes.now.items body.read body.adds)

pub read_group-returns-clause-pushes : goal.read_group-returns-clause-pushes
read_group-returns-clause-pushes t c =
    λ number name.
    let body = c.in_ok-read_last.ensures.pushes in
    points.pushed (SpellsOpened (pairs_in c.args.names.now.pairs) (Group number name)) c.args.self.now c.read_last.new.self c.args.nodes.now.items
    c.group_last.new.nodes.items
    (tree.Group 0 body.read)
    (points.group_spelled (pairs_in c.args.names.now.pairs) number name (point_of c.args.self.now) (point_of c.read_last.new.self) body.read _ body.spelled
    refl)
    (c.in_ok-group_last.ensures c.args.nodes.now.items body.read body.adds)

pub read_last-returns-clause-pushes : goal.read_last-returns-clause-pushes
read_last-returns-clause-pushes t c =
    let read = c.in_ok-read_alternatives.ensures.pushes in
    points.last_read (pairs_in c.args.names.now.pairs) c.args.self.now c.read_alternatives.new.self c.read_close.new.self c.args.nodes.now.items
    c.read_alternatives.new.nodes.items c.read_close.result
    read c.read_close.ensures.takes

pub read_boxed-returns-clause-boxes : goal.read_boxed-returns-clause-boxes
read_boxed-returns-clause-boxes t c =
    let read = c.in_ok-read_last.ensures.pushes in
    points.boxed (SpellsLast (pairs_in c.args.names.now.pairs)) c.args.self.now c.read_last.new.self c.args.nodes.now.items c.pop_boxed.new.nodes.items
    c.in_ok-pop_boxed.field-0.value read.read read.spelled
    (c.in_ok-pop_boxed.ensures c.args.nodes.now.items read.read read.adds)

-- ---- where they fail

pub read_enclosed-returns-in_err-read_last-clause-fails : goal.read_enclosed-returns-in_err-read_last-clause-fails
read_enclosed-returns-in_err-read_last-clause-fails t c =
    let p = err_from_is_err_and c.from_residual.result c.from_residual.ensures.1 in
    rw (p.1, p.2) (stuck.around_of_last (pairs_in c.args.names.now.pairs) c.args.enclosing (point_of c.args.self.now) _ c.in_err-read_last.ensures.fails)

pub read_group-returns-in_err-read_last-clause-fails : goal.read_group-returns-in_err-read_last-clause-fails
read_group-returns-in_err-read_last-clause-fails t c =
    λ number name.
    let p = err_from_is_err_and c.from_residual.result c.from_residual.ensures.1 in
    rw (p.1, p.2) (stuck.group_of_last (pairs_in c.args.names.now.pairs) number name (point_of c.args.self.now) _ c.in_err-read_last.ensures.fails)

pub read_absent-returns-in_err-absent-clause-fails : goal.read_absent-returns-in_err-absent-clause-fails
read_absent-returns-in_err-absent-clause-fails t c =
    let p = err_from_is_err_and c.from_residual.result c.from_residual.ensures.1 in
    rw (p.1, p.2) (stuck.absent_of_branch (pairs_in c.args.names.now.pairs) (point_of c.args.self.now) _ c.in_err-absent.ensures.fails)

pub read_absent-returns-in_err-exp-clause-fails : goal.read_absent-returns-in_err-exp-clause-fails
read_absent-returns-in_err-exp-clause-fails t c =
    let p = err_from_is_err_and c.from_residual-in_err-exp.result c.from_residual-in_err-exp.ensures.1 in
    rw (p.1, p.2) (stuck.absent_of_last (pairs_in c.args.names.now.pairs) (point_of c.args.self.now) (point_of c.read_boxed_branch.new.self)
    (point_of c.skip.new.self) (tree_of c.in_ok-absent.absent.value) _
    c.in_ok-absent.ensures.boxes.spelled
    (points.takes_at bar c.read_boxed_branch.new.self c.skip.new.self (sym c.is_at_bar.ensures.value ∙ c.if-is_at_bar.true) c.skip.ensures.skips)
    c.in_err-exp.ensures.fails)

pub read_absent-returns-in_err-read_close-clause-fails : goal.read_absent-returns-in_err-read_close-clause-fails
read_absent-returns-in_err-read_close-clause-fails t c =
    let p = err_from_is_err_and c.from_residual-in_err-read_close.result c.from_residual-in_err-read_close.ensures.1 in
    rw (p.1, p.2) (stuck.absent_of_close (pairs_in c.args.names.now.pairs) (point_of c.args.self.now) (point_of c.read_boxed_branch.new.self)
    (tree_of c.in_ok-absent.absent.value) _ c.in_ok-absent.ensures.boxes.spelled
    (sym c.is_at_bar.ensures.value ∙ c.if-is_at_bar.false) c.in_err-read_close.ensures.fails.0 c.in_err-read_close.ensures.fails.1)

pub read_alternatives-returns-in_err-read_branch-clause-fails : goal.read_alternatives-returns-in_err-read_branch-clause-fails
read_alternatives-returns-in_err-read_branch-clause-fails t c =
    let p = err_from_is_err_and c.from_residual.result c.from_residual.ensures.1 in
    rw (p.1, p.2) (stuck.alternatives_of_branch (pairs_in c.args.names.now.pairs) (point_of c.args.self.now) _ c.in_err-read_branch.ensures.fails)

pub read_alternatives-returns-then-is_at_bar-clause-fails : goal.read_alternatives-returns-then-is_at_bar-clause-fails
read_alternatives-returns-then-is_at_bar-clause-fails t c =
    let first = c.in_ok-read_branch.ensures.pushes in
    stuck.bars_fails (pairs_in c.args.names.now.pairs) (point_of c.args.self.now) (point_of c.read_branch.new.self) first.read c.read_bars.result
    first.spelled c.read_bars.ensures.fails

pub read_atom-returns-in-Some-next_enclosing-clause-fails : goal.read_atom-returns-in-Some-next_enclosing-clause-fails
read_atom-returns-in-Some-next_enclosing-clause-fails t c =
    stuck.atom_opened_fails (pairs_in c.args.names.now.pairs) (point_of c.args.self.now) (point_of c.skip-in-Some-next_enclosing.new.self)
    (Around c.in-Some-next_enclosing.enclosing) c.read_enclosed.result
    (points.takes_next opening (Around c.in-Some-next_enclosing.enclosing) c.args.self.now c.skip-in-Some-next_enclosing.new.self
    c.in-Some-next_enclosing.ensures.value c.skip-in-Some-next_enclosing.ensures.skips)
    c.read_enclosed.ensures.fails

pub read_atom-returns-in-Some-next_group-clause-fails : goal.read_atom-returns-in-Some-next_group-clause-fails
read_atom-returns-in-Some-next_group-clause-fails t c =
    stuck.atom_opened_fails (pairs_in c.args.names.now.pairs) (point_of c.args.self.now) (point_of c.skip-in-Some-next_group.new.self)
    (Group c.in-Some-next_group.field-0 None) c.read_group.result
    (points.takes_next opening (Group c.in-Some-next_group.field-0 None) c.args.self.now c.skip-in-Some-next_group.new.self
    c.in-Some-next_group.ensures.value c.skip-in-Some-next_group.ensures.skips)
    (c.read_group.ensures.fails _ None)

pub read_other-returns-in-Some-clause-fails : goal.read_other-returns-in-Some-clause-fails
read_other-returns-in-Some-clause-fails t c =
    stuck.atom_opened_fails (pairs_in c.args.names.now.pairs) (point_of c.args.self.now) (point_of c.skip.new.self) (opening_of c.in-Some.opening)
    c.read_opened.result
    (points.takes_next opening (opening_of c.in-Some.opening) c.args.self.now c.skip.new.self (sym c.in-Some.ensures.value) c.skip.ensures.skips)
    c.read_opened.ensures.fails

pub read_other-returns-in-Some-next_class-clause-fails : goal.read_other-returns-in-Some-next_class-clause-fails
read_other-returns-in-Some-next_class-clause-fails t c =
    stuck.atom_class_fails (pairs_in c.args.names.now.pairs) (point_of c.args.self.now)
    (point_of c.skip-in-Some-next_class.new.self) c.in-Some-next_class.casei
    c.read_class.result
    (points.takes_next class_open c.in-Some-next_class.casei c.args.self.now c.skip-in-Some-next_class.new.self (sym c.in-Some-next_class.ensures.value)
    c.skip-in-Some-next_class.ensures.skips)
    (c.read_class.ensures.fails (pairs_in c.args.names.now.pairs))

pub read_other-returns-clause-fails : goal.read_other-returns-clause-fails
read_other-returns-clause-fails t c =
    stuck.atom_node_fails (pairs_in c.args.names.now.pairs) (point_of c.args.self.now) c.read_node.result (sym c.in_default.ensures.value)
    (sym c.in_default-next_class.ensures.value)
    c.read_node.ensures.fails

pub read_bars-returns-in_err-read_branch-clause-fails : goal.read_bars-returns-in_err-read_branch-clause-fails
read_bars-returns-in_err-read_branch-clause-fails t c =
    let p = err_from_is_err_and c.from_residual-in_err-read_branch.result c.from_residual-in_err-read_branch.ensures.1 in
    rw (p.1, p.2) (stuck.bars_fail (pairs_in c.args.names.now.pairs) (point_of c.args.self.now) (point_of c.loop-self.self)
    (point_of c.skip.new.self) c.loop-self.invariant.bars.so_far _ c.loop-self.invariant.bars.row
    (points.takes_at bar c.loop-self.self c.skip.new.self (sym c.is_at_bar.ensures.value ∙ c.loop-self-test.true) c.skip.ensures.skips)
    c.in_err-read_branch.ensures.fails)

pub read_bodies-returns-in_err-true_branch-clause-fails : goal.read_bodies-returns-in_err-true_branch-clause-fails
read_bodies-returns-in_err-true_branch-clause-fails t c =
    let p = err_from_is_err_and c.from_residual.result c.from_residual.ensures.1 in
    rw (p.1, p.2) (stuck.bodies_of_branch (pairs_in c.args.names.now.pairs) (tree_of c.args.condition.value) (point_of c.args.self.now) _
    c.in_err-true_branch.ensures.fails)

pub read_bodies-returns-in_err-false_branch-clause-fails : goal.read_bodies-returns-in_err-false_branch-clause-fails
read_bodies-returns-in_err-false_branch-clause-fails t c =
    let p = err_from_is_err_and c.from_residual-in_err-false_branch.result c.from_residual-in_err-false_branch.ensures.1 in
    rw (p.1, p.2) (stuck.bodies_of_last (pairs_in c.args.names.now.pairs) (tree_of c.args.condition.value) (point_of c.args.self.now)
    (point_of c.read_boxed_branch.new.self) (point_of c.skip.new.self)
    (tree_of c.in_ok-true_branch.true_branch.value) _ c.in_ok-true_branch.ensures.boxes.spelled
    (points.takes_at bar c.read_boxed_branch.new.self c.skip.new.self (sym c.is_at_bar.ensures.value ∙ c.if-is_at_bar.true) c.skip.ensures.skips)
    c.in_err-false_branch.ensures.fails)

pub read_bodies-returns-in_err-read_close-clause-fails : goal.read_bodies-returns-in_err-read_close-clause-fails
read_bodies-returns-in_err-read_close-clause-fails t c =
    let p = err_from_is_err_and c.from_residual-in_err-read_close.result c.from_residual-in_err-read_close.ensures.1 in
    rw (p.1, p.2) (stuck.bodies_of_close (pairs_in c.args.names.now.pairs) (tree_of c.args.condition.value) (point_of c.args.self.now)
    (point_of c.read_boxed_branch.new.self)
    (tree_of c.in_ok-true_branch.true_branch.value) _ c.in_ok-true_branch.ensures.boxes.spelled
    (sym c.is_at_bar.ensures.value ∙ c.if-is_at_bar.false) c.in_err-read_close.ensures.fails.0 c.in_err-read_close.ensures.fails.1)

pub read_branch-returns-in_err-read_piece-clause-fails : goal.read_branch-returns-in_err-read_piece-clause-fails
read_branch-returns-in_err-read_piece-clause-fails t c =
    let p = err_from_is_err_and c.from_residual-in_err-read_piece.result c.from_residual-in_err-read_piece.ensures.1 in
    rw (p.1, p.2) (stuck.branch_of_pieces (pairs_in c.args.names.now.pairs) (point_of c.args.self.now) _
    (stuck.pieces_fail (pairs_in c.args.names.now.pairs) (point_of c.args.self.now) (point_of c.args.self.now) [] _ none_read
    (sym c.is_branch_end.ensures ∙ c.if-is_branch_end.false) c.in_err-read_piece.ensures.fails))

pub read_branch-returns-in_err-read_piece-in-None-clause-fails : goal.read_branch-returns-in_err-read_piece-in-None-clause-fails
read_branch-returns-in_err-read_piece-in-None-clause-fails t c =
    let p = err_from_is_err_and c.from_residual-in_err-read_piece-in-None.result c.from_residual-in_err-read_piece-in-None.ensures.1 in
    rw (p.1, p.2) (stuck.branch_of_pieces (pairs_in c.args.names.now.pairs) (point_of c.args.self.now) _
    (stuck.pieces_fail (pairs_in c.args.names.now.pairs) (point_of c.args.self.now) (point_of c.loop-self.self) c.loop-self.invariant.pieces.so_far _
    c.loop-self.invariant.pieces.row (sym c.is_branch_end-in-loop-self.ensures ∙ c.loop-self-test.true) c.in_err-read_piece-in-None.ensures.fails))

pub read_if-returns-in_err-condition-clause-fails : goal.read_if-returns-in_err-condition-clause-fails
read_if-returns-in_err-condition-clause-fails t c =
    let p = err_from_is_err_and c.from_residual.result c.from_residual.ensures.1 in
    rw (p.1, p.2) (stuck.if_unnamed (pairs_in c.args.names.now.pairs) (reference_of c.args.found)
    (point_of c.args.self.now) _ c.in_err-condition.ensures.fails)

pub read_if-returns-clause-fails : goal.read_if-returns-clause-fails
read_if-returns-clause-fails t c =
    stuck.if_fails (pairs_in c.args.names.now.pairs) (reference_of c.args.found) (tree_of c.in_ok-condition.condition.value)
    (point_of c.args.self.now) c.read_bodies.result
    c.in_ok-condition.ensures.made (sym c.if-is_at_close.false ∙ c.is_at_close.ensures.value) c.read_bodies.ensures.fails

pub read_last-returns-in_err-read_alternatives-clause-fails : goal.read_last-returns-in_err-read_alternatives-clause-fails
read_last-returns-in_err-read_alternatives-clause-fails t c =
    let p = err_from_is_err_and c.from_residual.result c.from_residual.ensures.1 in
    rw (p.1, p.2) (stuck.last_of_alternatives (pairs_in c.args.names.now.pairs) (point_of c.args.self.now) _ c.in_err-read_alternatives.ensures.fails)

pub read_last-returns-clause-fails : goal.read_last-returns-clause-fails
read_last-returns-clause-fails t c =
    let read = c.in_ok-read_alternatives.ensures.pushes in
    stuck.close_fails (pairs_in c.args.names.now.pairs) (point_of c.args.self.now) (point_of c.read_alternatives.new.self) read.read c.read_close.result
    read.spelled c.read_close.ensures.fails

pub read_opened-returns-in-Enclosing-clause-fails : goal.read_opened-returns-in-Enclosing-clause-fails
read_opened-returns-in-Enclosing-clause-fails t c =
    stuck.form_fails (pairs_in c.args.names.now.pairs) (opening_of c.args.opening) (Around c.in-Enclosing.enclosing) (point_of c.args.self.now)
    c.read_enclosed.result (ap opening_of c.in-Enclosing.is) c.read_enclosed.ensures.fails

pub read_opened-returns-in-AbsentBar-clause-fails : goal.read_opened-returns-in-AbsentBar-clause-fails
read_opened-returns-in-AbsentBar-clause-fails t c =
    stuck.form_fails (pairs_in c.args.names.now.pairs) (opening_of c.args.opening) AbsentBar (point_of c.args.self.now) c.read_absent.result
    (ap opening_of c.in-AbsentBar.is) c.read_absent.ensures.fails

pub read_opened-returns-in-If-clause-fails : goal.read_opened-returns-in-If-clause-fails
read_opened-returns-in-If-clause-fails t c =
    stuck.form_fails (pairs_in c.args.names.now.pairs) (opening_of c.args.opening) (If (reference_of c.in-If.found)) (point_of c.args.self.now)
    c.read_if.result (ap opening_of c.in-If.is) c.read_if.ensures.fails

pub read_opened-returns-in-Group-clause-fails : goal.read_opened-returns-in-Group-clause-fails
read_opened-returns-in-Group-clause-fails t c =
    let name = option_map (λ n. n.now) c.in-Group.name in
    stuck.form_fails (pairs_in c.args.names.now.pairs) (opening_of c.args.opening) (Group c.in-Group.number name) (point_of c.args.self.now)
    c.read_group.result (ap opening_of c.in-Group.is)
    (c.read_group.ensures.fails c.in-Group.number name)

pub read_opened-returns-in_err-condition-in-IfPattern-clause-fails : goal.read_opened-returns-in_err-condition-in-IfPattern-clause-fails
read_opened-returns-in_err-condition-in-IfPattern-clause-fails t c =
    let p = err_from_is_err_and c.from_residual.result c.from_residual.ensures.1 in
    rw (p.1, p.2) (stuck.of_form (pairs_in c.args.names.now.pairs) (opening_of c.args.opening) IfPattern (point_of c.args.self.now) _
    (ap opening_of c.in-IfPattern.is)
    (stuck.pattern_of_last (pairs_in c.args.names.now.pairs) (point_of c.args.self.now) _ c.in_err-condition-in-IfPattern.ensures.fails))

pub read_opened-returns-in_err-body-in-IfLook-clause-fails : goal.read_opened-returns-in_err-body-in-IfLook-clause-fails
read_opened-returns-in_err-body-in-IfLook-clause-fails t c =
    let p = err_from_is_err_and c.from_residual-in_err-body-in-IfLook.result c.from_residual-in_err-body-in-IfLook.ensures.1 in
    rw (p.1, p.2) (stuck.of_form (pairs_in c.args.names.now.pairs) (opening_of c.args.opening) (IfLook (look_of c.in-IfLook.look))
    (point_of c.args.self.now) _ (ap opening_of c.in-IfLook.is)
    (stuck.look_of_last (pairs_in c.args.names.now.pairs) (look_of c.in-IfLook.look) (point_of c.args.self.now) _ c.in_err-body-in-IfLook.ensures.fails))

pub read_opened-returns-in_ok-condition-in-IfPattern-clause-fails : goal.read_opened-returns-in_ok-condition-in-IfPattern-clause-fails
read_opened-returns-in_ok-condition-in-IfPattern-clause-fails t c =
    stuck.pattern_fails (pairs_in c.args.names.now.pairs) (tree_of c.in_ok-condition-in-IfPattern.condition.value) (point_of c.args.self.now)
    (point_of c.read_boxed.new.self) (opening_of c.args.opening) c.read_bodies.result (ap opening_of c.in-IfPattern.is)
    c.in_ok-condition-in-IfPattern.ensures.boxes.spelled c.read_bodies.ensures.fails

pub read_opened-returns-in_ok-condition-in-IfLook-clause-fails : goal.read_opened-returns-in_ok-condition-in-IfLook-clause-fails
read_opened-returns-in_ok-condition-in-IfLook-clause-fails t c =
    stuck.look_fails (pairs_in c.args.names.now.pairs) (look_of c.in-IfLook.look) (tree_of c.in_ok-body-in-IfLook.body.value)
    (tree_of c.in_ok-condition-in-IfLook.condition.value) (point_of c.args.self.now) (point_of c.read_boxed-in-IfLook.new.self)
    (opening_of c.args.opening) c.read_bodies-in-IfLook.result
    (ap opening_of c.in-IfLook.is) c.in_ok-body-in-IfLook.ensures.boxes.spelled c.in_ok-condition-in-IfLook.ensures.made c.read_bodies-in-IfLook.ensures.fails

pub read_piece-returns-in_err-read_atom-clause-fails : goal.read_piece-returns-in_err-read_atom-clause-fails
read_piece-returns-in_err-read_atom-clause-fails t c =
    let p = err_from_is_err_and c.from_residual.result c.from_residual.ensures.1 in
    rw (p.1, p.2) (stuck.piece_of_atom (pairs_in c.args.names.now.pairs) (point_of c.args.self.now) _ c.in_err-read_atom.ensures.fails)

pub read_piece-returns-clause-fails : goal.read_piece-returns-clause-fails
read_piece-returns-clause-fails t c =
    let atom = c.in_ok-read_atom.ensures.pushes in
    stuck.piece_fails (pairs_in c.args.names.now.pairs) (point_of c.args.self.now) (point_of c.read_atom.new.self)
    atom.read c.read_quantifier.result atom.spelled
    (c.read_quantifier.ensures.fails (pairs_in c.args.names.now.pairs) c.args.nodes.now.items atom.read atom.adds)
