use Rattle.std.proofs.Common.{◌≡◌, ◌∷◌, drop, map, ap, subst, sym, ◌∙◌, arith}
use Rattle.fancy_meaning.specs.Tree.{AtomicGroup, Concat, Group, trees}
use Rattle.fancy_expr.specs.Views.{tree_of}
use Rattle.fancy_expr.proofs.MadeTrees.{tree-concat}
use Rattle.fancy_literals.specs.Starts.{IsGuarded}
use Rattle.fancy_literals.proofs.OpenLaws.{item_next}
use Rattle.fancy_literals.proofs.StartLaws.{guarded_atomic, guarded_first, guarded_group}
use Rattle.fancy_literals.proofs.starts.+guard_of.Goals as goal

pub returns-in-Group : goal.returns-in-Group
returns-in-Group t c = λ unicode.
    subst (IsGuarded unicode c.guard_of-in-Group.result) (ap (λ x. Group 0 (tree_of x)) c.deref.ensures ∙ sym (ap tree_of c.in-Group.is))
    (guarded_group unicode c.guard_of-in-Group.result (tree_of c.deref.result.now) (c.guard_of-in-Group.ensures unicode) 0)

pub returns-in-AtomicGroup : goal.returns-in-AtomicGroup
returns-in-AtomicGroup t c = λ unicode.
    let found = c.guard_of-in-AtomicGroup.result in
    subst (IsGuarded unicode found) (ap (λ x. AtomicGroup (tree_of x)) c.deref-in-AtomicGroup.ensures ∙ sym (ap tree_of c.in-AtomicGroup.is))
    (guarded_atomic unicode found (tree_of c.deref-in-AtomicGroup.result.now) (c.guard_of-in-AtomicGroup.ensures unicode))

pub returns-in-len1-up : goal.returns-in-len1-up
returns-in-len1-up t c = λ unicode.
    let items = c.in-Concat.parts.items in
    let found = c.guard_of.result in
    let first = c.first-item.result in
    let some = c.in-len1-up.len_at_least in
    let whole : items ≡ first ∷ drop 1 items =
    sym c.as_slice.ensures.value ∙ item_next c.as_slice.result.now 0 first (omega (arith, some)) c.first-item.is ∙ ap (λ l. first ∷ drop 1 l) c.as_slice.ensures.value in
    subst (IsGuarded unicode found) (ap (λ l. Concat (trees (map tree_of l))) (sym whole) ∙ sym (ap tree_of c.in-Concat.is ∙ tree-concat c.in-Concat.parts))
    (guarded_first unicode found (tree_of first) (c.guard_of.ensures unicode) (trees (map tree_of (drop 1 items))))

pub returns-in-Assertion : goal.returns-in-Assertion
returns-in-Assertion t c = λ unicode. subst (IsGuarded unicode c.guard_by.result) (sym (ap tree_of c.in-Assertion.is)) (c.guard_by.ensures unicode)
