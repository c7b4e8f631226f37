use Rattle.std.proofs.Common.{◌+◌, ◌≤◌, length, subst, sym, arith}
use Rattle.std.proofs.lemmas.Grind.{common_steps}
use Rattle.std.proofs.lemmas.Iterator.{YieldsList-from_chars}
use Rattle.std.proofs.lemmas.Iterator.Consumers.{YieldsList-turn, YieldsList-end}
use Rattle.std.proofs.lemmas.List.{length_push}
use Rattle.fancy_notation.specs.Depth.{levels}
use Rattle.fancy_notation.proofs.Levels.{spelled_levels}
use Rattle.fancy_notation.proofs.Nesting.{Nests, nests_begin, nests_fits, nests_next, nests_done}
use Rattle.fancy_notation.proofs.depth.depth.Goals as goal

pub loop-c-init : goal.loop-c-init
loop-c-init c = nests_begin c.args.text.now c.utf8.text

pub nesting_past-nesting-requires : goal.nesting_past-nesting-requires
nesting_past-nesting-requires c =
    let t = YieldsList-turn
    (YieldsList-from_chars c.args.text.now c.utf8.text cc) c.loop-c.yielded _ c.loop-c.yielded_by _ _ c.in-Some.c c.in-Some.is c.next.ensures.steps in
    let h = nests_fits c.args.text.now c.loop-c.mode c.loop-c.nesting c.loop-c.most (length c.loop-c.yielded) c.in-Some.c c.loop-c.invariant t in
    omega (arith, h)

pub loop-c-preserved : goal.loop-c-preserved
loop-c-preserved c =
    let t = YieldsList-turn
    (YieldsList-from_chars c.args.text.now c.utf8.text cc) c.loop-c.yielded _ c.loop-c.yielded_by _ _ c.in-Some.c c.in-Some.is c.next.ensures.steps in
    subst (λ n. Nests c.args.text.now c.mode_past-mode.result c.nesting_past-nesting.result c.max-most.result n)
    (sym (length_push c.loop-c.yielded c.in-Some.c))
    (nests_next c.args.text.now c.loop-c.mode c.loop-c.nesting c.loop-c.most (length c.loop-c.yielded) c.in-Some.c c.loop-c.invariant t
    _ _ c.max-most.result c.mode_past-mode.ensures c.nesting_past-nesting.ensures (grind (arith, common_steps, c.max-most.ensures)))

pub returns-clause-value : goal.returns-clause-value
returns-clause-value c =
    let t = YieldsList-end
    (YieldsList-from_chars c.args.text.now c.utf8.text cc) c.loop-c.yielded _ c.loop-c.yielded_by _ _ c.in-None.is c.next.ensures.steps in
    nests_done c.args.text.now c.loop-c.mode c.loop-c.nesting c.loop-c.most (length c.loop-c.yielded) c.loop-c.invariant t.1

pub returns-clause-bounds : goal.returns-clause-bounds
returns-clause-bounds c = λ e s. subst (λ n. levels e ≤ n + 2) (sym (returns-clause-value c)) (spelled_levels c.args.text.now e s)
