use Rattle.std.proofs.Common.{⊎_elim, IfSome, map, take, sym, ap, subst, ◌∙◌, arith}
use Rattle.std.proofs.lemmas.Option.{IfSome_then}
use Rattle.std.proofs.lemmas.Result.{IfOk-weaker}
use Rattle.fancy_meaning.specs.Tree.{Alt, Concat, trees}
use Rattle.fancy_expr.specs.Views.{tree_of}
use Rattle.fancy_expr.proofs.MadeTrees.{tree-alt, tree-concat}
use Rattle.fancy_literals.specs.TakesByte.{EachTakesByte, OneTakesByte, TakesByte}
use Rattle.fancy_literals.proofs.ByteLaws.{each_larger, each_last, one_last, one_on, takes_larger, with_next}
use Rattle.fancy_literals.proofs.bytes.+bytes.Goals as goal

pub bytes_of-returns-in-Concat : goal.bytes_of-returns-in-Concat
bytes_of-returns-in-Concat t c =
    let unicode = c.args.unicode in
    let behind = c.args.behind in
    IfOk-weaker c.rarest_of.result (λ found. IfSome found (λ bytes. OneTakesByte unicode behind bytes (trees (map tree_of c.deref.result.now))))
    (λ found. IfSome found (λ bytes. TakesByte unicode behind bytes (tree_of c.args.expr.now)))
    (λ found h. IfSome_then found h
    (λ bytes taken. subst (TakesByte unicode behind bytes)
    (ap Concat (ap (λ l. trees (map tree_of l)) c.deref.ensures.value) ∙ sym (ap tree_of c.in-Concat.is ∙ tree-concat c.in-Concat.parts)) taken))
    c.rarest_of.ensures

pub bytes_of-returns-in-Alt : goal.bytes_of-returns-in-Alt
bytes_of-returns-in-Alt t c =
    let unicode = c.args.unicode in
    let behind = c.args.behind in
    IfOk-weaker c.union_of.result (λ found. IfSome found (λ bytes. EachTakesByte unicode behind bytes (trees (map tree_of c.deref-in-Alt.result.now))))
    (λ found. IfSome found (λ bytes. TakesByte unicode behind bytes (tree_of c.args.expr.now)))
    (λ found h. IfSome_then found h
    (λ bytes taken. subst (TakesByte unicode behind bytes)
    (ap Alt (ap (λ l. trees (map tree_of l)) c.deref-in-Alt.ensures.value) ∙ sym (ap tree_of c.in-Alt.is ∙ tree-alt c.in-Alt.branches)) taken))
    c.union_of.ensures

pub rarest_of-loop-part-preserved : goal.rarest_of-loop-part-preserved
rarest_of-loop-part-preserved t c =
    let unicode = c.args.unicode in
    let behind = c.args.behind in
    let given = c.args.parts.now in
    let here = map tree_of (take c.loop-part.part-index given) in
    let e = tree_of c.part-item.result in
    with_next (λ es. IfSome c.rarer-rarest.result (λ bytes. OneTakesByte unicode behind bytes (trees es))) given c.loop-part.part-index c.part-item.result
    (omega arith) c.part-item.is
    (IfSome_then c.rarer-rarest.result c.rarer-rarest.ensures
    (λ bytes. ⊎_elim
    (λ old. one_on unicode behind bytes here e (subst (λ o. IfSome o (λ b. OneTakesByte unicode behind b (trees here))) old c.loop-part.invariant))
    (λ new. one_last unicode behind bytes here e (subst (λ o. IfSome o (λ b. TakesByte unicode behind b e)) new c.in_ok-bytes_of.ensures))))

pub union_of-loop-branch-preserved : goal.union_of-loop-branch-preserved
union_of-loop-branch-preserved t c =
    let unicode = c.args.unicode in
    let behind = c.args.behind in
    let given = c.args.branches.now in
    let here = map tree_of (take c.loop-branch.branch-index given) in
    let e = tree_of c.branch-item.result in
    let all = c.both-union.result in
    with_next (λ es. EachTakesByte unicode behind all (trees es)) given c.loop-branch.branch-index c.branch-item.result (omega arith) c.branch-item.is
    (each_last unicode behind all here e
    (each_larger unicode behind c.loop-branch.union all c.both-union.ensures.first (trees here) c.loop-branch.invariant)
    (takes_larger unicode behind c.in-Some.bytes all c.both-union.ensures.second e
    (subst (λ o. IfSome o (λ b. TakesByte unicode behind b e)) c.in-Some.is c.in_ok-bytes_of.ensures)))

pub bytes_of-returns-in_default : goal.bytes_of-returns-in_default
bytes_of-returns-in_default t c = c.bytes_of_character.ensures c.args.behind
