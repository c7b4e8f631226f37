use Rattle.std.proofs.Common.{◌++◌, ◌∷◌, [], IfSome, map, take, string_bytes, sym, ap, subst, ◌∙◌, arith}
use Rattle.std.proofs.lemmas.Option.{IfSome_then}
use Rattle.std.proofs.lemmas.Result.{IfOk-weaker}
use Rattle.fancy_meaning.specs.Tree.{Concat, trees}
use Rattle.fancy_expr.specs.Views.{tree_of}
use Rattle.fancy_expr.proofs.MadeTrees.{tree-concat}
use Rattle.fancy_literals.specs.Takes.{AreRead, IsTaken, Takes}
use Rattle.fancy_literals.proofs.TakenLaws.{read_more}
use Rattle.fancy_literals.proofs.required.+taken.Goals as goal
use Rattle.fancy_literals.proofs.required.+taken.Goals.{taken_by_parts-in-Some+in_ok-push-in-Some, taken_by_parts-in-None+in_ok-taken_by-in-None}

pub taken_by-returns-in-Concat : goal.taken_by-returns-in-Concat
taken_by-returns-in-Concat t c =
    IfOk-weaker c.taken_by_parts.result (λ found. IfSome found (λ s. IsTaken c.args.behind (string_bytes s) (map tree_of c.deref.result.now)))
    (λ found. IfSome found (λ s. Takes c.args.behind (string_bytes s) (tree_of c.args.expr.now)))
    (λ found h. IfSome_then found h
    (λ s taken. subst (Takes c.args.behind (string_bytes s))
    (ap Concat (ap (λ l. trees (map tree_of l)) c.deref.ensures.value) ∙ sym (ap tree_of c.in-Concat.is ∙ tree-concat c.in-Concat.parts)) taken))
    c.taken_by_parts.ensures

pub taken_by_parts-loop-part-preserved : goal.taken_by_parts-loop-part-preserved
taken_by_parts-loop-part-preserved t c =
    let given = c.args.parts.now in
    let here = map tree_of (take c.loop-part.part-index given) in
    read_more c.args.behind given c.loop-part.part-index c.part-item.result c.match-character_of.literals (omega arith) c.part-item.is
    (elim c.match-character_of.branch [
      | taken_by_parts-in-Some+in_ok-push-in-Some w ↦ subst (λ r. AreRead c.args.behind r (here ++ tree_of c.part-item.result ∷ [])) (sym w.literals-is)
          (subst (λ e. AreRead c.args.behind w.push.new.self (here ++ e ∷ [])) (sym w.in-Some.ensures)
          (w.in_ok-push-in-Some.ensures c.args.behind here c.loop-part.invariant))
      | taken_by_parts-in-None+in_ok-taken_by-in-None w ↦ subst (λ r. AreRead c.args.behind r (here ++ tree_of c.part-item.result ∷ [])) (sym w.literals-is)
          (w.end_row.ensures c.args.behind here (tree_of c.part-item.result) c.loop-part.invariant w.in_ok-taken_by-in-None.ensures)
    ])

pub taken_by-returns-in_default : goal.taken_by-returns-in_default
taken_by-returns-in_default t c = c.taken_by_itself.ensures c.args.behind

pub taken_by_parts-loop-part-init : goal.taken_by_parts-loop-part-init
taken_by_parts-loop-part-init t c = c.new-literals.ensures c.args.behind
