use Rattle.std.proofs.Common.{◌+◌, ◌∙◌, subst, arith}
use Rattle.fancy_meaning.specs.Constructs.{split}
use Rattle.fancy_code.specs.Drafts.{draft_of, Writes}
use Rattle.fancy_code.specs.Arounds.{around_code}
use Rattle.fancy_code.specs.declared.around.Construct.TheVariants as around
use Rattle.fancy_code.specs.declared.loops.LoopKind.TheVariants as kind
use Rattle.fancy_code.proofs.Closings.{ended_at_most_once, same_patch, laid_length}
use Rattle.fancy_code.proofs.writer.CodeWriter.end_at_most_once.Goals as goal

pub overflow_add-start : goal.overflow_add-start
overflow_add-start c = omega (arith, c.args.start.low)

pub returns : goal.returns
returns c = λ p body es s t start h b.
    let u = draft_of c.args.self.now in
    subst (λ d. Writes p (around_code (around.Loop kind.AtMostOnce c.args.greedy) body) es s d)
    (same_patch u c.args.start.base c.len-after.result (split c.args.greedy (c.args.start.base + 1)) _ _
    (laid_length c.args.self.now _ (c.len-after.ensures ∙ c.args.self.now.code.ok.0)) c.split_insn.ensures c.patch.ensures)
    (ended_at_most_once p body es s t u c.args.start start c.args.greedy h b)
