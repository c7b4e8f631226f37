use Rattle.std.proofs.Common.{ℕ, ◌+◌, ◌∙◌, subst, arith}
use Rattle.fancy_meaning.specs.Instr.{Instr}
use Rattle.fancy_code.specs.Drafts.{draft_of, Writes}
use Rattle.fancy_code.specs.Arounds.{around_code}
use Rattle.fancy_code.specs.declared.around.Construct.TheVariants as around
use Rattle.fancy_code.specs.declared.loops.LoopKind.TheVariants as kind
use Rattle.fancy_code.proofs.Closings.{ended_epsilon, same_patch, laid_length}
use Rattle.fancy_code.proofs.writer.CodeWriter.end_epsilon.Goals as goal

pub overflow_add-head : goal.overflow_add-head
overflow_add-head c = omega (arith, c.args.start.low)

pub returns : goal.returns
returns c = λ p body es s t start h b.
    let v = draft_of c.push.new.self in
    let head = λ (n : ℕ). Instr.RepeatEpsilon c.args.greedy c.args.lo n c.args.start.fresh (c.args.start.fresh + 1) in
    subst (λ d. Writes p (around_code (around.Loop (kind.Epsilon c.args.lo) c.args.greedy) body) es s d)
    (same_patch v (c.args.start.base + 1) c.len-next.result head _ _ (laid_length c.push.new.self _ (c.len-next.ensures ∙ c.push.new.self.code.ok.0))
    c.epsilon_insn-insn.ensures c.patch.ensures)
    (ended_epsilon p body es s t (draft_of c.args.self.now) c.args.start start c.args.greedy c.args.lo v h b (c.push.ensures.writes p))
