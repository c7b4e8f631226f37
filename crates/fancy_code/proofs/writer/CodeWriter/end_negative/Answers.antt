use Rattle.std.proofs.Common.{ℕ, ◌+◌, ◌∙◌, refl, subst, arith}
use Rattle.fancy_meaning.specs.Instr.{Instr}
use Rattle.fancy_code.specs.Drafts.{draft_of, Writes}
use Rattle.fancy_code.specs.Arounds.{around_code, not_ahead, not_behind}
use Rattle.fancy_code.proofs.Closings.{ended_not_ahead, ended_not_behind, same_patch, laid_length}
use Rattle.fancy_code.proofs.writer.CodeWriter.end_negative.Goals as goal

pub overflow_add-start : goal.overflow_add-start
overflow_add-start c = omega (arith, c.args.start.low)

pub returns-clause-ahead : goal.returns-clause-ahead
returns-clause-ahead c = λ p body es s t start h b.
    let v = draft_of c.push.new.self in
    let split = λ (n : ℕ). Instr.Split (c.args.start.base + 1) n in
    subst (λ d. Writes p (around_code not_ahead body) es s d)
    (same_patch v c.args.start.base c.len-after.result split _ _ (laid_length c.push.new.self _ (c.len-after.ensures ∙ c.push.new.self.code.ok.0)) refl
    c.patch.ensures)
    (ended_not_ahead p body es s t (draft_of c.args.self.now) c.args.start start v h b (c.push.ensures.writes p))

pub returns-clause-behind : goal.returns-clause-behind
returns-clause-behind c = λ n p body es s t start h b.
    let v = draft_of c.push.new.self in
    let split = λ (m : ℕ). Instr.Split (c.args.start.base + 1) m in
    subst (λ d. Writes p (around_code (not_behind n) body) es s d)
    (same_patch v c.args.start.base c.len-after.result split _ _ (laid_length c.push.new.self _ (c.len-after.ensures ∙ c.push.new.self.code.ok.0)) refl
    c.patch.ensures)
    (ended_not_behind p body es s t (draft_of c.args.self.now) c.args.start start n v h b (c.push.ensures.writes p))
