use Rattle.std.proofs.Common.{◌+◌, ◌∙◌, subst, sym, []}
use Rattle.fancy_meaning.specs.Code.{one}
use Rattle.fancy_meaning.specs.Constructs.{split}
use Rattle.fancy_code.specs.Drafts.{draft_of, Writes}
use Rattle.std.proofs.Common.{◌≡◌, length, ap}
use Rattle.fancy_code.proofs.Closings.{ended_plus, laid_length}
use Rattle.fancy_code.proofs.writer.CodeWriter.end_plus.Goals as goal

pub returns : goal.returns
returns c = λ p body es s t start h b.
    let u = draft_of c.args.self.now in
    let here : length u.instrs ≡ c.len-here.result = laid_length c.args.self.now _ (c.len-here.ensures ∙ c.args.self.now.code.ok.0) in
    let insn = c.split_insn.ensures ∙ ap (λ n. split c.args.greedy c.args.start.base (n + 1)) (sym here) in
    ended_plus p body es s t u c.args.start start c.args.greedy _ h b
    (subst (λ i. Writes p (one i) [] u (draft_of c.push.new.self)) insn (c.push.ensures.writes p))
