use Rattle.std.proofs.Common.{ℕ, List, MatchResult, if◌then◌else◌, sym, ap, ◌∙◌, subst}
use Rattle.fancy_steps.specs.Tasks.{options_of as run_options_of}
use Rattle.fancy_replace.specs.Pieces.{as_limit}
use Rattle.fancy_replace.specs.Reading.{expansion}
use Rattle.fancy_host.specs.Hosted.{compiled_of, names_of}
use Rattle.fancy_host.specs.Rewritten.{FailsToRewrite, HoldsRewritten}
use Rattle.fancy_host.proofs.tree.CompiledTree.replaced.Goals as goal

pub returns-clause-rewrites : goal.returns-clause-rewrites
returns-clause-rewrites c =
    let s = c.args.self.now in
    let text = c.args.text.now in
    let o = run_options_of c.args.options.now in
    let limit = as_limit c.args.limit in
    subst (λ (write : List ℕ → List ℕ → List ℕ). MatchResult c.rewrite-2.result (HoldsRewritten (compiled_of s) text o limit write c.args.room)
    (FailsToRewrite (compiled_of s) text o limit))
    (c.in_ok-template.ensures.ok
    ∙ sym (ap (λ b. if b then (λ (t n : List ℕ). c.args.replacement.now) else expansion (names_of s) c.args.replacement.now) c.if-is_literal.false))
    c.rewrite-2.ensures.rewrites
