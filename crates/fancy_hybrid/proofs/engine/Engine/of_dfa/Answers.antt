use Rattle.std.proofs.Common.{IfSome, subst}
use Rattle.regex_levels.specs.Beginnings.{BeginsIn}
use Rattle.fancy_hybrid.proofs.engine.Engine.of_dfa.Goals as goal

pub invariant_of-result : goal.invariant_of-result
invariant_of-result c = record {
  begins = ∣ (λ set is. subst (λ o. IfSome o (BeginsIn c.args.dfa.nfa)) is c.in_ok-first.ensures) ∣₁;
  forward_runs = c.in_ok-forward.ensures.own;
  reverse_runs = c.in_ok-reverse.ensures.own;
  tagged_runs = c.in_ok-tagged.ensures.own;
}
