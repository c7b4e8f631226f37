use Rattle.std.proofs.Common.{ℕ, MatchOption, subst, ◌∙◌}
use Rattle.fancy_meaning.specs.Recursion.{IsLeastLeftRecursive, IsLeftRecursive}
use Rattle.fancy_analysis.proofs.CallLinks.{found_left}
use Rattle.fancy_analysis.proofs.recursion.left_recursion.Goals as goal

pub returns-in-Some : goal.returns-in-Some
returns-in-Some c = λ whole tree sized. record {
  group = c.in-Some.group;
  is_least = subst (λ r. MatchOption r ((n : ℕ) → ¬ IsLeftRecursive whole n) (λ n. IsLeastLeftRecursive whole n)) c.in-Some.is
      (found_left whole c.deref.result.now c.in_ok-group.field-0 (c.deref.ensures.value ∙ c.in_ok-links.ensures whole tree sized) c.in_ok-group.ensures);
  describes = c.in_ok-describe-in-Some.ensures;
}

pub returns : goal.returns
returns c = λ whole tree sized.
    subst (λ r. MatchOption r ((n : ℕ) → ¬ IsLeftRecursive whole n) (λ n. IsLeastLeftRecursive whole n)) c.in-None.is
    (found_left whole c.deref.result.now c.in_ok-group.field-0 (c.deref.ensures.value ∙ c.in_ok-links.ensures whole tree sized) c.in_ok-group.ensures)
