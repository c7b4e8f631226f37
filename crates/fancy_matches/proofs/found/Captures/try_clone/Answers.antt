use Rattle.std.proofs.Common.{◌≤◌, length, ◌∙◌, subst, sym}
use Rattle.fancy_meaning.specs.Premises.{IsSpan}
use Rattle.fancy_steps.specs.Outcomes.{first_pair}
use Rattle.fancy_matches.specs.Listing.{AreSpans}
use Rattle.fancy_matches.proofs.found.Captures.try_clone.Goals as goal

pub invariant_of-result : goal.invariant_of-result
invariant_of-result c =
    let self = c.args.self.now in
    let same = sym (c.in_ok-from_slice.ensures.items ∙ c.deref.ensures.value) in
    record {
      has_whole = subst (λ xs. 2 ≤ length xs) same self.has_whole;
      whole = subst (λ xs. IsSpan self.text.now (first_pair xs)) same self.whole;
      groups = subst (AreSpans self.text.now) same self.groups;
    }
