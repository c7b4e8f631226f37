use Rattle.std.proofs.Common.{◌≤◌, All, take}
use Rattle.fancy_analysis.proofs.reached.flags_for.Given as goal

abbrev pub invariant-loop-link : goal.invariant-loop-link
invariant-loop-link l = All (λ link. link.from ≤ l.last) (take l.link-index l.links)
