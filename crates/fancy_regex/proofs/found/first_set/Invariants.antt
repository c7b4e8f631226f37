use Rattle.std.proofs.Common.{◌≡◌, drop}
use Rattle.fancy_regex.specs.Found.{first_span, numbers_in}
use Rattle.fancy_regex.proofs.found.first_set.Given as goal

-- the groups so far are not set
abbrev pub invariant-loop-group : goal.invariant-loop-group
invariant-loop-group l =
    first_span (numbers_in l.captures) (drop l.group-index l.groups) ≡ first_span (numbers_in l.captures) l.groups
