use Rattle.std.proofs.Common.{◌≡◌, drop}
use Rattle.fancy_matches.specs.Matchers.{captures_text, numbers_in}
use Rattle.fancy_replace.specs.Templates.{first_group_text}
use Rattle.fancy_replace.proofs.template.first_group_text.Given as goal

-- the groups so far are not set
abbrev pub invariant-loop-group : goal.invariant-loop-group
invariant-loop-group l =
    first_group_text (captures_text l.captures) (numbers_in l.captures) (drop l.group-index l.groups)
    ≡ first_group_text (captures_text l.captures) (numbers_in l.captures) l.groups
