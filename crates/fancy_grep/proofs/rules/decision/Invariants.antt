use Rattle.std.proofs.Common.{◌≡◌, take}
use Rattle.fancy_grep.specs.Rules.{decision}
use Rattle.fancy_grep.proofs.rules.decision.Given as goal

abbrev pub invariant-loop-rule : goal.invariant-loop-rule
invariant-loop-rule l = l.decision ≡ decision l.entry.path.now l.entry.name.now l.entry.is_folder (take l.rule-index l.rules)
