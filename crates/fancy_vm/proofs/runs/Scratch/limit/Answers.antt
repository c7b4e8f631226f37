use Rattle.std.proofs.Common.{◌∙◌, ap}
use Rattle.fancy_steps.specs.SearchLimits.{passed_by}
use Rattle.fancy_steps.proofs.SearchLimitsLaws.{no_cost_passes}
use Rattle.fancy_vm.proofs.runs.Scratch.limit.Goals as goal

pub returns-clause-passed : goal.returns-clause-passed
returns-clause-passed c = ap (passed_by c.args.limits) c.forget_cost.ensures.cost ∙ no_cost_passes c.args.limits
