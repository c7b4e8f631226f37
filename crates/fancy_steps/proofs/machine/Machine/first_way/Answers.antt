use Rattle.std.proofs.Common.{subst}
use Rattle.fancy_fragments.specs.Fragments.{IsFirstWayOf}
use Rattle.fancy_steps.proofs.machine.Machine.first_way.Goals as goal

pub returns-in-Ok-clause-seen : goal.returns-in-Ok-clause-seen
returns-in-Ok-clause-seen c =
    let task = c.args.self.now.task in
    let options = task.options.now in
    let first = subst (λ f. IsFirstWayOf task.text.now f c.args.self.now.ix c.in-Ok.found) c.fragment.ensures c.in-Ok.ensures.first in
    first.way options.pos options.continued
