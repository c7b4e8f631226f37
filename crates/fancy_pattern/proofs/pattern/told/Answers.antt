use Rattle.fancy_pattern.specs.Spelling.{PatternFails}
use Rattle.fancy_pattern.proofs.Told.{told_fault}
use Rattle.std.proofs.Common.{subst}
use Rattle.fancy_pattern.proofs.pattern.told.Goals as goal

pub returns-in-Fault : goal.returns-in-Fault
returns-in-Fault c = λ options h.
    told_fault options c.args.chars.now c.in-Fault.fault c.placed_fault.result c.placed_fault.ensures
    (subst (PatternFails options c.args.chars.now) c.in-Fault.is h)
