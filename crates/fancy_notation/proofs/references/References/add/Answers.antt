use Rattle.fancy_notation.proofs.ReferencesLaws.{with_absent}
use Rattle.fancy_notation.proofs.references.References.add.Goals as goal

pub returns-in-Absent : goal.returns-in-Absent
returns-in-Absent c = with_absent _ c.args.expr.now _ c.in-Absent.is
