use Rattle.fancy_analysis.proofs.analyze.is_root_hard.Goals as goal

pub returns-then-info : goal.returns-then-info
returns-then-info c = rw c.if-info.true

pub returns-then-context : goal.returns-then-context
returns-then-context c = rw (c.if-info.false, c.if-context.true)

pub returns-else-context : goal.returns-else-context
returns-else-context c = rw (c.if-info.false, c.if-context.false)
