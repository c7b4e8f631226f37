use Rattle.fancy_backtrack.proofs.trail.Trail.truncate.Goals as goal

pub returns : goal.returns
returns c = c.truncate.ensures.items
