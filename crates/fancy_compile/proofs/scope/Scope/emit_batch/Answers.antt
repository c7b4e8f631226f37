use Rattle.fancy_compile.proofs.scope.Scope.emit_batch.Goals as goal

pub returns-then-nest_too_deep : goal.returns-then-nest_too_deep
returns-then-nest_too_deep c = λ p u room each. c.fail.ensures p _ _ (c.nest_too_deep.ensures.deep c.if-nest_too_deep.true p room)

pub returns : goal.returns
returns c = λ p u room each. c.emit_batch.ensures p u each (c.nest_too_deep.ensures.within c.if-nest_too_deep.false p room)
