use Rattle.std.proofs.Common.{◌∙◌}
use Rattle.fancy_compile.proofs.NestLaws.{no_limit, some_deep, stay_within}
use Rattle.fancy_compile.proofs.scope.Scope.nest_too_deep.Goals as goal

pub one_nests_deeper-requires : goal.one_nests_deeper-requires
one_nests_deeper-requires c = (c.requires.analysis, c.requires.each)

pub returns-in-Some-clause-deep : goal.returns-in-Some-clause-deep
returns-in-Some-clause-deep c = λ yes p room.
    some_deep p c.in-Some.room (room ∙ c.in-Some.is) c.args.infos.now (c.one_nests_deeper.ensures.deeper yes)

pub returns-in-Some-clause-within : goal.returns-in-Some-clause-within
returns-in-Some-clause-within c = λ no p room.
    stay_within p c.in-Some.room (room ∙ c.in-Some.is) c.args.infos.now (c.one_nests_deeper.ensures.within no)

pub returns-in-None-clause-within : goal.returns-in-None-clause-within
returns-in-None-clause-within c = λ no p room. no_limit p (room ∙ c.in-None.is) c.args.infos.now
