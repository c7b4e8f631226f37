use Rattle.std.proofs.Common.{ℕ, ◌+◌, ◌*◌, drop}
use Rattle.fancy_compile.specs.Nests.{NoneDeeper}
use Rattle.fancy_compile.proofs.nesting.+nest.Given as goal

abbrev pub decreases-nests_deeper : goal.decreases-nests_deeper
decreases-nests_deeper l = 2 * l.most

abbrev pub decreases-one_nests_deeper : goal.decreases-one_nests_deeper
decreases-one_nests_deeper l = 2 * l.most + 1

-- those so far do not
abbrev pub invariant-one_nests_deeper-loop-info : goal.invariant-one_nests_deeper-loop-info
invariant-one_nests_deeper-loop-info l = NoneDeeper l.most (drop l.info-index l.infos) → NoneDeeper l.most l.infos
