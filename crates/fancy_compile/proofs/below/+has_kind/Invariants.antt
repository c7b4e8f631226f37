use Rattle.std.proofs.Common.{◌≡◌, drop}
use Rattle.fancy_info.specs.NodeCounts.{node_count}
use Rattle.fancy_compile.proofs.AnyBelow.{any_below}
use Rattle.fancy_compile.specs.NodeKinds.{is_of_kind}
use Rattle.fancy_compile.proofs.below.+has_kind.Given as goal

abbrev pub decreases-has_kind : goal.decreases-has_kind
decreases-has_kind l = node_count l.info.now

-- the children so far have none
abbrev pub invariant-loop-child : goal.invariant-loop-child
invariant-loop-child l = any_below (is_of_kind l.kind) l.children ≡ any_below (is_of_kind l.kind) (drop l.child-index l.children)
