use Rattle.std.proofs.Common.{◌≡◌, [], ◌∷◌, Some, None, refl, ap, inl, arith}
use Rattle.fancy_meaning.specs.Tree.{Empty, Group, SubroutineCall}
use Rattle.fancy_meaning.specs.Nodes.{groups, target}
use Rattle.fancy_meaning.specs.OpenCalls.{no_calls, free_calls}
use Rattle.fancy_meaning.specs.MatchState.{MatchState}
use Rattle.fancy_laws.proofs.Calls.{call_has_ways_of_target, no_way_of_call}
use Rattle.fancy_rewriting.proofs.calls_need_their_groups.Goals as goal

body_of_group : target (Group 1 Empty) 1 ≡ Some Empty
unfolding target groups
body_of_group = refl

no_group : target (SubroutineCall 1) 1 ≡ None
unfolding target groups
no_group = refl

one_is_not_none : (s : MatchState) → s ∷ [] ≡ [] → ⊥
one_is_not_none s e = cc

pub returns : goal.returns
returns c = λ q s. (
  ap (λ w. w s) (call_has_ways_of_target q (Group 1 Empty) no_calls 1 Empty body_of_group (omega arith)),
  λ e. one_is_not_none _ e,
  ap (λ w. w s) (no_way_of_call q (SubroutineCall 1) (free_calls (SubroutineCall 1) no_calls) no_calls 1 (inl no_group)),
)
