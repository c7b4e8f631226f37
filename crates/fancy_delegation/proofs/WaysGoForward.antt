-- Every way goes forward: no way of any node ends before where it began.
use Rattle.std.proofs.Common.{◌≤◌, arith}
use Rattle.fancy_meaning.specs.Tree.{Tree}
use Rattle.fancy_meaning.specs.Nodes.{nodes}
use Rattle.fancy_meaning.specs.OpenCalls.{Depths}
use Rattle.fancy_meaning.specs.MatchState.{MatchState}
use Rattle.fancy_meaning.specs.Ways.{Setting, ways}
use Rattle.fancy_delegation.proofs.Items.{IsIn}
use Rattle.fancy_delegation.proofs.Kept.{IsKept, EachKept, relates_kept}
use Rattle.fancy_delegation.proofs.Calls.{all_ways_related}

abbrev pub IsOn : MatchState → MatchState → Type 0
IsOn s t = s.place ≤ t.place

abbrev AnyNode : Tree → Type 0
AnyNode e = Unit {0}

on_is_kept : IsKept AnyNode IsOn
on_is_kept = record {
  same = λ s. omega arith;
  on = λ s t u a b. omega (arith, a, b);
  to_place = λ s i le. le;
  back = λ s t a. omega arith;
  before = λ s t i e a. omega (arith, e);
  meets_end = λ w a s ok e. omega arith;
  keeps = λ s ok. omega arith;
  spans = λ g e span s t ok a. a;
}

pub ways_go_forward : (q : Setting) (whole e : Tree) (depths : Depths) → IsIn e (nodes whole) → EachKept IsOn (ways q whole e depths)
ways_go_forward q whole e depths i =
    all_ways_related q whole AnyNode (λ w w'. EachKept IsOn w) (relates_kept q AnyNode IsOn on_is_kept) (λ d j. tt) e depths i
