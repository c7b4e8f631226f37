-- The first way of a batch is what a search of its nodes from empty captures finds first, laid over what was captured before.
use Rattle.std.proofs.Common.{◌≡◌, List, is_some, slice_get, refl}
use Rattle.fancy_meaning.specs.Tree.{Tree}
use Rattle.fancy_meaning.specs.OpenCalls.{Depths, free_calls}
use Rattle.fancy_meaning.specs.MatchState.{MatchState, fails, first_state}
use Rattle.fancy_meaning.specs.Ways.{Setting, called}
use Rattle.fancy_meaning.specs.Premises.{Analysed, analysis, tree_of}
use Rattle.fancy_laws.proofs.Every.{Every, every_weaker}
use Rattle.fancy_delegation.proofs.Fragments.{IsOver, over_first_state, fragment_ways, fragment_over, FirstOfBoth, no_first, both_first, first_of_both}
use Rattle.fancy_delegation.proofs.RefinedDelegates.{IsDelegated, batch_ways}

module _ (q : Setting) (a : Analysed) (depths : Depths) {es : List Tree} (h : Every (IsDelegated a) es) (s : MatchState) where
  pub first_over : FirstOfBoth (IsOver s.captures) (slice_get (batch_ways q a depths es s) 0)
      (slice_get (fragment_ways q (λ g. fails) es (first_state s.place)) 0)
  first_over =
      first_of_both
      (fragment_over q (analysis a) (called q (tree_of a) (free_calls (tree_of a) depths) depths)
      (λ g. fails) s.captures (every_weaker (λ e d. d.easy) h) s (first_state s.place) (over_first_state s))

  -- so both have a way, or neither has one
  pub finds_alike : is_some (slice_get (batch_ways q a depths es s) 0) ≡ is_some (slice_get (fragment_ways q (λ g. fails) es (first_state s.place)) 0)
  finds_alike = alike first_over
    where
      alike : {o o' : _} → FirstOfBoth (IsOver s.captures) o o' → is_some o ≡ is_some o'
      alike no_first = refl
      alike (both_first r) = refl
