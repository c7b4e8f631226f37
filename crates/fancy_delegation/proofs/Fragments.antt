-- What a delegate writes: the ways of a fragment that reads no capture are those from empty captures, laid over what was
-- captured before.
use Rattle.std.proofs.Common.{◌≡◌, ℕ, Bool, true, false, if◌then◌else◌, ◌==◌, List, map, Option, Some, None, slice_get, refl, ap}
use Rattle.fancy_meaning.specs.Tree.{Tree}
use Rattle.fancy_meaning.specs.MatchState.{MatchState, Span, Ways, in_order, first_state}
use Rattle.fancy_meaning.specs.Ways.{Setting, ways_with}
use Rattle.fancy_meaning.specs.Options.{Analysis}
use Rattle.fancy_laws.proofs.Every.{Every, no_item, item}
use Rattle.fancy_delegation.proofs.Pairwise.{Pairwise, neither, both, pairs_flat_map}
use Rattle.fancy_delegation.proofs.AlikeLoops.{WaysAlike}
use Rattle.fancy_delegation.proofs.Alike.{GoesAlong, relates_alike, ReadsOnly}
use Rattle.fancy_delegation.proofs.Related.{ways_related}
use Rattle.fancy_delegation.proofs.EasyNodes.{IsEasy, NoGroup, easy_reads_nothing}

-- a span over another
abbrev pub laid_over : Option Span → Option Span → Option Span
laid_over None below = below
laid_over (Some span) below = Some span

-- s has the place of t, and the captures of t over these
pub record IsOver (below : ℕ → Option Span) (s t : MatchState) : Type 0 where
  pub place : s.place ≡ t.place
  pub spans : (g : ℕ) → s.captures g ≡ laid_over (t.captures g) (below g)

over_goes_along : (below : ℕ → Option Span) → GoesAlong (IsOver below) NoGroup
over_goes_along below = record {
  place = λ s t r. r.place;
  to_place = λ s t i r. record { place = refl; spans = r.spans };
  spans = λ g from s t r. record { place = r.place; spans = λ i. here g from s t r i (i == g) };
  keeps = λ s t r. record { place = r.place; spans = r.spans };
  flags = λ s t r. record { place = r.place; spans = r.spans };
  read = λ g n s t r. absurd n;
}
  where
    here : (g from : ℕ) (s t : MatchState) → IsOver below s t → (i : ℕ) (v : Bool) →
        ◌≡◌ {A = Option Span} (if v then Some (from, s.place) else s.captures i)
        (laid_over (if v then Some (from, t.place) else t.captures i) (below i))
    here g from s t r i true = ap (λ p. Some (from, p)) r.place
    here g from s t r i false = r.spans i

-- every state has its captures over none
pub over_first_state : (s : MatchState) → IsOver s.captures s (first_state s.place)
over_first_state s = record { place = refl; spans = λ g. refl }

-- the ways of neighbours, one after the other
abbrev pub fragment_ways : Setting → (ℕ → Ways) → List Tree → Ways
fragment_ways q call es = in_order (map (ways_with q call) es)

module _ (q : Setting) (a : Analysis) (call call' : ℕ → Ways) where
  easy_over : (below : ℕ → Option Span) (e : Tree) → IsEasy a e → WaysAlike (IsOver below) (ways_with q call e) (ways_with q call' e)
  easy_over below e h =
      ways_related q (ReadsOnly NoGroup NoGroup) (WaysAlike (IsOver below)) (relates_alike q (IsOver below) NoGroup NoGroup (over_goes_along below))
      call call' (λ g n. absurd n) e (easy_reads_nothing a e h)

  pub fragment_over : (below : ℕ → Option Span) {es : List Tree} → Every (IsEasy a) es →
      WaysAlike (IsOver below) (fragment_ways q call es) (fragment_ways q call' es)
  fragment_over below no_item s t r = both r neither
  fragment_over below (item {x = e} {xs = es} h hs) s t r =
      pairs_flat_map (fragment_ways q call es) (fragment_ways q call' es) (fragment_over below hs) (easy_over below e h s t r)

-- the first of both, if there is one
pub data FirstOfBoth (R : MatchState → MatchState → Type 0) : Option MatchState → Option MatchState → Type 0 where
  no_first : FirstOfBoth R None None
  both_first : {h k : MatchState} → R h k → FirstOfBoth R (Some h) (Some k)

pub first_of_both : {R : MatchState → MatchState → Type 0} {hs ks : List MatchState} → Pairwise R hs ks →
    FirstOfBoth R (slice_get hs 0) (slice_get ks 0)
first_of_both neither = no_first
first_of_both (both r h) = both_first r
