-- What a search keeps to: memoized pairs have no way, and what is left to be tried has the ways that it began with.
use Rattle.std.proofs.Common.{◌≡◌, ℕ, zero, suc, Bool, true, false, ◌||◌, if◌then◌else◌, List, [], ◌∷◌, ◌++◌, Option, Some, None, slice_get, refl, sym, subst, ap₂, append_assoc, append-nil}
use Rattle.fancy_meaning.specs.MatchState.{MatchState}
use Rattle.fancy_nfa_laws.specs.NfaSearch.{NfaConfig, Pair, StepResult, Found, Lost, Goes, Tries, Frame, Other, Fails, Search, Next, TakesUp, TakesBack, Ends, pair_of, same_pair, visited, others, with_frames, next_by, back_to}
use Rattle.fancy_nfa_laws.specs.FirstWays.{seen, seen_of, search_in}
use Rattle.fancy_nfa_laws.proofs.Positions.{Ground, Position, Positions, ways_at, ways_from, step_result_of, next_of, after, StepFacts, PairFacts, Step, step, visited_is, tried_is}

module _ (w : Ground) where
  abbrev pub NoWay : Pair → Type 0
  NoWay x = (s : NfaConfig) (p : Position w s) → x ≡ pair_of s → ways_at w p ≡ []

  abbrev pub IsSound : (Pair → Bool) → Type 0
  IsSound failed = (x : Pair) → failed x ≡ true → NoWay x

  -- what lies on the stack: after these ways all the ways are those, and what a configuration that may fail led to are these
  abbrev pub Below : List Frame → List MatchState → List MatchState → Type 0
  Below [] ways all = ways ≡ all
  Below (Other s ∷ frames) ways all = (p : Position w s) × Below frames (ways ++ ways_at w p) all
  Below (Fails s ∷ frames) ways all = (p : Position w s) × (ways ≡ ways_at w p) × Below frames ways all

  abbrev pub BeginsWith : List MatchState → NfaConfig → Type 0
  BeginsWith all s = (m : MatchState) × (rest : List MatchState) × (all ≡ m ∷ rest) × (seen_of s ≡ seen m)

  abbrev pub EndsAt : List MatchState → Option NfaConfig → Type 0
  EndsAt all None = all ≡ []
  EndsAt all (Some s) = BeginsWith all s

  abbrev pub Keeps : List MatchState → Next → Type 0
  Keeps all (TakesUp s found) = (p : Position w s) × IsSound found.failed × Below found.frames (ways_at w p) all
  Keeps all (TakesBack found) = IsSound found.failed × Below found.frames [] all
  Keeps all (Ends s found) = IsSound found.failed × EndsAt all s

  below_first : (frames : List Frame) (m : MatchState) (ways all : List MatchState) → Below frames (m ∷ ways) all →
      (rest : List MatchState) × (all ≡ m ∷ rest)
  below_first [] m ways all h = (ways, sym h)
  below_first (Other s ∷ frames) m ways all h = below_first frames m (ways ++ ways_at w h.0) all h.1
  below_first (Fails s ∷ frames) m ways all h = below_first frames m ways all h.2

  below_others : (ss : List NfaConfig) (rs : Positions w ss) (frames : List Frame) (ways all : List MatchState) →
      Below frames (ways ++ ways_from w ss rs) all → Below (others ss ++ frames) ways all
  below_others [] rs frames ways all h = subst (λ l. Below frames l all) (append-nil ways) h
  below_others (s ∷ ss) rs frames ways all h = (
    rs.0,
    below_others ss rs.1 frames (ways ++ ways_at w rs.0) all
        (subst (λ l. Below frames l all) (sym (append_assoc ways (ways_at w rs.0) (ways_from w ss rs.1))) h),
  )

  module _ (facts : StepFacts w) (pairs : PairFacts w) where
    keeps_by : (all : List MatchState) {s : NfaConfig} (p : Position w s) (l : StepResult) (found : Search) → Step w p l →
        IsSound found.failed → Below found.frames (ways_at w p) all → Keeps all (next_by l (slice_get w.states s.at) s found)
    keeps_by all {s} p Found found h sound below =
        let under = subst (λ l. Below found.frames l all) h.0 below in
        let first = below_first found.frames p.state [] all under in
        let same : seen_of s ≡ seen p.state = ap₂ (λ i c. (i, c)) (p.is_config).place (p.is_config).spans in
        subst (λ f. Keeps all (Ends (Some s) f)) (visited_is w s found)
        (sound, (p.state, first.0, first.1, same))
    keeps_by all {s} p Lost found h sound below =
        subst (λ f. Keeps all (TakesBack f)) (visited_is w s found)
        (sound, subst (λ l. Below found.frames l all) h.0 below)
    keeps_by all {s} p (Goes t) found h sound below =
        subst (λ f. Keeps all (TakesUp t f)) (visited_is w s found)
        (h.0, sound, subst (λ l. Below found.frames l all) (sym h.2) below)
    keeps_by all {s} p (Tries false t ts) found h sound below =
        subst (λ f. Keeps all (TakesUp t (with_frames (others ts) f))) (visited_is w s found)
        (h.0.0, sound, below_others ts h.0.1 found.frames (ways_at w h.0.0) all (subst (λ l. Below found.frames l all) (sym h.2) below))
    keeps_by all {s} p (Tries true t ts) found h sound below = go (found.failed (pair_of s)) refl
      where
        go : (b : Bool) → found.failed (pair_of s) ≡ b → Keeps all (if b then TakesBack found
            else TakesUp t (with_frames (others ts ++ (Fails s ∷ [])) (visited (slice_get w.states s.at) found)))
        go true e = (sound, subst (λ l. Below found.frames l all) (sound (pair_of s) e s p refl) below)
        go false e =
            subst (λ f. Keeps all (TakesUp t f)) (tried_is w s ts found) (
              h.0.0,
              sound,
              below_others ts h.0.1 (Fails s ∷ found.frames) (ways_at w h.0.0) all
                  (p, h.2, subst (λ l. Below found.frames l all) (sym h.2) below),
            )

    keeps_back : (all : List MatchState) (frames : List Frame) (found : Search) → IsSound found.failed → Below frames [] all →
        Keeps all (back_to frames found)
    keeps_back all [] found sound below = (sound, sym below)
    keeps_back all (Other s ∷ frames) found sound below = (below.0, sound, below.1)
    keeps_back all (Fails s ∷ frames) found sound below = ((λ y e. sound_with y (same_pair (pair_of s) y) refl e), below.2)
      where
        no_way : NoWay (pair_of s)
        no_way u r same = pairs.same_ways s u below.0 r same (sym below.1)

        sound_with : (y : Pair) (b : Bool) → same_pair (pair_of s) y ≡ b → (b || found.failed y) ≡ true → NoWay y
        sound_with y true e h = subst NoWay (pairs.same_pairs (pair_of s) y e) no_way
        sound_with y false e h = sound y h

    keeps_next : (all : List MatchState) (n : Next) → Keeps all n → Keeps all (next_of w n)
    keeps_next all (TakesUp s found) h = keeps_by all h.0 (step_result_of w s) found (step w facts h.0) h.1 h.2
    keeps_next all (TakesBack found) h = keeps_back all found.frames found h.0 h.1
    keeps_next all (Ends s found) h = h

    pub keeps : (all : List MatchState) (k : ℕ) (n : Next) → Keeps all n → Keeps all (after w k n)
    keeps all zero n h = h
    keeps all (suc k) n h = keeps all k (next_of w n) (keeps_next all n h)

    -- a search that is broken off leaves a sound failed set too
    pub still_memoized : (all : List MatchState) (n : Next) → Keeps all n → IsSound (search_in n).failed
    still_memoized all (TakesUp s found) h = h.1
    still_memoized all (TakesBack found) h = h.0
    still_memoized all (Ends s found) h = h.0
