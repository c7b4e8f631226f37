-- A search comes to its end: each configuration leads to lower ones alone.
use Rattle.std.proofs.Common.{◌≡◌, ℕ, zero, suc, ◌+◌, Bool, true, false, if◌then◌else◌, List, [], ◌∷◌, ◌++◌, Option, Some, None, slice_get, refl, sym, subst, ap}
use Rattle.fancy_nfa_laws.specs.NfaSearch.{NfaConfig, StepResult, Found, Lost, Goes, Tries, Frame, Fails, Search, Next, TakesUp, TakesBack, Ends, pair_of, visited, others, with_frames, next_by, back_to}
use Rattle.fancy_nfa_laws.proofs.Positions.{Ground, Position, Positions, AllLower, IsLower, count_at, step_result_of, next_of, after, StepFacts, Step, step, visited_is, tried_is}
use Rattle.fancy_nfa_laws.proofs.Descent.{at_each}

module _ (w : Ground) where
  -- a way was found, or the search is back at this stack
  abbrev IsBack : List Frame → Next → Type 0
  IsBack frames (TakesUp s found) = ⊥
  IsBack frames (TakesBack found) = found.frames ≡ frames
  IsBack frames (Ends None found) = ⊥
  IsBack frames (Ends (Some s) found) = Unit {0}

  abbrev GetsBack : List Frame → Next → Type 0
  GetsBack frames n = (k : ℕ) × IsBack frames (after w k n)

  one_more : (frames : List Frame) (n : Next) → GetsBack frames (next_of w n) → GetsBack frames n
  one_more frames n h = (suc h.0, h.1)

  and_then : (first frames : List Frame) (n : Next) → GetsBack first n →
      ((found : Search) → found.frames ≡ first → GetsBack frames (TakesBack found)) → GetsBack frames n
  and_then first frames n h on = go h.0 n h.1
    where
      go : (k : ℕ) (n : Next) → IsBack first (after w k n) → GetsBack frames n
      go zero (TakesUp s found) h = absurd h
      go zero (TakesBack found) h = on found h
      go zero (Ends None found) h = absurd h
      go zero (Ends (Some s) found) h = (0, tt)
      go (suc k) n h = one_more frames n (go k (next_of w n) h)

  abbrev ComesBack : NfaConfig → Type 0
  ComesBack s = (found : Search) → GetsBack found.frames (TakesUp s found)

  abbrev AllComeBack : List NfaConfig → Type 0
  AllComeBack [] = Unit {0}
  AllComeBack (s ∷ ss) = ComesBack s × AllComeBack ss

  -- through all that is tried later
  through : (ss : List NfaConfig) (more : List Frame) (found : Search) → AllComeBack ss → found.frames ≡ others ss ++ more →
      GetsBack more (TakesBack found)
  through [] more found h e = (0, e)
  through (s ∷ ss) more found h e =
      one_more more (TakesBack found)
      (subst (λ l. GetsBack more (back_to l found)) (sym e)
      (let here : Search = record found { frames = others ss ++ more } in
      and_then here.frames more (TakesUp s here) (h.0 here)
      (λ back e'. through ss more back h.1 e')))

  fees_pair : (s : NfaConfig) (more : List Frame) (found : Search) → found.frames ≡ Fails s ∷ more → GetsBack more (TakesBack found)
  fees_pair s more found e =
      one_more more (TakesBack found) (subst (λ l. GetsBack more (back_to l found)) (sym e) (0, refl))

  all_come_back : {s : NfaConfig} (p : Position w s) (ss : List NfaConfig) (rs : Positions w ss) → AllLower w ss rs p →
      ((t : NfaConfig) (r : Position w t) → IsLower w r p → ComesBack t) → AllComeBack ss
  all_come_back p [] rs h below = tt
  all_come_back p (s ∷ ss) rs h below = (below s rs.0 h.0, all_come_back p ss rs.1 h.1 below)

  by_step : {s : NfaConfig} (p : Position w s) (l : StepResult) (found : Search) → Step w p l →
      ((t : NfaConfig) (r : Position w t) → IsLower w r p → ComesBack t) →
      GetsBack found.frames (next_by l (slice_get w.states s.at) s found)
  by_step p Found found h below = (0, tt)
  by_step {s} p Lost found h below = (0, ap (λ f. f.frames) (sym (visited_is w s found)))
  by_step {s} p (Goes t) found h below =
      subst (λ f. GetsBack found.frames (TakesUp t f)) (visited_is w s found)
      (below t h.0 h.1 (record found { visits = found.visits + count_at w s }))
  by_step {s} p (Tries false t ts) found h below =
      let now : Search = record found { frames = others ts ++ found.frames; visits = found.visits + count_at w s } in
      let all = all_come_back p (t ∷ ts) h.0 h.1 below in
      subst (λ f. GetsBack found.frames (TakesUp t (with_frames (others ts) f))) (visited_is w s found)
      (and_then now.frames found.frames (TakesUp t now) (all.0 now) (λ back e. through ts found.frames back all.1 e))
  by_step {s} p (Tries true t ts) found h below = go (found.failed (pair_of s))
    where
      more : List Frame
      more = Fails s ∷ found.frames

      now : Search
      now = record found { frames = others ts ++ more; visits = found.visits + count_at w s }

      all : AllComeBack (t ∷ ts)
      all = all_come_back p (t ∷ ts) h.0 h.1 below

      go : (b : Bool) → GetsBack found.frames (if b then TakesBack found
          else TakesUp t (with_frames (others ts ++ (Fails s ∷ [])) (visited (slice_get w.states s.at) found)))
      go true = (0, refl)
      go false =
          subst (λ f. GetsBack found.frames (TakesUp t f)) (tried_is w s ts found)
          (and_then now.frames found.frames (TakesUp t now) (all.0 now)
          (λ back e. and_then more found.frames (TakesBack back) (through ts more back all.1 e)
          (λ last e'. fees_pair s found.frames last e')))

  module _ (facts : StepFacts w) where
    comes_back : (s : NfaConfig) (p : Position w s) → ComesBack s
    comes_back =
        at_each w (λ s p. ComesBack s)
        (λ s p below found. one_more found.frames (TakesUp s found) (by_step p (step_result_of w s) found (step w facts p) below))

    abbrev pub Stops : Next → Type 0
    Stops n = (k : ℕ) × (way : Option NfaConfig) × (found : Search) × (after w k n ≡ Ends way found)

    stops_back : (k : ℕ) (n : Next) → IsBack [] (after w k n) → Stops n
    stops_back zero (TakesUp s found) h = absurd h
    stops_back zero (TakesBack found) h = (1, None, found, ap (λ l. back_to l found) h)
    stops_back zero (Ends None found) h = absurd h
    stops_back zero (Ends (Some s) found) h = (0, Some s, found, refl)
    stops_back (suc k) n h = let rest = stops_back k (next_of w n) h in (suc rest.0, rest.1, rest.2, rest.3)

    pub stops : (s : NfaConfig) (p : Position w s) (found : Search) → found.frames ≡ [] → Stops (TakesUp s found)
    stops s p found e =
        let back = comes_back s p found in
        stops_back back.0 (TakesUp s found) (subst (λ l. IsBack l (after w back.0 (TakesUp s found))) e back.1)
