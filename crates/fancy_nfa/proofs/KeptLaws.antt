-- What holds of each configuration that a search comes to: where it never holds of one at the end, no way is found.
use Rattle.std.proofs.Common.{◌≡◌, ◌+◌, ◌∷◌, ◌++◌, [], ℕ, zero, suc, Bool, true, false, List, Option, Some, None, if◌then◌else◌, slice_get, refl, sym, subst}
use Rattle.fancy_nfa_laws.specs.NfaStates.{NfaState}
use Rattle.fancy_nfa_laws.specs.NfaSearch.{StepResult, Found, Lost, Goes, Tries, Frame, Other, Fails, Next, TakesUp, TakesBack, Ends, Pair, Search, NfaConfig, after_steps, back_to, first_search, first_config, is_counted, step_result, next, next_by, others, pair_of, tries, visited, with_frames}
use Rattle.fancy_nfa_laws.specs.FirstWays.{searched}

module _ (P : NfaConfig → Type 0) where
  abbrev pub AllKeep : List NfaConfig → Type 0
  AllKeep [] = Unit {0}
  AllKeep (s ∷ ss) = P s × AllKeep ss

  abbrev FramesKeep : List Frame → Type 0
  FramesKeep [] = Unit {0}
  FramesKeep (Other s ∷ frames) = P s × FramesKeep frames
  FramesKeep (Fails s ∷ frames) = FramesKeep frames

  -- it is not the end, and leads to configurations alone of which it holds
  abbrev pub StepKeeps : StepResult → Type 0
  StepKeeps Found = ⊥
  StepKeeps Lost = Unit {0}
  StepKeeps (Goes t) = P t
  StepKeeps (Tries is_memoized t ts) = P t × AllKeep ts

  abbrev NextKeeps : Next → Type 0
  NextKeeps (TakesUp s f) = P s × FramesKeep f.frames
  NextKeeps (TakesBack f) = FramesKeep f.frames
  NextKeeps (Ends None f) = Unit {0}
  NextKeeps (Ends (Some s) f) = ⊥

  visited_frames : (o : Option NfaState) (f : Search) → (visited o f).frames ≡ f.frames
  visited_frames o f = go (is_counted o)
    where
      go : (b : Bool) → (let g : Search = if b then record f { visits = f.visits + 1 } else f in g.frames) ≡ f.frames
      go true = refl
      go false = refl

  visited_keeps : (o : Option NfaState) (f : Search) → FramesKeep f.frames → FramesKeep (visited o f).frames
  visited_keeps o f h = subst FramesKeep (sym (visited_frames o f)) h

  others_keep : (ts : List NfaConfig) (frames : List Frame) → AllKeep ts → FramesKeep frames → FramesKeep (others ts ++ frames)
  others_keep [] frames h l = l
  others_keep (t ∷ ts) frames h l = (h.0, others_keep ts frames h.1 l)

  memoized_keeps : (ts : List NfaConfig) (s : NfaConfig) (frames : List Frame) → AllKeep ts → FramesKeep frames →
      FramesKeep ((others ts ++ (Fails s ∷ [])) ++ frames)
  memoized_keeps [] s frames h l = l
  memoized_keeps (t ∷ ts) s frames h l = (h.0, memoized_keeps ts s frames h.1 l)

  tries_keeps : (is_memoized : Bool) (s t : NfaConfig) (ts : List NfaConfig) (o : Option NfaState) (f : Search) →
      P t → AllKeep ts → FramesKeep f.frames → NextKeeps (tries is_memoized s t ts o f)
  tries_keeps false s t ts o f h hs l = (h, others_keep ts (visited o f).frames hs (visited_keeps o f l))
  tries_keeps true s t ts o f h hs l = go (f.failed (pair_of s))
    where
      go : (b : Bool) →
          NextKeeps (if b then TakesBack f else TakesUp t (with_frames (others ts ++ (Fails s ∷ [])) (visited o f)))
      go true = l
      go false = (h, memoized_keeps ts s (visited o f).frames hs (visited_keeps o f l))

  by_step : (step_result : StepResult) (o : Option NfaState) (s : NfaConfig) (f : Search) → StepKeeps step_result → FramesKeep f.frames →
      NextKeeps (next_by step_result o s f)
  by_step Found o s f h l = absurd h
  by_step Lost o s f h l = visited_keeps o f l
  by_step (Goes t) o s f h l = (h, visited_keeps o f l)
  by_step (Tries is_memoized t ts) o s f h l = tries_keeps is_memoized s t ts o f h.0 h.1 l

  back_keeps : (frames : List Frame) (f : Search) → FramesKeep frames → NextKeeps (back_to frames f)
  back_keeps [] f l = tt
  back_keeps (Other s ∷ frames) f l = l
  back_keeps (Fails s ∷ frames) f l = l

  module _ (text : List ℕ) (unicode : Bool) (states : List NfaState) (leads : (s : NfaConfig) → P s → StepKeeps (step_result text unicode states s)) where
    step_keeps : (n : Next) → NextKeeps n → NextKeeps (next text unicode states n)
    step_keeps (TakesUp s f) (h, l) = by_step (step_result text unicode states s) (slice_get states s.at) s f (leads s h) l
    step_keeps (TakesBack f) l = back_keeps f.frames f l
    step_keeps (Ends None f) h = tt
    step_keeps (Ends (Some s) f) h = absurd h

    steps_keep : (k : ℕ) (n : Next) → NextKeeps n → NextKeeps (after_steps text unicode states k n)
    steps_keep zero n h = h
    steps_keep (suc k) n h = steps_keep k (next text unicode states n) (step_keeps n h)

    none_kept : (way : Option NfaConfig) (f : Search) → NextKeeps (Ends way f) → way ≡ None
    none_kept None f h = refl
    none_kept (Some s) f h = absurd h

    -- no way is found from a configuration of which it holds
    pub finds_none : (place : ℕ) → P (first_config place) → (failed : Pair → Bool) (steps : ℕ) (way : Option NfaConfig) (found : Search) →
        searched text unicode states failed place steps ≡ Ends way found → way ≡ None
    finds_none place begins failed steps way found ends =
        none_kept way found (subst NextKeeps ends (steps_keep steps (TakesUp (first_config place) (first_search failed)) (begins, tt)))
