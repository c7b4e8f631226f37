-- A step of the search, by the state that is there.
use Rattle.std.proofs.Common.{◌≡◌, ◌≤◌, ◌+◌, ◌∷◌, [], ℕ, List, Bool, true, false, Option, Some, None, Result, option_map, map, length, slice_get, refl, sym, ap, ◌∙◌, subst, arith, if◌then◌else◌}
use Rattle.fancy_nfa_laws.specs.NfaSearch as plain
use Rattle.std.proofs.lemmas.Option.{slice_get-map, slice_get_past}
use Rattle.fancy_backtrack.specs.Memos.{Simulates}
use Rattle.fancy_nfa.specs.Searches.{continuation_of, next_of}
use Rattle.fancy_nfa.specs.Views.{state_of}
use Rattle.fancy_nfa.specs.declared.nfa_state.NfaState.{NfaState}
use Rattle.fancy_nfa.specs.declared.nfa_state.NfaState.TheVariants as nfa_state
use Rattle.fancy_backtrack.specs.declared.loops.Loop as code
use Rattle.fancy_nfa.specs.declared.search.Searcher.{Searcher}
use Rattle.fancy_backtrack.specs.declared.trail.NfaConfig.{NfaConfig}
use Rattle.std.specs.declared.alloc.AllocError.{AllocError}
use Rattle.fancy_backtrack.specs.declared.memo.StepResult.{StepResult}
use Rattle.fancy_backtrack.specs.declared.memo.Memo.{Memo}

module _ (searcher : Searcher) (p : NfaState) (s : NfaConfig) (t : plain.NfaConfig) (at : s.at ≡ t.at)
    (there : slice_get (searcher.states).now s.at ≡ Some p) where
  pub plain_there : slice_get (map state_of (searcher.states).now) t.at ≡ Some (state_of p)
  plain_there = slice_get-map state_of (searcher.states).now t.at ∙ ap (option_map state_of) (ap (slice_get (searcher.states).now) (sym at) ∙ there)

  pub steps_by : continuation_of searcher t ≡ plain.step_by (searcher.text).now searcher.unicode (state_of p) t
  steps_by = ap (λ o. plain.step_at (searcher.text).now searcher.unicode o t) plain_there

  -- a step by this state
  pub next_there : (f : plain.Search) →
      next_of searcher (plain.TakesUp t f)
      ≡ plain.next_by (plain.step_by (searcher.text).now searcher.unicode (state_of p) t) (Some (state_of p)) t f
  next_there f = ap (λ o. plain.next_by (plain.step_at (searcher.text).now searcher.unicode o t) o t f) plain_there

-- only these states try another way on
module _ (text : List ℕ) (unicode : Bool) (s t u : plain.NfaConfig) (n : Bool) where
  abbrev TriesAnother : plain.StepResult → Type 0
  TriesAnother l = l ≡ plain.Tries n t (u ∷ [])

  past_tries_none : (o : Option ℕ) → ¬ TriesAnother (plain.goes_past s o)
  past_tries_none None e = cc
  past_tries_none (Some i) e = cc

  holds_tries_none : (b : Bool) → ¬ TriesAnother (if b then plain.Goes (plain.forward s) else plain.Lost)
  holds_tries_none true e = cc
  holds_tries_none false e = cc

  close_tries_none : (g : ℕ) (opened : List ℕ) → ¬ TriesAnother (plain.close_step g s opened)
  close_tries_none g [] e = cc
  close_tries_none g (i ∷ is) e = cc

  pub tries_another : (p : NfaState) →
      ((i j : ℕ) → ¬ (p ≡ nfa_state.Split i j)) → ((i j : ℕ) → ¬ (p ≡ nfa_state.BranchSplit i j)) →
      ((i j : ℕ) → ¬ (p ≡ nfa_state.LoopSplit i j)) → ((l : code.Loop) (i : ℕ) → ¬ (p ≡ nfa_state.CounterLoop l i)) →
      ¬ TriesAnother (plain.step_by text unicode (state_of p) s)
  tries_another nfa_state.Match a b c d e = cc
  tries_another (nfa_state.Character test) a b c d e = past_tries_none _ e
  tries_another (nfa_state.Holds x) a b c d e = holds_tries_none _ e
  tries_another nfa_state.Open a b c d e = cc
  tries_another (nfa_state.Close g) a b c d e = close_tries_none g s.opened e
  tries_another (nfa_state.Split i j) a b c d e = a i j refl
  tries_another (nfa_state.BranchSplit i j) a b c d e = b i j refl
  tries_another (nfa_state.LoopSplit i j) a b c d e = c i j refl
  tries_another (nfa_state.Jump to) a b c d e = cc
  tries_another nfa_state.Join a b c d e = cc
  tries_another nfa_state.CounterBegin a b c d e = cc
  tries_another (nfa_state.CounterLoop l i) a b c d e = d l i refl

-- a step from a configuration by the state that is there
module _ (searcher : Searcher) (p : NfaState) (here : NfaConfig) (s : plain.NfaConfig) (f : plain.Search) (at : here.at ≡ s.at)
    (there : slice_get (searcher.states).now here.at ≡ Some p) (result : Result StepResult AllocError) (m : Memo) where
  pub at_state : Simulates (continuation_of searcher) s f.failed
      (plain.next_by (plain.step_by (searcher.text).now searcher.unicode (state_of p) s) (Some (state_of p)) s f) result m →
      Simulates (continuation_of searcher) s f.failed (next_of searcher (plain.TakesUp s f)) result m
  at_state h = subst (λ n. Simulates (continuation_of searcher) s f.failed n result m) (sym (next_there searcher p here s at there f)) h

  pub at_step : Simulates (continuation_of searcher) s f.failed (plain.next_by (continuation_of searcher s) (Some (state_of p)) s f) result m →
      Simulates (continuation_of searcher) s f.failed (next_of searcher (plain.TakesUp s f)) result m
  at_step h =
      subst (λ o. Simulates (continuation_of searcher) s f.failed (plain.next_by (continuation_of searcher s) o s f) result m)
      (sym (plain_there searcher p here s at there)) h

-- past the last state there is none
none_there : (searcher : Searcher) (here : NfaConfig) (s : plain.NfaConfig) → here.at ≡ s.at → length (searcher.states).now ≤ here.at →
    slice_get (map state_of (searcher.states).now) s.at ≡ None
none_there searcher here s at le =
    slice_get-map state_of (searcher.states).now s.at
    ∙ ap (option_map state_of) (slice_get_past (searcher.states).now s.at (omega (arith, le, at)))

pub lost_past : (searcher : Searcher) (here : NfaConfig) (s : plain.NfaConfig) → here.at ≡ s.at → length (searcher.states).now ≤ here.at →
    continuation_of searcher s ≡ plain.Lost
lost_past searcher here s at le = ap (λ o. plain.step_at (searcher.text).now searcher.unicode o s) (none_there searcher here s at le)

pub nothing_there : (searcher : Searcher) (here : NfaConfig) (s : plain.NfaConfig) (f : plain.Search) → here.at ≡ s.at →
    length (searcher.states).now ≤ here.at →
    next_of searcher (plain.TakesUp s f) ≡ plain.TakesBack (record f { visits = f.visits + 1 })
nothing_there searcher here s f at le =
    ap (λ o. plain.next_by (plain.step_at (searcher.text).now searcher.unicode o s) o s f) (none_there searcher here s at le)
