-- How the search of the code stands for the search of the definition.
use Rattle.std.specs.Prelude.{◌≡◌, ℕ, map, slice_get, Option, Some, None, Result, Ok, Err}
use Rattle.fancy_nfa_laws.specs.NfaSearch as plain
use Rattle.fancy_nfa_laws.specs.NfaSearch.{Search, Next, TakesUp, TakesBack, Ends, after_steps}
use Rattle.fancy_nfa_laws.specs.FirstWays.{search_in}
use Rattle.std.specs.declared.alloc.AllocError.{AllocError}
use Rattle.fancy_expr.specs.declared.error.Error.{Error}
use Rattle.fancy_expr.specs.declared.error.Error.TheVariants as error
use Rattle.fancy_backtrack.specs.declared.trail.NfaConfig.{NfaConfig}
use Rattle.fancy_backtrack.specs.declared.memo.StepResult.{StepResult}
use Rattle.fancy_backtrack.specs.declared.memo.StepResult.TheVariants as step_result
use Rattle.fancy_backtrack.specs.declared.memo.Memo.{Memo}
use Rattle.fancy_backtrack.specs.Memos.{HaveFailed, IsHere, IsSearch, Continuation}
use Rattle.fancy_nfa.specs.declared.search.Searcher.{Searcher}
use Rattle.fancy_nfa.specs.declared.nfa_state.NfaState.{NfaState}
use Rattle.fancy_nfa.specs.Views.{state_of, IsStateReadBy}

abbrev pub IsMemory : Error → Type 0
IsMemory error.Memory = Unit {0}
IsMemory (error.RuntimeError l) = ⊥
IsMemory (error.CompileError e) = ⊥
IsMemory (error.TreeFault at) = ⊥
IsMemory error.NestLimitExceeded = ⊥

-- ---- a fragment's states in a text

abbrev pub continuation_of : Searcher → Continuation
continuation_of t = plain.step_result (t.text).now t.unicode (map state_of (t.states).now)

abbrev pub next_of : Searcher → Next → Next
next_of t = plain.next (t.text).now t.unicode (map state_of (t.states).now)

abbrev pub after_steps_of : Searcher → ℕ → Next → Next
after_steps_of t = after_steps (t.text).now t.unicode (map state_of (t.states).now)

-- its classes are read by its option
abbrev pub IsSearcher : Searcher → Type 0
IsSearcher t = (i : ℕ) (p : NfaState) → slice_get (t.states).now i ≡ Some p → IsStateReadBy t.unicode p

-- what is tried later answered this, after some steps from `next`
abbrev pub GoesBack : Searcher → Next → Result StepResult AllocError → Memo → Type 0
GoesBack searcher next (Ok (step_result.Found there)) m = ⊥
GoesBack searcher next (Ok step_result.Lost) m =
    (steps : ℕ) × ((f : Search) ×
    ((after_steps_of searcher steps next ≡ Ends None f) × IsSearch (continuation_of searcher) m f))
GoesBack searcher next (Ok (step_result.Goes there)) m =
    (steps : ℕ) × ((f : Search) × ((t : plain.NfaConfig) × ((after_steps_of searcher steps next ≡ TakesUp t f)
    × IsSearch (continuation_of searcher) m f × IsHere m there t)))
GoesBack searcher next (Err e) m =
    (steps : ℕ) × HaveFailed m (search_in (after_steps_of searcher steps next)).failed

-- a search that is to go on by `next` came to its end or to this configuration, after some steps
abbrev pub Advances : Searcher → Next → Result StepResult AllocError → Memo → Type 0
Advances searcher next (Ok (step_result.Found there)) m =
    (steps : ℕ) × ((f : Search) × ((s : plain.NfaConfig) × ((after_steps_of searcher steps next ≡ Ends (Some s) f)
    × IsSearch (continuation_of searcher) m f × IsHere m there s)))
Advances searcher next (Ok step_result.Lost) m = GoesBack searcher next (Ok step_result.Lost) m
Advances searcher next (Ok (step_result.Goes there)) m = GoesBack searcher next (Ok (step_result.Goes there)) m
Advances searcher next (Err e) m = GoesBack searcher next (Err e) m

-- as `Advances`, but where nothing leads on what is tried later is still to be taken back
abbrev pub ComesTo : Searcher → Next → Result StepResult AllocError → Memo → Type 0
ComesTo searcher next (Ok (step_result.Found there)) m = Advances searcher next (Ok (step_result.Found there)) m
ComesTo searcher next (Ok step_result.Lost) m =
    (steps : ℕ) × ((f : Search) ×
    ((after_steps_of searcher steps next ≡ TakesBack f) × IsSearch (continuation_of searcher) m f))
ComesTo searcher next (Ok (step_result.Goes there)) m = GoesBack searcher next (Ok (step_result.Goes there)) m
ComesTo searcher next (Err e) m = GoesBack searcher next (Err e) m

-- a search that is to go on by `next` ended so, after some steps
abbrev pub EndsAs : Searcher → Next → Result (Option NfaConfig) AllocError → Memo → Type 0
EndsAs searcher next (Ok (Some there)) m =
    (steps : ℕ) × ((f : Search) × ((t : plain.NfaConfig) × ((after_steps_of searcher steps next ≡ Ends (Some t) f)
    × IsSearch (continuation_of searcher) m f × IsHere m there t)))
EndsAs searcher next (Ok None) m =
    (steps : ℕ) × ((f : Search) ×
    ((after_steps_of searcher steps next ≡ Ends None f) × IsSearch (continuation_of searcher) m f))
EndsAs searcher next (Err e) m =
    (steps : ℕ) × HaveFailed m (search_in (after_steps_of searcher steps next)).failed
