use Rattle.std.proofs.Common.{◌≡◌, ◌≤◌, ◌∷◌, [], ℕ, suc, List, Some, None, slice_get, arith, ap, sym, subst, ◌∙◌}
use Rattle.std.proofs.lemmas.Option.{gets}
use Rattle.fancy_nfa_laws.specs.NfaSearch as plain
use Rattle.fancy_backtrack.specs.Paths.{HasCounters, IsCounter, EndsCounters}
use Rattle.fancy_backtrack.specs.declared.trail.Entry.{Entry}
use Rattle.fancy_backtrack.specs.declared.trail.Entry.TheVariants as entry
use Rattle.fancy_backtrack.specs.declared.trail.LoopCounter.{LoopCounter}
use Rattle.fancy_backtrack.proofs.trail.Trail.counter.Goals as goal

module _ (entries : List Entry) (link k : ℕ) (is_next : link ≡ suc k) where
  -- where no entry stands the link leads to no iteration
  ends_none : (counters : List plain.LoopCounter) → slice_get entries k ≡ None → HasCounters entries link counters → EndsCounters entries link counters None
  ends_none [] none h = tt
  ends_none (t ∷ ts) none (n, (outer, (e, is, rest))) =
      let same : n ≡ k = omega (arith, e, is_next) in
      subst (λ o. IsCounter o n outer t) (ap (slice_get entries) same ∙ none) is

  -- and where an iteration's does it leads to that
  ends_there : (counters : List plain.LoopCounter) (to : ℕ) (counter : LoopCounter) → slice_get entries k ≡ Some (entry.LoopCounter to counter) →
      HasCounters entries link counters → EndsCounters entries link counters (Some (counter, to))
  ends_there [] to counter there h = absurd (omega (arith, is_next, h))
  ends_there (t ∷ ts) to counter there (n, (outer, (e, is, rest))) =
      let same : n ≡ k = omega (arith, e, is_next) in
      let found : IsCounter (Some (entry.LoopCounter to counter)) n outer t = subst (λ o. IsCounter o n outer t) (ap (slice_get entries) same ∙ there) is in
      (found.2, omega (arith, found.0, found.1, e), subst (λ o. HasCounters entries o ts) (sym found.0) rest)

  -- no link leads further than it is
  ends_before : (counters : List plain.LoopCounter) (to : ℕ) (counter : LoopCounter) → slice_get entries k ≡ Some (entry.LoopCounter to counter) → link ≤ to →
      HasCounters entries link counters → EndsCounters entries link counters None
  ends_before [] to counter there far h = tt
  ends_before (t ∷ ts) to counter there far (n, (outer, (e, is, rest))) =
      let same : n ≡ k = omega (arith, e, is_next) in
      let found : IsCounter (Some (entry.LoopCounter to counter)) n outer t = subst (λ o. IsCounter o n outer t) (ap (slice_get entries) same ∙ there) is in
      omega (arith, found.0, found.1, e, far)

pub returns-in_err-outer-clause-counters : goal.returns-in_err-outer-clause-counters
returns-in_err-outer-clause-counters c = λ counters h.
    rw c.from_residual-in_err-outer.ensures
    (ends_none c.args.self.now.entries.items c.args.link c.in_ok-checked_sub.field-0 (grind arith) counters (grind (arith, gets)) h)

pub returns-in-LoopCounter-clause-counters : goal.returns-in-LoopCounter-clause-counters
returns-in-LoopCounter-clause-counters c = λ counters h.
    ends_there c.args.self.now.entries.items c.args.link c.in_ok-checked_sub.field-0 (grind arith) counters c.in-LoopCounter.outer c.in-LoopCounter.counter
    (grind (arith, gets)) h

pub returns-in_default-clause-counters : goal.returns-in_default-clause-counters
returns-in_default-clause-counters c = λ counters h.
    ends_before c.args.self.now.entries.items c.args.link c.in_ok-checked_sub.field-0 (grind arith) counters c.in-LoopCounter.outer c.in-LoopCounter.counter
    (grind (arith, gets)) (omega arith) h
