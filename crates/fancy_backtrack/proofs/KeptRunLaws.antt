-- The choices at many iterations of a loop, and pairs that may have a way.
use Rattle.std.proofs.Common.{◌≡◌, ◌<◌, ◌+◌, ◌-◌, ◌*◌, ◌++◌, ℕ, zero, suc, Bool, true, false, List, [], ◌∷◌, Some, length, refl, sym, ap, ◌∙◌, subst, arith}
use Rattle.fancy_nfa_laws.specs.NfaSearch as plain
use Rattle.fancy_nfa_laws.specs.NfaSearch.{Frame, Search, TakesUp, goes_to, pair_of, passes}
use Rattle.fancy_backtrack.specs.declared.backtrack_stack.StackFrame.{StackFrame}
use Rattle.fancy_backtrack.specs.declared.trail.Entry.{Entry}
use Rattle.fancy_backtrack.specs.declared.trail.Trail.{Trail}
use Rattle.fancy_backtrack.specs.declared.trail.NfaConfig.{NfaConfig}
use Rattle.fancy_backtrack.specs.declared.trail.LoopCounter.{LoopCounter}
use Rattle.fancy_backtrack.specs.declared.memo.Memo.{Memo}
use Rattle.fancy_backtrack.specs.BacktrackStack.{choices_of, run_choices}
use Rattle.fancy_backtrack.specs.Paths.{EndsCounters, HasCounters, IsConfig, counter_of}
use Rattle.fancy_backtrack.specs.Memos.{IsLoopSplitOf, onward, run_frames, run_search, AreKept, HaveFailed, IsHere, IsSearch, Continuation, saturated}
use Rattle.fancy_backtrack.specs.PairKeys.{key_of}
use Rattle.fancy_backtrack.specs.FailedPairs.{has_pair}
use Rattle.fancy_backtrack.proofs.MemoLaws.{inside, key_outside}

-- ---- what is kept

pub onward_configs : (entries : List Entry) (path : ℕ) (here : NfaConfig) (s : plain.NfaConfig) (place n : ℕ) → place ≡ s.place + n →
    IsConfig entries path here s → IsConfig entries path (record here { place = place }) (onward n s)
onward_configs entries path here s place n e h = record {
  at = h.at;
  place = e;
  counters_link = h.counters_link;
  opened_link = h.opened_link;
  counters = h.counters;
  opened = h.opened;
  spans = h.spans;
}

module _ (continuation : Continuation) (entries : List Entry) (here : NfaConfig) (s : plain.NfaConfig) (first : ℕ) (out : plain.NfaConfig → plain.NfaConfig)
    (loop_splits : IsLoopSplitOf continuation first out s) (stands : IsConfig entries (length entries) here s) (cs : List StackFrame) (frames : List Frame)
    (kept : AreKept continuation entries (length entries) cs frames) where
  abbrev choice_at : ℕ → StackFrame
  choice_at place = record { config = record here { place = place }; path = length entries; is_untried = true }

  pub run_kept : (n place : ℕ) → place ≡ s.place + n →
      AreKept continuation entries (length entries) (run_choices n (choice_at place) ++ cs) (run_frames out (suc n) s frames)
  run_kept zero place e = (
    omega arith,
    (
      onward 0 s,
      (
        frames,
        (
          onward_configs entries (length entries) here s place 0 e stands,
          (true, (goes_to first (onward 0 s), (out (onward 0 s), (loop_splits 0, refl)))),
          kept,
        ),
      ),
    ),
  )
  run_kept (suc n) place e = (
    omega arith,
    (
      onward (suc n) s,
      (
        run_frames out (suc n) s frames,
        (
          onward_configs entries (length entries) here s place (suc n) e stands,
          (true, (goes_to first (onward (suc n) s), (out (onward (suc n) s), (loop_splits (suc n), refl)))),
          run_kept n (place - 1) (omega (arith, e)),
        ),
      ),
    ),
  )

-- the memo behind a run
pub run_stands : (continuation : Continuation) (m new : Memo) (here on : NfaConfig) (s : plain.NfaConfig) (f : Search) (first : ℕ)
    (out : plain.NfaConfig → plain.NfaConfig) (count place : ℕ) →
    0 < count → place ≡ here.place + count - 1 → on ≡ record here { place = here.place + count } →
    choices_of new.frames
    ≡ run_choices (count - 1) (record { config = record here { place = place }; path = length m.trail.entries.items; is_untried = true })
    ++ choices_of m.frames →
    new ≡ record m { frames = new.frames; visits = new.visits } → new.visits ≡ saturated (m.visits + 2 * count) →
    IsSearch continuation m f → IsHere m here s → IsLoopSplitOf continuation first out s →
    IsSearch continuation new (run_search out count s f) × IsHere new on (onward count s)
run_stands continuation m new here on s f first out zero place some at to items rest visits h stands loop_splits = absurd (omega (arith, some))
run_stands continuation m new here on s f first out (suc n) place some at to items rest visits h stands loop_splits =
    let es = m.trail.entries.items in
    let trail : new.trail ≡ m.trail = ap (λ (x : Memo). x.trail) rest in
    let same : new.failed ≡ m.failed = ap (λ (x : Memo). x.failed) rest in
    let kept = run_kept continuation es here s first out loop_splits stands (choices_of m.frames) f.frames h.frames n place
    (let p = stands.place in omega (arith, at, p)) in
    let count : suc n - 1 ≡ n = omega arith in (
      record {
        frames =
            subst (λ cs. AreKept continuation new.trail.entries.items (length new.trail.entries.items) cs (run_frames out (suc n) s f.frames)) (sym items)
            (subst (λ k. AreKept continuation new.trail.entries.items (length new.trail.entries.items)
            (run_choices k (record { config = record here { place = place }; path = length es; is_untried = true }) ++ choices_of m.frames)
            (run_frames out (suc n) s f.frames)) (sym count)
            (subst (λ (l : Trail). AreKept continuation l.entries.items (length l.entries.items)
            (run_choices n (record { config = record here { place = place }; path = length es; is_untried = true }) ++ choices_of m.frames)
            (run_frames out (suc n) s f.frames)) (sym trail) kept));
        failed = λ p. ap (λ x. has_pair x (key_of p)) same ∙ h.failed p;
        visits = let v = h.visits in omega (arith, v, visits);
      },
      subst (λ x. IsHere new x (onward (suc n) s)) (sym to)
          (subst (λ (l : Trail). IsConfig l.entries.items (length l.entries.items)
          (record here { place = here.place + suc n }) (onward (suc n) s)) (sym trail)
          (onward_configs es (length es) here s (here.place + suc n) (suc n) (ap (λ i. i + suc n) stands.place) stands)),
    )

-- ---- a pair that may have a way

pub free_outside : (m : Memo) (here : NfaConfig) → here.counters ≡ 0 → has_pair m.failed (here.at ∷ here.place ∷ []) ≡ false →
    (s : plain.NfaConfig) (failed : plain.Pair → Bool) → IsHere m here s → HaveFailed m failed → failed (pair_of s) ≡ false
free_outside m here none free s failed stands have =
    sym (have (pair_of s)) ∙ ap (has_pair m.failed) (sym (key_outside m here s stands none)) ∙ free

-- so it is inside one iteration
pub free_inside : (m : Memo) (here : NfaConfig) (counter : LoopCounter) (outer : ℕ) (numbers : List ℕ) → outer ≡ 0 →
    ((s : plain.NfaConfig) → here.at ≡ s.at → here.place ≡ s.place → counter_of counter ∷ [] ≡ s.counters → numbers ≡ key_of (pair_of s)) →
    ((counters : List plain.LoopCounter) → HasCounters m.trail.entries.items here.counters counters →
    EndsCounters m.trail.entries.items here.counters counters (Some (counter, outer))) →
    has_pair m.failed numbers ≡ false →
    (s : plain.NfaConfig) (failed : plain.Pair → Bool) → IsHere m here s → HaveFailed m failed → failed (pair_of s) ≡ false
free_inside m here counter outer numbers none are ends free s failed stands have =
    sym (have (pair_of s))
    ∙ ap (has_pair m.failed) (sym (are s stands.at stands.place (inside m here counter outer s none stands (ends s.counters stands.counters)))) ∙ free
