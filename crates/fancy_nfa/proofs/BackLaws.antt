-- The way back to what is tried later.
use Rattle.std.proofs.Common.{◌≡◌, ◌≤◌, ◌+◌, ◌∷◌, [], ℕ, zero, suc, List, Some, None, Result, Ok, Err, length, take, refl, sym, ap, ◌∙◌, subst, arith}
use Rattle.std.proofs.lemmas.List.{length-take}
use Rattle.fancy_nfa_laws.specs.NfaSearch as plain
use Rattle.fancy_nfa_laws.specs.FirstWays.{search_in}
use Rattle.std.specs.declared.alloc.AllocError.{AllocError}
use Rattle.fancy_backtrack.specs.declared.trail.Entry.{Entry}
use Rattle.fancy_backtrack.specs.declared.trail.NfaConfig.{NfaConfig}
use Rattle.fancy_backtrack.specs.declared.backtrack_stack.StackFrame.{StackFrame}
use Rattle.fancy_backtrack.specs.declared.memo.StepResult.{StepResult}
use Rattle.fancy_backtrack.specs.declared.memo.StepResult.TheVariants as step_result
use Rattle.fancy_backtrack.specs.declared.memo.Memo.{Memo}
use Rattle.fancy_nfa.specs.declared.search.Searcher.{Searcher}
use Rattle.fancy_backtrack.specs.Paths.{IsConfig}
use Rattle.fancy_nfa.specs.Searches.{after_steps_of, continuation_of, next_of, Advances, ComesTo, EndsAs, GoesBack}
use Rattle.fancy_backtrack.specs.Memos.{AreKept, HaveFailed, IsHere, IsSearch, Keeps, Continuation, Simulates}
use Rattle.fancy_backtrack.specs.BacktrackStack.{choices_of}
use Rattle.fancy_nfa.specs.Runs.{GoesOn}
use Rattle.fancy_backtrack.proofs.PathLaws.{agree_cut, kept_agree, config_agrees}

-- some steps on it still goes back, and the memo stands for it
abbrev pub IsBack : Searcher → Memo → plain.Next → Type 0
IsBack searcher m next =
    (steps : ℕ) × ((f : plain.Search) ×
    ((after_steps_of searcher steps next ≡ plain.TakesBack f) × IsSearch (continuation_of searcher) m f))

-- one step more
pub one_more : (searcher : Searcher) (steps : ℕ) (n k : plain.Next) → after_steps_of searcher steps n ≡ k →
    after_steps_of searcher (suc steps) n ≡ next_of searcher k
one_more searcher zero n k e = ap (next_of searcher) e
one_more searcher (suc steps) n k e = one_more searcher steps (next_of searcher n) k e

-- the last choice that is kept
pub record IsLast (continuation : Continuation) (m : Memo) (c : StackFrame) (cs : List StackFrame) (f : plain.Search) : Type 0 where
  pub config : plain.NfaConfig
  pub rest : List plain.Frame
  pub within : c.path ≤ length m.trail.entries.items
  pub stands : IsConfig m.trail.entries.items c.path c.config config
  pub keeps : Keeps c.is_untried (continuation config) config rest f.frames
  pub kept : AreKept continuation m.trail.entries.items c.path cs rest

last_kept : (continuation : Continuation) (m : Memo) (c : StackFrame) (cs : List StackFrame) (f : plain.Search) → choices_of m.frames ≡ c ∷ cs →
    IsSearch continuation m f → IsLast continuation m c cs f
last_kept continuation m c cs f e h =
    let k = subst (λ l. AreKept continuation m.trail.entries.items (length m.trail.entries.items) l f.frames) e h.frames in
    record { within = k.0; config = k.1.0; rest = k.1.1.0; stands = k.1.1.1.0; keeps = k.1.1.1.1; kept = k.1.1.1.2 }

module _ (continuation : Continuation) (m cut : Memo) (c : StackFrame) (cs : List StackFrame) (f : plain.Search) (last : IsLast continuation m c cs f)
    (frames : choices_of cut.frames ≡ cs) (path : cut.trail.entries.items ≡ take c.path m.trail.entries.items)
    (failed : cut.failed ≡ m.failed) (visits : cut.visits ≡ m.visits) (h : IsSearch continuation m f) where
  abbrev es : List Entry
  es = m.trail.entries.items

  long : length cut.trail.entries.items ≡ c.path
  long = ap length path ∙ length-take c.path es ∙ (let w = last.within in omega (arith, w))

  -- the path is cut to where the choice stands
  here_cut : IsHere cut c.config last.config
  here_cut =
      subst (λ n. IsConfig cut.trail.entries.items n c.config last.config) (sym long)
      (subst (λ l. IsConfig l c.path c.config last.config) (sym path)
      (config_agrees es (take c.path es) c.path c.config last.config (agree_cut c.path c.path es (omega arith)) last.stands))

  search_cut : IsSearch continuation cut (record f { frames = last.rest })
  search_cut = record {
    frames =
        subst (λ l. AreKept continuation cut.trail.entries.items (length cut.trail.entries.items) l last.rest) (sym frames)
        (subst (λ n. AreKept continuation cut.trail.entries.items n cs last.rest) (sym long)
        (subst (λ l. AreKept continuation l c.path cs last.rest) (sym path)
        (kept_agree es (take c.path es) continuation c.path cs last.rest (agree_cut c.path c.path es (omega arith)) last.kept)));
    failed = λ p. ap (λ x. Rattle.fancy_backtrack.specs.FailedPairs.has_pair x (Rattle.fancy_backtrack.specs.PairKeys.key_of p)) failed ∙ h.failed p;
    visits = visits ∙ h.visits;
  }

-- the last choice is taken off what is kept, and the path is cut to where it stands
pub record Popped (continuation : Continuation) (cut : Memo) (c : StackFrame) (f : plain.Search) : Type 0 where
  pub config : plain.NfaConfig
  pub rest : List plain.Frame
  pub keeps : Keeps c.is_untried (continuation config) config rest f.frames
  pub search : IsSearch continuation cut (record f { frames = rest })
  pub here : IsHere cut c.config config

pub popped : (continuation : Continuation) (m cut : Memo) (c : StackFrame) (f : plain.Search) → choices_of m.frames ≡ c ∷ choices_of cut.frames →
    cut.trail.entries.items ≡ take c.path m.trail.entries.items → cut.failed ≡ m.failed → cut.visits ≡ m.visits →
    IsSearch continuation m f → Popped continuation cut c f
popped continuation m cut c f items path failed visits h =
    let cs = choices_of cut.frames in
    let last = last_kept continuation m c cs f items h in
    record {
      config = last.config;
      rest = last.rest;
      keeps = last.keeps;
      search = search_cut continuation m cut c cs f last refl path failed visits h;
      here = here_cut continuation m cut c cs f last refl path failed visits h;
    }

-- what the other way on answers is what going back answers
pub goes_back : (searcher : Searcher) (next : plain.Next) (steps : ℕ) (s other : plain.NfaConfig) (f g : plain.Search)
    (result : Result StepResult AllocError) (m : Memo) → after_steps_of searcher steps next ≡ plain.TakesBack f →
    next_of searcher (plain.TakesBack f) ≡ plain.TakesUp other g → g.failed ≡ f.failed →
    Simulates (continuation_of searcher) s f.failed (plain.TakesUp other g) result m → GoesBack searcher next result m
goes_back searcher next steps s other f g (Ok (step_result.Found there)) m e up same (x, (is, h, stands)) = absurd (no_end is)
  where
    no_end : plain.TakesUp other g ≡ plain.Ends (Some s) x → ⊥
    no_end is = cc
goes_back searcher next steps s other f g (Ok step_result.Lost) m e up same (x, (is, rest)) = absurd (no_back is)
  where
    no_back : plain.TakesUp other g ≡ plain.TakesBack x → ⊥
    no_back is = cc
goes_back searcher next steps s other f g (Ok (step_result.Goes there)) m e up same (x, (t, (is, h, stands))) =
    (suc steps, (x, (t, (one_more searcher steps next (plain.TakesBack f) e ∙ up ∙ is, h, stands))))
goes_back searcher next steps s other f g (Err error) m e up same failed = (
  suc steps,
  λ p.
      failed p ∙ sym (ap (λ v. v p) (ap (λ n. (search_in n).failed) (one_more searcher steps next (plain.TakesBack f) e ∙ up) ∙ same)),
)

-- a pair is memoized, and nothing else changes
pub search_memoized : (continuation : Continuation) (m new : Memo) (f : plain.Search) (p : plain.Pair) →
    new ≡ record m { numbers = new.numbers; failed = new.failed } → HaveFailed new (plain.with_failed p f).failed →
    IsSearch continuation m f → IsSearch continuation new (plain.with_failed p f)
search_memoized continuation m new f p same failed h = record {
  frames =
      subst (λ (n : Memo). AreKept continuation n.trail.entries.items (length n.trail.entries.items) (choices_of n.frames) f.frames) (sym same) h.frames;
  failed = failed;
  visits = ap (λ (n : Memo). n.visits) same ∙ h.visits;
}

-- the last choice was tried: its pair is memoized
pub back_memoized : (searcher : Searcher) (next : plain.Next) (steps : ℕ) (f : plain.Search) (s : plain.NfaConfig) (rest : List plain.Frame) →
    after_steps_of searcher steps next ≡ plain.TakesBack f → f.frames ≡ plain.Fails s ∷ rest →
    after_steps_of searcher (suc steps) next ≡ plain.TakesBack (plain.with_failed (plain.pair_of s) (record f { frames = rest }))
back_memoized searcher next steps f s rest e keeps =
    one_more searcher steps next (plain.TakesBack f) e ∙ ap (λ l. plain.back_to l f) keeps

pub none_kept : (continuation : Continuation) (entries : List Entry) (path : ℕ) (cs : List StackFrame) (frames : List plain.Frame) → cs ≡ [] →
    AreKept continuation entries path cs frames → frames ≡ []
none_kept continuation entries path cs frames e h = subst (λ l. AreKept continuation entries path l frames) e h

-- ---- from a step to the next

pub steps_then : (searcher : Searcher) (k j : ℕ) (n w : plain.Next) → after_steps_of searcher k n ≡ w →
    after_steps_of searcher (k + j) n ≡ after_steps_of searcher j w
steps_then searcher zero j n w e =
    let same : 0 + j ≡ j = omega arith in
    ap (λ i. after_steps_of searcher i n) same ∙ ap (after_steps_of searcher j) e
steps_then searcher (suc k) j n w e =
    let same : suc k + j ≡ suc (k + j) = omega arith in
    ap (λ i. after_steps_of searcher i n) same ∙ steps_then searcher k j (next_of searcher n) w e

-- one step alone
pub comes_by : (searcher : Searcher) (s : plain.NfaConfig) (f : plain.Search) (result : Result StepResult AllocError) (m : Memo) →
    Simulates (continuation_of searcher) s f.failed (next_of searcher (plain.TakesUp s f)) result m → ComesTo searcher (plain.TakesUp s f) result m
comes_by searcher s f (Ok (step_result.Found there)) m (g, (is, h, stands)) = (1, (g, (s, (is, h, stands))))
comes_by searcher s f (Ok step_result.Lost) m (g, (is, h)) = (1, (g, (is, h)))
comes_by searcher s f (Ok (step_result.Goes there)) m (g, (t, (is, h, stands))) = (1, (g, (t, (is, h, stands))))
comes_by searcher s f (Err error) m h = (0, h)

-- some steps, and more from there
pub comes_further : (searcher : Searcher) (k : ℕ) (n w : plain.Next) (result : Result StepResult AllocError) (m : Memo) → after_steps_of searcher k n ≡ w →
    ComesTo searcher w result m → ComesTo searcher n result m
comes_further searcher k n w (Ok (step_result.Found there)) m e (j, (f, (t, (is, h, stands)))) =
    (k + j, (f, (t, (steps_then searcher k j n w e ∙ is, h, stands))))
comes_further searcher k n w (Ok step_result.Lost) m e (j, (f, (is, h))) = (k + j, (f, (steps_then searcher k j n w e ∙ is, h)))
comes_further searcher k n w (Ok (step_result.Goes there)) m e (j, (f, (t, (is, h, stands)))) =
    (k + j, (f, (t, (steps_then searcher k j n w e ∙ is, h, stands))))
comes_further searcher k n w (Err error) m e (j, h) =
    (k + j, λ p. h p ∙ sym (ap (λ x. (search_in x).failed p) (steps_then searcher k j n w e)))

-- some steps, and a way back from there
pub comes_back : (searcher : Searcher) (k : ℕ) (n w : plain.Next) (result : Result StepResult AllocError) (m : Memo) → after_steps_of searcher k n ≡ w →
    GoesBack searcher w result m → Advances searcher n result m
comes_back searcher k n w (Ok (step_result.Found there)) m e h = absurd h
comes_back searcher k n w (Ok step_result.Lost) m e (j, (f, (is, h))) = (k + j, (f, (steps_then searcher k j n w e ∙ is, h)))
comes_back searcher k n w (Ok (step_result.Goes there)) m e (j, (f, (t, (is, h, stands)))) =
    (k + j, (f, (t, (steps_then searcher k j n w e ∙ is, h, stands))))
comes_back searcher k n w (Err error) m e (j, h) =
    (k + j, λ p. h p ∙ sym (ap (λ x. (search_in x).failed p) (steps_then searcher k j n w e)))

-- no way back is needed
pub comes_on : (searcher : Searcher) (n : plain.Next) (result : Result StepResult AllocError) (m : Memo) → (result ≡ Ok step_result.Lost → ⊥) →
    ComesTo searcher n result m → Advances searcher n result m
comes_on searcher n (Ok (step_result.Found there)) m w h = h
comes_on searcher n (Ok step_result.Lost) m w h = absurd (w refl)
comes_on searcher n (Ok (step_result.Goes there)) m w h = h
comes_on searcher n (Err error) m w h = h

pub ok_same : {l k : StepResult} → (let r : Result StepResult AllocError = Ok l in r) ≡ Ok k → l ≡ k
ok_same e = cc

-- from a step of the search to its end
pub ends_found : (searcher : Searcher) (k : ℕ) (n w : plain.Next) (here : NfaConfig) (m : Memo) → after_steps_of searcher k n ≡ w →
    Advances searcher w (Ok (step_result.Found here)) m → EndsAs searcher n (Ok (Some here)) m
ends_found searcher k n w here m e (j, (f, (t, (is, h, stands)))) =
    (k + j, (f, (t, (steps_then searcher k j n w e ∙ is, h, stands))))

pub ends_lost : (searcher : Searcher) (k : ℕ) (n w : plain.Next) (m : Memo) → after_steps_of searcher k n ≡ w →
    Advances searcher w (Ok step_result.Lost) m → EndsAs searcher n (Ok None) m
ends_lost searcher k n w m e (j, (f, (is, h))) = (k + j, (f, (steps_then searcher k j n w e ∙ is, h)))

-- as far as it came, the memo knows no other pair
pub failed_so_far : (searcher : Searcher) (w : plain.Next) (step : StepResult) (error : AllocError) (m : Memo) →
    Advances searcher w (Ok step) m → Advances searcher w (Err error) m
failed_so_far searcher w (step_result.Found there) error m (j, (f, (t, (is, h, stands)))) =
    (j, λ p. h.failed p ∙ sym (ap (λ x. (search_in x).failed p) is))
failed_so_far searcher w step_result.Lost error m (j, (f, (is, h))) =
    (j, λ p. h.failed p ∙ sym (ap (λ x. (search_in x).failed p) is))
failed_so_far searcher w (step_result.Goes there) error m (j, (f, (t, (is, h, stands)))) =
    (j, λ p. h.failed p ∙ sym (ap (λ x. (search_in x).failed p) is))

pub ends_err : (searcher : Searcher) (k : ℕ) (n w : plain.Next) (error : AllocError) (m : Memo) → after_steps_of searcher k n ≡ w →
    Advances searcher w (Err error) m → EndsAs searcher n (Err error) m
ends_err searcher k n w error m e (j, h) =
    (k + j, λ p. h p ∙ sym (ap (λ x. (search_in x).failed p) (steps_then searcher k j n w e)))

pub goes_further : (searcher : Searcher) (k : ℕ) (n w : plain.Next) (there : NfaConfig) (m : Memo) → after_steps_of searcher k n ≡ w →
    Advances searcher w (Ok (step_result.Goes there)) m → GoesOn searcher n m there
goes_further searcher k n w there m e (j, (f, (t, (is, h, stands)))) =
    (k + j, (f, (t, (steps_then searcher k j n w e ∙ is, h, stands))))
