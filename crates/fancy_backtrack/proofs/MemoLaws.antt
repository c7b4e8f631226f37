-- What is kept of a search and of a configuration when the path grows or is cut.
use Rattle.std.proofs.Common.{◌≡◌, ◌≤◌, ◌+◌, ◌∷◌, ◌++◌, [], ℕ, List, Bool, true, false, Option, Some, None, Result, Ok, map, length, take, slice_get, refl, sym, ap, ap₂, ◌∙◌, ◌||◌, subst, arith, nat_lt, if◌then◌else◌, length-append, OnOk, IfOk, Err}
use Rattle.std.proofs.lemmas.List.{take_all}
use Rattle.fancy_nfa_laws.specs.NfaSearch as plain
use Rattle.std.proofs.lemmas.Bool.{cond-true, cond-false}
use Rattle.fancy_nfa_laws.specs.NfaStates.{Loop, Close}
use Rattle.fancy_nfa_laws.specs.NfaStates as states
use Rattle.fancy_backtrack.specs.declared.memo.StepResult.TheVariants as step_result
use Rattle.fancy_backtrack.specs.Paths.{HasCounters, HasOpened, EndsOpened, EndsCounters, IsCounter, IsOpened, IsConfig, closed_after, counter_of}
use Rattle.fancy_backtrack.specs.BacktrackStack.{choices_of}
use Rattle.fancy_backtrack.specs.Memos.{HaveFailed, IsHere, IsSearch, saturated, Continuation, Simulates}
use Rattle.fancy_backtrack.specs.Loops.{ChoosesBy}
use Rattle.fancy_backtrack.specs.declared.loops.LoopChoice.{LoopChoice}
use Rattle.fancy_backtrack.specs.declared.loops.LoopChoice.TheVariants as loop_choice
use Rattle.fancy_backtrack.specs.declared.trail.Entry.{Entry}
use Rattle.fancy_backtrack.specs.declared.trail.Entry.TheVariants as entry
use Rattle.fancy_backtrack.specs.declared.trail.Trail.{Trail}
use Rattle.fancy_backtrack.specs.declared.trail.LoopCounter.{LoopCounter}
use Rattle.fancy_backtrack.specs.declared.trail.NfaConfig.{NfaConfig}
use Rattle.fancy_backtrack.specs.declared.memo.Memo.{Memo}
use Rattle.fancy_backtrack.specs.PairKeys.{key_of, same_numbers, counter_numbers}
use Rattle.fancy_backtrack.specs.FailedPairs.{has_pair}
use Rattle.fancy_backtrack.specs.declared.failed.Failed.{Failed}
use Rattle.fancy_backtrack.proofs.PairKeys.{same_keys_turned}
use Rattle.fancy_backtrack.proofs.PathLaws.{agree_more, kept_agree, kept_longer, opened_agree, counters_agree}

whole : {A : Type 0} (l : List A) → take (length l) l ≡ l
whole l = take_all (length l) l (omega arith)

module _ (m : Memo) (trail : Trail) where
  abbrev before : List Entry
  before = m.trail.entries.items

  abbrev after : List Entry
  after = trail.entries.items

  module _ (x : Entry) (e : after ≡ before ++ (x ∷ [])) where
    one_longer : length after ≡ length before + 1
    one_longer = ap length e ∙ length-append before (x ∷ [])

    agree : take (length before) before ≡ take (length before) after
    agree = agree_more (length before) before (x ∷ []) (omega arith) ∙ ap (take (length before)) (sym e)

    pub search_pushed : (continuation : Continuation) (f : plain.Search) → IsSearch continuation m f → IsSearch continuation (record m { trail = trail }) f
    search_pushed continuation f h = record {
      frames = kept_longer continuation after (length before) (length after) (choices_of m.frames) f.frames
          (omega (arith, one_longer))
          (kept_agree before after continuation (length before) (choices_of m.frames) f.frames agree h.frames);
      failed = h.failed;
      visits = h.visits;
    }

    -- the groups that were closed on the longer path
    closed_on : closed_after [] (take (length after) after) ≡ closed_after [] (before ++ (x ∷ []))
    closed_on = ap (closed_after []) (whole after ∙ e)

    counters_on : (link : ℕ) (ts : List plain.LoopCounter) → link ≤ length before → HasCounters before link ts → HasCounters after link ts
    counters_on link ts le h = counters_agree before after (length before) link ts agree le h

    opened_on : (link : ℕ) (is : List ℕ) → link ≤ length before → HasOpened before link is → HasOpened after link is
    opened_on link is le h = opened_agree before after (length before) link is agree le h

pub closed_append : (groups : List (ℕ × (ℕ × ℕ))) (es fs : List Entry) →
    closed_after groups (es ++ fs) ≡ closed_after (closed_after groups es) fs
closed_append groups [] fs = refl
closed_append groups (entry.Closed group from to ∷ es) fs = closed_append ((group, (from, to)) ∷ groups) es fs
closed_append groups (entry.LoopCounter link counter ∷ es) fs = closed_append groups es fs
closed_append groups (entry.Opened link from ∷ es) fs = closed_append groups es fs

get_last : {A : Type 0} (l : List A) (x : A) → slice_get (l ++ (x ∷ [])) (length l) ≡ Some x
get_last [] x = refl
get_last (y ∷ ys) x = get_last ys x

module _ (m : Memo) (trail : Trail) (s : NfaConfig) (t : plain.NfaConfig) (h : IsHere m s t) where
  abbrev es : List Entry
  es = m.trail.entries.items

  -- an iteration begins
  pub here_in_turn : (outer link : ℕ) (counter : LoopCounter) (counters : List plain.LoopCounter) →
      trail.entries.items ≡ es ++ (entry.LoopCounter outer counter ∷ []) → link ≡ length es + 1 →
      outer ≤ length es → HasCounters es outer counters →
      IsHere (record m { trail = trail }) (record s { at = s.at + 1; counters = link })
      (record (plain.forward t) { counters = counter_of counter ∷ counters })
  here_in_turn outer link counter counters e l le has =
      let x = entry.LoopCounter outer counter in
      let longer = one_longer m trail x e in
      record {
        at = ap (λ n. n + 1) h.at;
        place = h.place;
        counters_link = omega (arith, l, longer);
        opened_link = omega (arith, h.opened_link, longer);
        counters = (
          length es,
          (
            outer,
            (
              omega (arith, l),
              subst (λ o. IsCounter o (length es) outer (counter_of counter)) (sym (ap (λ v. slice_get v (length es)) e ∙ get_last es x))
                  (refl, le, refl),
              counters_on m trail x e outer counters le has,
            ),
          ),
        );
        opened = opened_on m trail x e s.opened t.opened h.opened_link h.opened;
        spans = closed_on m trail x e ∙ closed_append [] es (x ∷ []) ∙ ap (closed_after []) (sym (whole es)) ∙ h.spans;
      }

  -- a group begins
  pub here_in_group : (link : ℕ) →
      trail.entries.items ≡ es ++ (entry.Opened s.opened s.place ∷ []) → link ≡ length es + 1 →
      IsHere (record m { trail = trail }) (record s { at = s.at + 1; opened = link })
      (record (plain.forward t) { opened = t.place ∷ t.opened })
  here_in_group link e l =
      let x = entry.Opened s.opened s.place in
      let longer = one_longer m trail x e in
      record {
        at = ap (λ n. n + 1) h.at;
        place = h.place;
        counters_link = omega (arith, h.counters_link, longer);
        opened_link = omega (arith, l, longer);
        counters = counters_on m trail x e s.counters t.counters h.counters_link h.counters;
        opened = (
          length es,
          (
            s.opened,
            (
              omega (arith, l),
              subst (λ o. IsOpened o (length es) s.opened t.place) (sym (ap (λ v. slice_get v (length es)) e ∙ get_last es x))
                  (refl, h.opened_link, h.place),
              opened_on m trail x e s.opened t.opened h.opened_link h.opened,
            ),
          ),
        );
        spans = closed_on m trail x e ∙ closed_append [] es (x ∷ []) ∙ ap (closed_after []) (sym (whole es)) ∙ h.spans;
      }

  -- a group ends
  pub here_behind_group : (group from outer : ℕ) (opened : List ℕ) →
      trail.entries.items ≡ es ++ (entry.Closed group from s.place ∷ []) →
      outer ≤ length es → HasOpened es outer opened →
      IsHere (record m { trail = trail }) (record s { at = s.at + 1; opened = outer })
      (record (plain.forward t) { opened = opened; spans = (group, (from, t.place)) ∷ t.spans })
  here_behind_group group from outer opened e le has =
      let x = entry.Closed group from s.place in
      let longer = one_longer m trail x e in
      record {
        at = ap (λ n. n + 1) h.at;
        place = h.place;
        counters_link = omega (arith, h.counters_link, longer);
        opened_link = omega (arith, le, longer);
        counters = counters_on m trail x e s.counters t.counters h.counters_link h.counters;
        opened = opened_on m trail x e outer opened le has;
        spans =
            closed_on m trail x e ∙ closed_append [] es (x ∷ [])
            ∙ ap (λ v. (group, (from, v)) ∷ closed_after [] es) h.place
            ∙ ap (λ v. (group, (from, t.place)) ∷ closed_after [] v) (sym (whole es))
            ∙ ap (λ v. (group, (from, t.place)) ∷ v) h.spans;
      }

-- a group that the path has open ends
pub close_steps : (m : Memo) (trail : Trail) (s : NfaConfig) (t : plain.NfaConfig) (continuation : Continuation) (f : plain.Search) (group from outer : ℕ) →
    IsSearch continuation m f → IsHere m s t →
    ((opened : List ℕ) → HasOpened m.trail.entries.items s.opened opened →
    EndsOpened m.trail.entries.items s.opened opened (Some (from, outer))) →
    trail.entries.items ≡ m.trail.entries.items ++ (entry.Closed group from s.place ∷ []) →
    Simulates continuation t f.failed (plain.next_by (plain.close_step group t t.opened) (Some (Close group)) t f)
    (Ok (step_result.Goes (record s { at = s.at + 1; opened = outer }))) (record m { trail = trail })
close_steps m trail s t continuation f group from outer h here ends e = go t.opened here.opened
  where
    go : (opened : List ℕ) → HasOpened m.trail.entries.items s.opened opened →
        Simulates continuation t f.failed (plain.next_by (plain.close_step group t opened) (Some (Close group)) t f)
        (Ok (step_result.Goes (record s { at = s.at + 1; opened = outer }))) (record m { trail = trail })
    go [] has = absurd (ends [] has)
    go (i ∷ is) has =
        let end = ends (i ∷ is) has in (
          f,
          (
            record (plain.forward t) { opened = is; spans = (group, (from, t.place)) ∷ t.spans },
            (
              ap (λ n. plain.TakesUp (record (plain.forward t) { opened = is; spans = (group, (n, t.place)) ∷ t.spans }) f) (sym end.0),
              search_pushed m trail (entry.Closed group from s.place) e continuation f h,
              here_behind_group m trail s t here group from outer is e (omega (arith, end.1, here.opened_link)) end.2,
            ),
          ),
        )

-- no group is open on the path, and the end of one goes on
pub close_none : (m : Memo) (s : NfaConfig) (t : plain.NfaConfig) (continuation : Continuation) (f : plain.Search) (group : ℕ) →
    IsSearch continuation m f → IsHere m s t →
    ((opened : List ℕ) → HasOpened m.trail.entries.items s.opened opened → EndsOpened m.trail.entries.items s.opened opened None) →
    Simulates continuation t f.failed (plain.next_by (plain.close_step group t t.opened) (Some (Close group)) t f)
    (Ok (step_result.Goes (record s { at = s.at + 1 }))) m
close_none m s t continuation f group h here ends = go t.opened here.opened
  where
    go : (opened : List ℕ) → HasOpened m.trail.entries.items s.opened opened →
        Simulates continuation t f.failed (plain.next_by (plain.close_step group t opened) (Some (Close group)) t f)
        (Ok (step_result.Goes (record s { at = s.at + 1 }))) m
    go [] has = (f, (plain.forward t, (refl, h, on)))
      where
        on : IsHere m (record s { at = s.at + 1 }) (plain.forward t)
        on = record {
          at = ap (λ n. n + 1) here.at;
          place = here.place;
          counters_link = here.counters_link;
          opened_link = here.opened_link;
          counters = here.counters;
          opened = here.opened;
          spans = here.spans;
        }
    go (i ∷ is) has = absurd (ends (i ∷ is) has)

-- ---- pairs that have no way

-- outside all loops that count a pair has two numbers
pub key_outside : (m : Memo) (s : NfaConfig) (t : plain.NfaConfig) → IsHere m s t → s.counters ≡ 0 →
    s.at ∷ s.place ∷ [] ≡ key_of (plain.pair_of t)
key_outside m s t h none = go t.counters (h.counters)
  where
    go : (counters : List plain.LoopCounter) → HasCounters m.trail.entries.items s.counters counters →
        s.at ∷ s.place ∷ [] ≡ t.at ∷ t.place ∷ counter_numbers (map (plain.counter_key t.place) counters)
    go [] has = ap₂ (λ at place. at ∷ place ∷ []) h.at h.place
    go (u ∷ us) (k, (outer, (e, is, rest))) = absurd (omega (arith, none, e))

-- the iterations of a configuration inside one alone
pub inside : (m : Memo) (s : NfaConfig) (counter : LoopCounter) (outer : ℕ) (t : plain.NfaConfig) → outer ≡ 0 → IsHere m s t →
    EndsCounters m.trail.entries.items s.counters t.counters (Some (counter, outer)) → counter_of counter ∷ [] ≡ t.counters
inside m s counter outer t none h ends = go t.counters ends
  where
    go : (counters : List plain.LoopCounter) → EndsCounters m.trail.entries.items s.counters counters (Some (counter, outer)) →
        counter_of counter ∷ [] ≡ counters
    go [] e = absurd e
    go (u ∷ []) e = ap (λ x. x ∷ []) e.0
    go (u ∷ v ∷ vs) (is, below, (k, (further, (link, at, rest)))) = absurd (omega (arith, none, link))

-- one more pair has no way
pub memoized : (old new : Failed) (f : plain.Search) (k : List ℕ) (p : plain.Pair) → k ≡ key_of p →
    ((n : List ℕ) → has_pair new n ≡ (same_numbers n k || has_pair old n)) →
    ((r : plain.Pair) → has_pair old (key_of r) ≡ f.failed r) →
    (r : plain.Pair) → has_pair new (key_of r) ≡ (plain.same_pair p r || f.failed r)
memoized old new f k p e adds have r =
    adds (key_of r)
    ∙ ap₂ (λ a b. a || b) (ap (same_numbers (key_of r)) e ∙ same_keys_turned p r) (have r)

-- ---- a pair that is memoized

module _ (continuation : Continuation) (s t : plain.NfaConfig) (ts : List plain.NfaConfig) (f : plain.Search) (e : continuation s ≡ plain.Tries true t ts) where
  pub tries_in_vain : (p : Option states.NfaState) → f.failed (plain.pair_of s) ≡ true →
      plain.next_by (continuation s) p s f ≡ plain.TakesBack f
  tries_in_vain p w = ap (λ l. plain.next_by l p s f) e ∙ cond-true (f.failed (plain.pair_of s)) _ _ w

  pub tries_anew : (p : Option states.NfaState) → f.failed (plain.pair_of s) ≡ false →
      plain.next_by (continuation s) p s f
      ≡ plain.TakesUp t (plain.with_frames (plain.others ts ++ (plain.Fails s ∷ [])) (plain.visited p f))
  tries_anew p w = ap (λ l. plain.next_by l p s f) e ∙ cond-false (f.failed (plain.pair_of s)) _ _ w

-- ---- what does not change what a memo stands for

module _ (continuation : Continuation) (m : Memo) (f : plain.Search) (h : IsSearch continuation m f) where
  pub renumbered : (new : Memo) → new ≡ record m { numbers = new.numbers } → IsSearch continuation new f
  renumbered new e = subst (λ n. IsSearch continuation n f) (sym e) (record { frames = h.frames; failed = h.failed; visits = h.visits })

  pub more_states : (new : Memo) (n : ℕ) → new ≡ record m { visits = saturated (m.visits + n) } →
      IsSearch continuation new (record f { visits = f.visits + n })
  more_states new n e =
      subst (λ x. IsSearch continuation x (record f { visits = f.visits + n })) (sym e)
      (record { frames = h.frames; failed = h.failed; visits = counted })
    where
      counted : saturated (m.visits + n) ≡ saturated (f.visits + n)
      counted = let v = h.visits in omega (arith, v)

  pub one_visit : (new : Memo) → new ≡ record m { visits = saturated (m.visits + 1) } →
      IsSearch continuation new (record f { visits = f.visits + 1 })
  one_visit new e = more_states new 1 e

-- the configuration is the same where the path is
pub here_by : (m n : Memo) (s : NfaConfig) (t : plain.NfaConfig) → n.trail ≡ m.trail → IsHere m s t → IsHere n s t
here_by m n s t e h = subst (λ (l : Trail). IsConfig l.entries.items (length l.entries.items) s t) (sym e) h

-- at another state
pub here_at : (m : Memo) (s : NfaConfig) (t : plain.NfaConfig) (i j : ℕ) → i ≡ j → IsHere m s t →
    IsHere m (record s { at = i }) (record t { at = j })
here_at m s t i j e h = record {
  at = e;
  place = h.place;
  counters_link = h.counters_link;
  opened_link = h.opened_link;
  counters = h.counters;
  opened = h.opened;
  spans = h.spans;
}

-- ---- at the head of a loop

-- the link leads to this iteration, inside these
pub counters_open : (entries : List Entry) (link : ℕ) (counters : List plain.LoopCounter) (found : LoopCounter × ℕ) →
    EndsCounters entries link counters (Some found) →
    (around : List plain.LoopCounter) × ((counters ≡ counter_of found.0 ∷ around) × (found.1 ≤ link) × HasCounters entries found.1 around)
counters_open entries link [] found h = absurd h
counters_open entries link (t ∷ ts) found (e, le, has) = (ts, (ap (λ u. u ∷ ts) (sym e), le, has))

module _ (l : Loop) (after : ℕ) (s : plain.NfaConfig) (t : plain.LoopCounter) (ts : List plain.LoopCounter) where
  abbrev pub on : plain.NfaConfig
  on = record (plain.forward s) { counters = plain.next_counter l s.place t ∷ ts }

  abbrev pub off : plain.NfaConfig
  off = record (plain.goes_to after s) { counters = ts }

  counter_loop_out : plain.is_over l s.place t ≡ true → plain.counter_loop_step l after s (t ∷ ts) ≡ plain.Tries true off []
  counter_loop_out over = cond-true (plain.is_over l s.place t) _ _ over

  counter_loop_in : (plain.is_over l s.place t ≡ false) × (nat_lt t.count l.lo ≡ true) →
      plain.counter_loop_step l after s (t ∷ ts) ≡ plain.Tries true on []
  counter_loop_in (goes, few) = cond-false (plain.is_over l s.place t) _ _ goes ∙ cond-true (nat_lt t.count l.lo) _ _ few

  choice : (greedy : Bool) → (plain.is_over l s.place t ≡ false) × (nat_lt t.count l.lo ≡ false) × (l.greedy ≡ greedy) →
      plain.counter_loop_step l after s (t ∷ ts) ≡ plain.choice_step greedy on off
  choice greedy (goes, enough, e) =
      cond-false (plain.is_over l s.place t) _ _ goes ∙ cond-false (nat_lt t.count l.lo) _ _ enough
      ∙ ap (λ g. plain.choice_step g on off) e

  counter_loop_in_or_out : (plain.is_over l s.place t ≡ false) × (nat_lt t.count l.lo ≡ false) × (l.greedy ≡ true) →
      plain.counter_loop_step l after s (t ∷ ts) ≡ plain.Tries true on (off ∷ [])
  counter_loop_in_or_out = choice true

  counter_loop_out_or_in : (plain.is_over l s.place t ≡ false) × (nat_lt t.count l.lo ≡ false) × (l.greedy ≡ false) →
      plain.counter_loop_step l after s (t ∷ ts) ≡ plain.Tries true off (on ∷ [])
  counter_loop_out_or_in = choice false

  -- the step result where these ways on are found
  abbrev pub step_result_of : LoopChoice → plain.StepResult
  step_result_of loop_choice.Out = plain.Tries true off []
  step_result_of loop_choice.In = plain.Tries true on []
  step_result_of loop_choice.InOrOut = plain.Tries true on (off ∷ [])
  step_result_of loop_choice.OutOrIn = plain.Tries true off (on ∷ [])

  pub counter_loop_by : (place : ℕ) (counters : List plain.LoopCounter) (r : LoopChoice) → place ≡ s.place → counters ≡ t ∷ ts → ChoosesBy r l place t →
      plain.counter_loop_step l after s counters ≡ step_result_of r
  counter_loop_by place counters r here is by = ap (plain.counter_loop_step l after s) is ∙ go r (subst (λ i. ChoosesBy r l i t) here by)
    where
      go : (r : LoopChoice) → ChoosesBy r l s.place t → plain.counter_loop_step l after s (t ∷ ts) ≡ step_result_of r
      go loop_choice.Out h = counter_loop_out h
      go loop_choice.In h = counter_loop_in h
      go loop_choice.InOrOut h = counter_loop_in_or_out h
      go loop_choice.OutOrIn h = counter_loop_out_or_in h

  -- nothing is tried where the pair has no way
  pub counter_loop_in_vain : (f : plain.Search) (p : Option states.NfaState) → f.failed (plain.pair_of s) ≡ true →
      plain.next_by (plain.counter_loop_step l after s (t ∷ ts)) p s f ≡ plain.TakesBack f
  counter_loop_in_vain f p w = go (plain.is_over l s.place t) (nat_lt t.count l.lo) l.greedy
    where
      go : (over few greedy : Bool) →
          plain.next_by
          (if over then plain.Tries true off [] else if few then plain.Tries true on [] else plain.choice_step greedy on off)
          p s f
          ≡ plain.TakesBack f
      go true few greedy = cond-true (f.failed (plain.pair_of s)) _ _ w
      go false true greedy = cond-true (f.failed (plain.pair_of s)) _ _ w
      go false false true = cond-true (f.failed (plain.pair_of s)) _ _ w
      go false false false = cond-true (f.failed (plain.pair_of s)) _ _ w

-- ---- the other way on from a loop's head

-- the way that is tried second
pub one_other : (l : plain.StepResult) (first other on off : plain.NfaConfig) → l ≡ plain.Tries true first (other ∷ []) →
    l ≡ plain.Tries true on (off ∷ []) → other ≡ off
one_other l first other on off e h = cc

-- inside no loop there is none
pub no_other : (l : Loop) (after : ℕ) (s first other : plain.NfaConfig) (ts : List plain.LoopCounter) → ts ≡ [] →
    ¬ (plain.counter_loop_step l after s ts ≡ plain.Tries true first (other ∷ []))
no_other l after s first other [] none e = cc
no_other l after s first other (t ∷ ts) none e = cc

-- nor where there is one way on alone
pub lone_way : (l : Loop) (after place : ℕ) (s first other : plain.NfaConfig) (t : plain.LoopCounter) (around ts : List plain.LoopCounter) (r : LoopChoice) →
    place ≡ s.place → ts ≡ t ∷ around → ChoosesBy r l place t → ¬ (r ≡ loop_choice.InOrOut) → ¬ (r ≡ loop_choice.OutOrIn) →
    ¬ (plain.counter_loop_step l after s ts ≡ plain.Tries true first (other ∷ []))
lone_way l after place s first other t around ts r here is by a b e = go r a b (sym (counter_loop_by l after s t around place ts r here is by) ∙ e)
  where
    go : (r : LoopChoice) → ¬ (r ≡ loop_choice.InOrOut) → ¬ (r ≡ loop_choice.OutOrIn) →
        ¬ (step_result_of l after s t around r ≡ plain.Tries true first (other ∷ []))
    go loop_choice.Out a b e = cc
    go loop_choice.In a b e = cc
    go loop_choice.InOrOut a b e = a refl
    go loop_choice.OutOrIn a b e = b refl

pub counters_none : (entries : List Entry) (link : ℕ) (counters : List plain.LoopCounter) → EndsCounters entries link counters None → counters ≡ []
counters_none entries link [] h = refl
counters_none entries link (t ∷ ts) h = absurd h

-- behind the loop
pub here_out : (m : Memo) (s : NfaConfig) (t : plain.NfaConfig) (after outer : ℕ) (around : List plain.LoopCounter) →
    outer ≤ s.counters → HasCounters m.trail.entries.items outer around → IsHere m s t →
    IsHere m (record s { at = after; counters = outer }) (record (plain.goes_to after t) { counters = around })
here_out m s t after outer around le has h = record {
  at = refl;
  place = h.place;
  counters_link = omega (arith, le, h.counters_link);
  opened_link = h.opened_link;
  counters = has;
  opened = h.opened;
  spans = h.spans;
}

-- what holds where a pair is taken up, before its choice is kept and then
pub record PairKept (m counted kept : Memo) (continuation : Continuation) (s : NfaConfig) (t : plain.NfaConfig) (f : plain.Search) : Type 0 where
  pub search : IsSearch continuation counted (record f { visits = f.visits + 1 })
  pub before : IsHere counted s t
  pub here : IsHere kept s t
  pub counters : (link : ℕ) (counters : List plain.LoopCounter) → HasCounters m.trail.entries.items link counters →
      HasCounters kept.trail.entries.items link counters
  pub link : (link : ℕ) → link ≤ length m.trail.entries.items → link ≤ length kept.trail.entries.items

-- A pair that is taken up: the memo is asked for it, the visit is counted, and the choice is kept.
module _ (m asked counted kept : Memo) (same : asked ≡ record m { numbers = asked.numbers })
    (more : counted ≡ record asked { visits = saturated (asked.visits + 1) }) (rest : kept ≡ record counted { frames = kept.frames })
    (continuation : Continuation) (s : NfaConfig) (t : plain.NfaConfig) (f : plain.Search) (h : IsSearch continuation m f) (here : IsHere m s t) where
  trail_counted : counted.trail ≡ m.trail
  trail_counted = ap (λ (n : Memo). n.trail) more ∙ ap (λ (n : Memo). n.trail) same

  trail_kept : kept.trail ≡ m.trail
  trail_kept = ap (λ (n : Memo). n.trail) rest ∙ trail_counted

  search_counted : IsSearch continuation counted (record f { visits = f.visits + 1 })
  search_counted = one_visit continuation asked f (renumbered continuation m f h asked same) counted more

  here_counted : IsHere counted s t
  here_counted = here_by m counted s t trail_counted here

  here_kept : IsHere kept s t
  here_kept = here_by m kept s t trail_kept here

  counters_kept : (link : ℕ) (counters : List plain.LoopCounter) → HasCounters m.trail.entries.items link counters →
      HasCounters kept.trail.entries.items link counters
  counters_kept link counters = subst (λ (l : Trail). HasCounters l.entries.items link counters) (sym trail_kept)

  link_kept : (link : ℕ) → link ≤ length m.trail.entries.items → link ≤ length kept.trail.entries.items
  link_kept link = subst (λ (l : Trail). link ≤ length l.entries.items) (sym trail_kept)

  pub pair_kept : PairKept m counted kept continuation s t f
  pair_kept = record { search = search_counted; before = here_counted; here = here_kept; counters = counters_kept; link = link_kept }

-- past what is taken
pub here_past : (m : Memo) (s : NfaConfig) (t : plain.NfaConfig) (place : ℕ) → IsHere m s t →
    IsHere m (record s { at = s.at + 1; place = place }) (record (plain.forward t) { place = place })
here_past m s t place h = record {
  at = ap (λ n. n + 1) h.at;
  place = refl;
  counters_link = h.counters_link;
  opened_link = h.opened_link;
  counters = h.counters;
  opened = h.opened;
  spans = h.spans;
}

-- ---- the state of a configuration

-- two step results that try others are the same
pub same_tries : (n k : Bool) (s t u v : plain.NfaConfig) → plain.Tries n s (t ∷ []) ≡ plain.Tries k u (v ∷ []) → (n ≡ k) × (t ≡ v)
same_tries n k s t u v e = (cc, cc)

pub no_tries : (l : plain.StepResult) → (n : Bool) (s t : plain.NfaConfig) → l ≡ plain.Lost → l ≡ plain.Tries n s (t ∷ []) → ⊥
no_tries l n s t e d = cc

-- at the head of a loop each other way on is of a pair that is memoized
pub counter_loop_fees : (l : Loop) (after : ℕ) (s first other : plain.NfaConfig) (counters : List plain.LoopCounter) (n : Bool) →
    plain.counter_loop_step l after s counters ≡ plain.Tries n first (other ∷ []) → n ≡ true
counter_loop_fees l after s first other [] n e = cc
counter_loop_fees l after s first other (t ∷ ts) n e = go (plain.is_over l s.place t) (nat_lt t.count l.lo) l.greedy e
  where
    go : (over few greedy : Bool) →
        (if over then plain.Tries true (off l after s t ts) []
        else if few then plain.Tries true (on l after s t ts) []
        else plain.choice_step greedy (on l after s t ts) (off l after s t ts))
        ≡ plain.Tries n first (other ∷ []) → n ≡ true
    go true few greedy e = cc
    go false true greedy e = cc
    go false false true e = cc
    go false false false e = cc

-- what holds where a list was added
pub when_added : {X E : Type 0} (r : Result X E) {P Q : Type 0} → (P → Q) → OnOk r P → IfOk r (λ x. Q)
when_added (Ok x) f h = f h
when_added (Err e) f h = tt

-- what has failed is the same where the pairs are
pub failed_by : (m n : Memo) (failed : plain.Pair → Bool) → n.failed ≡ m.failed → HaveFailed m failed → HaveFailed n failed
failed_by m n failed e h p = ap (λ x. has_pair x (key_of p)) e ∙ h p
