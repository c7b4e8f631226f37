-- The entries of a path, and what links lead to.
use Rattle.std.proofs.Common.{◌≡◌, ◌≤◌, ◌<◌, ◌∷◌, ◌++◌, [], ℕ, zero, suc, List, Option, Some, None, map, length, take, slice_get, refl, sym, ap, ◌∙◌, subst, arith, append-nil, append_assoc}
use Rattle.std.proofs.lemmas.List.{take-append-le, take-take}
use Rattle.std.specs.Prelude.{nat_eq}
use Rattle.std.specs.Option.{option_eq}
use Rattle.fancy_nfa_laws.specs.NfaSearch as plain
use Rattle.fancy_backtrack.specs.PairKeys.{counter_numbers, stayed_number}
use Rattle.fancy_backtrack.specs.Paths.{HasCounters, HasOpened, IsCounter, IsOpened, EndsCounters, IsConfig, closed_after}
use Rattle.fancy_backtrack.specs.Memos.{AreKept, Continuation}
use Rattle.fancy_backtrack.specs.declared.trail.Entry.{Entry}
use Rattle.fancy_backtrack.specs.declared.trail.Entry.TheVariants as entry
use Rattle.fancy_backtrack.specs.declared.trail.LoopCounter.{LoopCounter}
use Rattle.fancy_backtrack.specs.declared.trail.NfaConfig.{NfaConfig}
use Rattle.fancy_backtrack.specs.declared.backtrack_stack.StackFrame.{StackFrame}

-- ---- the numbers of the iterations that a link leads to

module _ (entries : List Entry) (place : ℕ) where
  abbrev pub numbers_of : List plain.LoopCounter → List ℕ
  numbers_of counters = counter_numbers (map (plain.counter_key place) counters)

  -- what is still to be written behind these numbers
  abbrev pub AreWritten : (before numbers : List ℕ) → (link : ℕ) → List plain.LoopCounter → Type 0
  AreWritten before numbers link counters =
      (rest : List plain.LoopCounter) × (HasCounters entries link rest × (numbers ++ numbers_of rest ≡ before ++ numbers_of counters))

  pub written_more : (before numbers : List ℕ) (link : ℕ) (counters : List plain.LoopCounter) (found : LoopCounter × ℕ) (stayed : ℕ) →
      stayed ≡ stayed_number (plain.has_stayed place (found.0).since) →
      ((ts : List plain.LoopCounter) → HasCounters entries link ts → EndsCounters entries link ts (Some found)) →
      AreWritten before numbers link counters →
      AreWritten before ((numbers ++ ((found.0).count ∷ [])) ++ (stayed ∷ [])) found.1 counters
  written_more before numbers link counters found stayed e ends ([], (h, w)) = absurd (ends [] h)
  written_more before numbers link counters found stayed e ends ((t ∷ ts), (h, w)) =
      let end = ends (t ∷ ts) h in
      let rest = numbers_of ts in (
        ts,
        (
          end.2,
          append_assoc (numbers ++ ((found.0).count ∷ [])) (stayed ∷ []) rest
              ∙ append_assoc numbers ((found.0).count ∷ []) (stayed ∷ rest)
              ∙ ap (λ n. numbers ++ ((found.0).count ∷ n ∷ rest)) e
              ∙ ap (λ u. numbers ++ (u.count ∷ stayed_number (plain.has_stayed place u.since) ∷ rest)) end.0
              ∙ w,
        ),
      )

  pub written_all : (before numbers : List ℕ) (link : ℕ) (counters : List plain.LoopCounter) →
      ((ts : List plain.LoopCounter) → HasCounters entries link ts → EndsCounters entries link ts None) →
      AreWritten before numbers link counters → numbers ≡ before ++ numbers_of counters
  written_all before numbers link counters ends ([], (h, w)) = sym (append-nil numbers) ∙ w
  written_all before numbers link counters ends ((t ∷ ts), (h, w)) = absurd (ends (t ∷ ts) h)

pub option_stays : (since : Option ℕ) (place : ℕ) → option_eq nat_eq since (Some place) ≡ plain.has_stayed place since
option_stays None place = refl
option_stays (Some i) place = refl

-- ---- a path that agrees with another one up to a length

-- the two begin alike
abbrev pub Agree : ℕ → List Entry → List Entry → Type 0
Agree n es fs = take n es ≡ take n fs

get_taken : {A : Type 0} (k n : ℕ) (l : List A) → k < n → slice_get (take n l) k ≡ slice_get l k
get_taken k zero l lt = absurd (omega (arith, lt))
get_taken k (suc n) [] lt = refl
get_taken zero (suc n) (x ∷ xs) lt = refl
get_taken (suc k) (suc n) (x ∷ xs) lt = get_taken k n xs (omega (arith, lt))

pub agree_less : (m n : ℕ) (es fs : List Entry) → m ≤ n → Agree n es fs → Agree m es fs
agree_less m n es fs le a = sym (take-take m n es le) ∙ ap (take m) a ∙ take-take m n fs le

agree_at : (k n : ℕ) (es fs : List Entry) → k < n → Agree n es fs → slice_get es k ≡ slice_get fs k
agree_at k n es fs lt a = sym (get_taken k n es lt) ∙ ap (λ l. slice_get l k) a ∙ get_taken k n fs lt

pub agree_more : (n : ℕ) (es more : List Entry) → n ≤ length es → Agree n es (es ++ more)
agree_more n es more le = sym (take-append-le n es more le)

pub agree_cut : (m n : ℕ) (es : List Entry) → m ≤ n → Agree m es (take n es)
agree_cut m n es le = sym (take-take m n es le)

module _ (es fs : List Entry) where
  is_counter_below : (o : Option Entry) (k outer : ℕ) (t : plain.LoopCounter) → IsCounter o k outer t → outer ≤ k
  is_counter_below None k outer t h = absurd h
  is_counter_below (Some (entry.LoopCounter link counter)) k outer t h = h.1
  is_counter_below (Some (entry.Opened link from)) k outer t h = absurd h
  is_counter_below (Some (entry.Closed group from to)) k outer t h = absurd h

  pub counters_agree : (n link : ℕ) (ts : List plain.LoopCounter) → Agree n es fs → link ≤ n → HasCounters es link ts → HasCounters fs link ts
  counters_agree n link [] a le h = h
  counters_agree n link (t ∷ ts) a le (k, (outer, (e, is, rest))) =
      let lt : k < n = omega (arith, le, e) in
      let below = is_counter_below (slice_get es k) k outer t is in (
        k,
        (
          outer,
          (
            e,
            subst (λ o. IsCounter o k outer t) (agree_at k n es fs lt a) is,
            counters_agree n outer ts a (omega (arith, lt, below)) rest,
          ),
        ),
      )

  is_opened_below : (o : Option Entry) (k outer i : ℕ) → IsOpened o k outer i → outer ≤ k
  is_opened_below None k outer i h = absurd h
  is_opened_below (Some (entry.Opened link from)) k outer i h = h.1
  is_opened_below (Some (entry.LoopCounter link counter)) k outer i h = absurd h
  is_opened_below (Some (entry.Closed group from to)) k outer i h = absurd h

  pub opened_agree : (n link : ℕ) (is : List ℕ) → Agree n es fs → link ≤ n → HasOpened es link is → HasOpened fs link is
  opened_agree n link [] a le h = h
  opened_agree n link (i ∷ is) a le (k, (outer, (e, found, rest))) =
      let lt : k < n = omega (arith, le, e) in
      let below = is_opened_below (slice_get es k) k outer i found in (
        k,
        (
          outer,
          (
            e,
            subst (λ o. IsOpened o k outer i) (agree_at k n es fs lt a) found,
            opened_agree n outer is a (omega (arith, lt, below)) rest,
          ),
        ),
      )

  pub config_agrees : (path : ℕ) (s : NfaConfig) (t : plain.NfaConfig) → Agree path es fs → IsConfig es path s t → IsConfig fs path s t
  config_agrees path s t a h = record {
    at = h.at;
    place = h.place;
    counters_link = h.counters_link;
    opened_link = h.opened_link;
    counters = counters_agree path s.counters t.counters a h.counters_link h.counters;
    opened = opened_agree path s.opened t.opened a h.opened_link h.opened;
    spans = ap (closed_after []) (sym a) ∙ h.spans;
  }

  pub kept_agree : (continuation : Continuation) (path : ℕ) (cs : List StackFrame) (frames : List plain.Frame) → Agree path es fs →
      AreKept continuation es path cs frames → AreKept continuation fs path cs frames
  kept_agree continuation path [] frames a h = h
  kept_agree continuation path (c ∷ cs) frames a (le, (s, (rest, (is, keeps, more)))) =
      let shorter = agree_less c.path path es fs le a in
      (le, (s, (rest, (config_agrees c.path c.config s shorter is, keeps, kept_agree continuation c.path cs rest shorter more))))

pub kept_longer : (continuation : Continuation) (es : List Entry) (path longer : ℕ) (cs : List StackFrame) (frames : List plain.Frame) →
    path ≤ longer → AreKept continuation es path cs frames → AreKept continuation es longer cs frames
kept_longer continuation es path longer [] frames le h = h
kept_longer continuation es path longer (c ∷ cs) frames le h = (omega (arith, le, h.0), h.1)
