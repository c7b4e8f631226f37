-- The path of a search: what each entry stands for, and a configuration by its links.
use Rattle.std.specs.Prelude.{◌≡◌, ◌≤◌, ℕ, suc, List, [], ◌∷◌, take, Option, Some, None, slice_get}
use Rattle.fancy_meaning.specs.MatchState.{Span}
use Rattle.fancy_nfa_laws.specs.NfaSearch as plain
use Rattle.fancy_backtrack.specs.declared.trail.Entry.{Entry}
use Rattle.fancy_backtrack.specs.declared.trail.Entry.TheVariants as entry
use Rattle.fancy_backtrack.specs.declared.trail.LoopCounter.{LoopCounter}
use Rattle.fancy_backtrack.specs.declared.trail.NfaConfig.{NfaConfig}

abbrev pub counter_of : LoopCounter → plain.LoopCounter
counter_of t = record { count = t.count; since = t.since }

-- the entry is of this iteration, inside one whose entry is before the k-th
abbrev pub IsCounter : Option Entry → (k outer : ℕ) → plain.LoopCounter → Type 0
IsCounter None k outer t = ⊥
IsCounter (Some (entry.LoopCounter link counter)) k outer t = (link ≡ outer) × (outer ≤ k) × (counter_of counter ≡ t)
IsCounter (Some (entry.Opened link from)) k outer t = ⊥
IsCounter (Some (entry.Closed group from to)) k outer t = ⊥

-- the link leads to these iterations, the innermost first
abbrev pub HasCounters : List Entry → (link : ℕ) → List plain.LoopCounter → Type 0
HasCounters entries link [] = link ≡ 0
HasCounters entries link (t ∷ ts) =
    (k : ℕ) × ((outer : ℕ) ×
    ((link ≡ suc k) × IsCounter (slice_get entries k) k outer t × HasCounters entries outer ts))

-- the entry is of a group that began here, inside one whose entry is before the k-th
abbrev pub IsOpened : Option Entry → (k outer from : ℕ) → Type 0
IsOpened None k outer i = ⊥
IsOpened (Some (entry.Opened link from)) k outer i = (link ≡ outer) × (outer ≤ k) × (from ≡ i)
IsOpened (Some (entry.LoopCounter link counter)) k outer i = ⊥
IsOpened (Some (entry.Closed group from to)) k outer i = ⊥

-- the link leads to groups that began at these places, the innermost first
abbrev pub HasOpened : List Entry → (link : ℕ) → List ℕ → Type 0
HasOpened entries link [] = link ≡ 0
HasOpened entries link (i ∷ is) =
    (k : ℕ) × ((outer : ℕ) × ((link ≡ suc k) × IsOpened (slice_get entries k) k outer i × HasOpened entries outer is))

-- the groups that were closed on this path, after these
abbrev pub closed_after : List (ℕ × Span) → List Entry → List (ℕ × Span)
closed_after before [] = before
closed_after before (entry.Closed group from to ∷ entries) = closed_after ((group, (from, to)) ∷ before) entries
closed_after before (entry.LoopCounter link counter ∷ entries) = closed_after before entries
closed_after before (entry.Opened link from ∷ entries) = closed_after before entries

-- a configuration at the end of a path
pub record IsConfig (entries : List Entry) (path : ℕ) (s : NfaConfig) (t : plain.NfaConfig) : Type 0 where
  pub at : s.at ≡ t.at
  pub place : s.place ≡ t.place
  pub counters_link : s.counters ≤ path
  pub opened_link : s.opened ≤ path
  pub counters : HasCounters entries s.counters t.counters
  pub opened : HasOpened entries s.opened t.opened
  pub spans : closed_after [] (take path entries) ≡ t.spans

-- the innermost iteration, and the link to the one around
abbrev pub EndsCounters : List Entry → (link : ℕ) → List plain.LoopCounter → Option (LoopCounter × ℕ) → Type 0
EndsCounters entries link [] None = Unit {0}
EndsCounters entries link [] (Some found) = ⊥
EndsCounters entries link (t ∷ ts) None = ⊥
EndsCounters entries link (t ∷ ts) (Some found) =
    (counter_of found.0 ≡ t) × (found.1 ≤ link) × HasCounters entries found.1 ts

-- where the innermost group began, and the link to the one around
abbrev pub EndsOpened : List Entry → (link : ℕ) → List ℕ → Option (ℕ × ℕ) → Type 0
EndsOpened entries link [] None = Unit {0}
EndsOpened entries link [] (Some found) = ⊥
EndsOpened entries link (i ∷ is) None = ⊥
EndsOpened entries link (i ∷ is) (Some found) =
    (found.0 ≡ i) × (found.1 ≤ link) × HasOpened entries found.1 is
