-- With which characters a way can begin.
use Rattle.std.specs.Prelude.{◌≡◌, ℕ, ◌+◌, ◌<◌, Bool, true, false, ◌&&◌, ◌||◌, min, List, [], ◌∷◌, Option, Some, None, if◌then◌else◌, ◌==◌, nat_le, nat_lt, slice_get, slice_index_or}
use Rattle.std.specs.Char.{IsScalar}
use Rattle.fancy_nfa_laws.specs.NfaStates as plain
use Rattle.fancy_nfa_laws.specs.NfaStates.{Loop, NfaState}
use Rattle.fancy_nfa_laws.specs.NfaSearch.{Pair, NfaConfig, Search, Ends, passes}
use Rattle.fancy_nfa_laws.specs.FirstWays.{searched}

-- whether the set has the character, or the entry that all characters beyond ASCII share
abbrev pub has_character : (set : List Bool) → ℕ → Bool
has_character set c = slice_index_or set (min c 128) false

-- a byte of one of these characters, where the rest may follow if it is of ASCII
abbrev pub is_begun_by : (set : List Bool) → (rest : Bool) → Option ℕ → Bool
is_begun_by set rest None = false
is_begun_by set rest (Some byte) = has_character set byte && (nat_le 128 byte || rest)

-- Such characters stand at the place and behind it, level by level. Behind one beyond ASCII any may stand.
abbrev pub may_begin : (levels : List (List Bool)) → (text : List ℕ) → (place : ℕ) → Bool
may_begin [] text place = true
may_begin (set ∷ levels) text place = is_begun_by set (may_begin levels text (place + 1)) (slice_get text place)

-- where none stand there, no search finds a way
abbrev pub AreFirstSets : Bool → List NfaState → (levels : List (List Bool)) → Type 0
AreFirstSets unicode states levels = (text : List ℕ) (place : ℕ) → may_begin levels text place ≡ false →
    (failed : Pair → Bool) (steps : ℕ) (way : Option NfaConfig) (found : Search) →
    searched text unicode states failed place steps ≡ Ends way found → way ≡ None

-- ---- What a search comes to before it takes a character, or the next one: for each state its counter, which is one
-- more than how many iterations were begun of the loop around that counts, where the last is not asked whether it
-- moves. It is 0 at a state that the search does not come to, and 255 where nothing is known.

abbrev pub any_counter : ℕ
any_counter = 255

-- the search may come to the state with this counter
abbrev pub covers : (reached : List ℕ) → (at counter : ℕ) → Bool
covers reached at counter = slice_index_or reached at 0 == counter || slice_index_or reached at 0 == any_counter

abbrev pub is_past : Option ℕ → ℕ → Bool
is_past None counter = false
is_past (Some hi) counter = nat_lt hi counter

-- no further iteration may be begun
abbrev pub is_over : Loop → (counter : ℕ) → Bool
is_over loop counter = nat_lt counter any_counter && is_past loop.hi counter

-- a further one has to be begun
abbrev pub is_short : Loop → (counter : ℕ) → Bool
is_short loop counter = nat_lt counter any_counter && nat_le counter loop.lo

abbrev pub counter_loop_within : (reached : List ℕ) → (at counter : ℕ) → (off : ℕ) → (over short : Bool) → Bool
counter_loop_within reached at counter off over short =
    if over then covers reached off any_counter
    else if short then covers reached (at + 1) (counter + 1)
    else (covers reached (at + 1) any_counter && covers reached off any_counter)

-- the state leads to states that were reached, or by a character to those after that
abbrev pub steps_within : (reached after : List ℕ) → (at counter : ℕ) → NfaState → Bool
steps_within reached after at counter plain.Match = false
steps_within reached after at counter (plain.Character test) = covers after (at + 1) counter
steps_within reached after at counter (plain.Holds a) = covers reached (at + 1) counter
steps_within reached after at counter plain.Open = covers reached (at + 1) counter
steps_within reached after at counter (plain.Close g) = covers reached (at + 1) counter
steps_within reached after at counter (plain.Split first second) =
    covers reached first counter && covers reached second counter
steps_within reached after at counter (plain.BranchSplit first second) =
    covers reached first counter && covers reached second counter
steps_within reached after at counter (plain.LoopSplit first second) =
    covers reached first counter && covers reached second counter
steps_within reached after at counter (plain.Jump to) = covers reached to counter
steps_within reached after at counter plain.Join = covers reached (at + 1) counter
steps_within reached after at counter plain.CounterBegin = covers reached (at + 1) 1
steps_within reached after at counter (plain.CounterLoop loop off) =
    counter_loop_within reached at counter off (is_over loop counter) (is_short loop counter)

-- the characters that pass its test are among these
abbrev pub TakesAmong : Bool → (set : List Bool) → NfaState → Type 0
TakesAmong unicode set (plain.Character test) =
    (c : ℕ) → IsScalar c → passes [] unicode test c ≡ true → has_character set c ≡ true
TakesAmong unicode set p = Unit {0}

-- what holds of a state that is reached
abbrev pub IsWithin : Bool → (reached : List ℕ) → (set : List Bool) → (after : List ℕ) → (at : ℕ) → Option NfaState →
    Type 0
IsWithin unicode reached set after at None = Unit {0}
IsWithin unicode reached set after at (Some p) =
    (steps_within reached after at (slice_index_or reached at 0) p ≡ true) × TakesAmong unicode set p

-- a search at states that were reached takes these characters alone, and comes to states that were reached after that
abbrev pub IsLevel : Bool → List NfaState → (reached : List ℕ) → (set : List Bool) → (after : List ℕ) → Type 0
IsLevel unicode states reached set after =
    (at : ℕ) → 0 < slice_index_or reached at 0 → IsWithin unicode reached set after at (slice_get states at)

-- one level after the other, from states that are reached to those that are reached behind the last
abbrev pub AreLevels : Bool → List NfaState → (reached : List ℕ) → (levels : List (List Bool)) → (last : List ℕ) → Type 0
AreLevels unicode states reached [] last = reached ≡ last
AreLevels unicode states reached (set ∷ levels) last =
    (after : List ℕ) × (IsLevel unicode states reached set after × AreLevels unicode states after levels last)
