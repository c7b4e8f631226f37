-- What links reach, what leads into a cycle, and the depth-first search for one.
use Rattle.std.specs.Prelude.{◌≡◌, ℕ, ◌<◌, Bool, true, false, not, ◌||◌, ◌&&◌, ◌==◌, if◌then◌else◌, ◌⊎◌, ◌+◌, List, [], Option, Some, None, filter_map, Vec, length, map, Contains, All, slice_index_or, count_by, ◌*◌, ◌∷◌, ◌++◌, sum_by}
use Rattle.std.specs.Global.{Global}
use Rattle.fancy_analysis.specs.declared.links.Link.{Link}
use Rattle.fancy_analysis.specs.declared.cycle_search.CycleSearch.{CycleSearch}

-- a link leads from one number to another, or a link at once
pub record IsLink (at_once : Bool) (links : List Link) (from to : ℕ) : Type 0 where
  pub link : Link
  pub is_there : Contains links link
  pub leads_from : link.from ≡ from
  pub leads_to : link.to ≡ to
  pub is_one : (not at_once || link.at_once) ≡ true

abbrev pub IsLinked : List Link → ℕ → ℕ → Type 0
IsLinked links = IsLink false links

abbrev pub IsLinkedAtOnce : List Link → ℕ → ℕ → Type 0
IsLinkedAtOnce links = IsLink true links

-- what is reached from the whole tree
pub data IsReached (links : List Link) : ℕ → Type 0 where
  the_whole : IsReached links 0
  further : {g h : ℕ} → IsReached links g → IsLinked links g h → IsReached links h

-- one link at once or more lead from one number to another
pub data LeadsOn (links : List Link) : ℕ → ℕ → Type 0 where
  by_one : {g h : ℕ} → IsLinkedAtOnce links g h → LeadsOn links g h
  by_more : {g h k : ℕ} → LeadsOn links g h → LeadsOn links h k → LeadsOn links g k

-- such links lead into a cycle, on which the number may stand itself
pub record LeadsIntoCycle (links : List Link) (n : ℕ) : Type 0 where
  pub on_cycle : ℕ
  pub leads : (on_cycle ≡ n) ⊎ LeadsOn links n on_cycle
  pub cycle : LeadsOn links on_cycle on_cycle

-- the flag of a number
abbrev pub flag : List Bool → ℕ → Bool
flag flags n = slice_index_or flags n false

-- the list of a number
abbrev pub listed : List (Vec ℕ Global) → ℕ → List ℕ
listed lists g = slice_index_or (map (λ v. v.items) lists) g []

-- where a link leads from a number, if it is one, or a link at once
abbrev pub way_from : Bool → ℕ → Link → Option ℕ
way_from at_once n link = if link.from == n && (not at_once || link.at_once) then Some link.to else None

-- so many are not set
abbrev pub unset_count : List Bool → ℕ
unset_count flags = count_by not flags

-- there is a flag for 0, and for each number from which a link leads
pub record HasRoom (links : List Link) (flags : List Bool) : Type 0 where
  pub whole : 0 < length flags
  pub each : All (λ link. link.from < length flags) links

-- under each number, to where links lead from it, or links at once
abbrev pub AreWays : Bool → List Link → List (Vec ℕ Global) → Type 0
AreWays at_once links ways = (n : ℕ) → listed ways n ≡ filter_map (way_from at_once n) links

-- the numbers that are set are those that are reached, of all that have a flag
pub record AreReached (links : List Link) (flags : List Bool) : Type 0 where
  pub room : HasRoom links flags
  pub only : (n : ℕ) → flag flags n ≡ true → IsReached links n
  pub all : (n : ℕ) → IsReached links n → n < length flags → flag flags n ≡ true

-- the least that is reached and leads into a cycle
pub record IsLeastIntoCycle (links : List Link) (n : ℕ) : Type 0 where
  pub reached : IsReached links n
  pub leads : LeadsIntoCycle links n
  pub least : (m : ℕ) → m < n → IsReached links m → ¬ LeadsIntoCycle links m

-- each number links at once to the next one
abbrev pub IsChain : List Link → List ℕ → Type 0
IsChain links [] = Unit {0}
IsChain links (a ∷ []) = Unit {0}
IsChain links (a ∷ b ∷ ns) = IsLinkedAtOnce links a b × IsChain links (b ∷ ns)

abbrev pub BeginsWith : ℕ → List ℕ → Type 0
BeginsWith start [] = Unit {0}
BeginsWith start (a ∷ ns) = a ≡ start

-- a number without a flag has no link
abbrev pub is_done : List Bool → ℕ → Bool
is_done done n = slice_index_or done n true

-- what is known in the middle of a search from a number
pub record IsState (links : List Link) (start : ℕ) (ways : List (Vec ℕ Global)) (seen done : List Bool) (path : List ℕ) : Type 0 where
  pub room : HasRoom links seen
  pub dones : length done ≡ length seen
  pub only : (n h : ℕ) → Contains (listed ways n) h → IsLinkedAtOnce links n h
  -- each link is still to be followed, or leads to where no cycle is
  pub all : (n h : ℕ) → IsLinkedAtOnce links n h → Contains (listed ways n) h ⊎ (is_done done h ≡ true)
  pub none : (n : ℕ) → is_done done n ≡ true → ¬ LeadsIntoCycle links n
  pub is_open : (n : ℕ) → flag seen n ≡ true → (is_done done n ≡ true) ⊎ Contains path n
  pub is_seen : (n : ℕ) → Contains path n → flag seen n ≡ true
  pub chain : IsChain links path
  pub begins : BeginsWith start path

abbrev pub IsSearching : List Link → ℕ → CycleSearch → Type 0
IsSearching links start s = IsState links start s.ways.items s.seen.items s.done.items s.path.items

-- how much is left to do
abbrev pub left_of : List (Vec ℕ Global) → List Bool → List ℕ → ℕ
left_of ways seen path = sum_by (λ v. length v.items) ways + 2 * unset_count seen + length path

abbrev pub left_in : CycleSearch → ℕ
left_in s = left_of s.ways.items s.seen.items s.path.items

-- the number stands last
pub record IsLast (ns : List ℕ) (n : ℕ) : Type 0 where
  pub before : List ℕ
  pub is : ns ≡ before ++ n ∷ []

-- a step finds a cycle, or the search goes on with less to do
pub record StepsOn (links : List Link) (start : ℕ) (old new : CycleSearch) (found : Bool) : Type 0 where
  pub cycle : found ≡ true → LeadsIntoCycle links start
  pub goes_on : found ≡ false → IsSearching links start new
  pub less : found ≡ false → left_in new < left_in old
  pub seen : (n : ℕ) → flag old.seen.items n ≡ true → flag new.seen.items n ≡ true

-- whether links lead into a cycle from a number, and the search may begin anew where they do not
pub record Tells (links : List Link) (n : ℕ) (s : CycleSearch) (found : Bool) : Type 0 where
  pub cycle : found ≡ true → LeadsIntoCycle links n
  pub none : found ≡ false → ¬ LeadsIntoCycle links n
  pub searching : found ≡ false → IsSearching links 0 s
  pub idle : found ≡ false → s.path.items ≡ []
