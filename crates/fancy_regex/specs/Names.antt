-- The names of groups.
use Rattle.std.specs.Prelude.{◌≡◌, ◌<◌, ◌≤◌, ◌==◌, ◌+◌, ℕ, List, [], ◌∷◌, Option, Some, None, MatchOption, if◌then◌else◌, option_map}
use Rattle.std.specs.List.{list_any}
use Rattle.fancy_analysis.specs.Names.{names_of}
use Rattle.fancy_replace.specs.Reading.{Names, groups_named}
use Rattle.fancy_regex.specs.declared.names.CaptureNames.{CaptureNames}
use Rattle.fancy_regex.specs.declared.names.GroupNames.{GroupNames}

-- each name with the numbers of its groups
abbrev pub names_in : GroupNames → Names
names_in g = names_of g.numbers.entries

-- how many groups there are, with group 0
abbrev pub group_count : GroupNames → ℕ
group_count g = g.count

-- the numbers of the groups with a name
abbrev pub numbers_named : Names → List ℕ → List ℕ
numbers_named = groups_named

-- the name that has this number
abbrev pub name_of : Names → ℕ → Option (List ℕ)
name_of [] group = None
name_of (named ∷ names) group =
    if list_any (λ g. g == group) named.1 then Some named.0 else name_of names group

-- The next group has this name, or there is none.
abbrev pub NextName : {P : Type 0} → (P → List ℕ) → CaptureNames → Option (Option P) → CaptureNames → Type 0
NextName shown s item t =
    (t.names ≡ s.names)
    × MatchOption item ((group_count s.names.now ≤ s.next) × (t.next ≡ s.next))
    (λ name. (s.next < group_count s.names.now) × (t.next ≡ s.next + 1)
    × (option_map shown name ≡ name_of (names_in s.names.now) s.next))
