-- The names of groups.
use Rattle.std.specs.Prelude.{◌==◌, ℕ, IsUtf8, List, [], ◌∷◌, length, Option, None, Some, if◌then◌else◌}
use Rattle.std.specs.List.{list_any}
use Rattle.fancy_replace.specs.Reading.{Names, groups_named}
use Rattle.fancy_host.specs.declared.tree.CompiledTree.{CompiledTree}
use Rattle.fancy_host.specs.Hosted.{names_of, over}

-- the name that has this number; none is an empty text
abbrev pub name_in : Names → ℕ → List ℕ
name_in [] group = []
name_in (named ∷ names) group = if list_any (λ g. g == group) named.1 then named.0 else name_in names group

abbrev pub group_name : Option CompiledTree → ℕ → List ℕ
group_name None group = []
group_name (Some t) group = name_in (names_of t) group

-- the numbers of the groups with this name
abbrev pub numbers_named : Option CompiledTree → List ℕ → List ℕ
numbers_named None name = []
numbers_named (Some t) name = groups_named (names_of t) name

-- the numbers that are written, and how many there are
pub data FindsGroups (held : Option CompiledTree) (name : List ℕ) (old : List ℕ) : ℕ → List ℕ → Type 0 where
  names_no_text : ¬ IsUtf8 name → FindsGroups held name old 0 old
  found : IsUtf8 name →
      FindsGroups held name old (length (numbers_named held name)) (over (numbers_named held name) old)
