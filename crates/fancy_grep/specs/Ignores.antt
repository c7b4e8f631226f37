-- What ignore files say of a path.
use Rattle.std.specs.Prelude.{ℕ, Bool, List, Option, None, drop, fold, length, nat_eq, if◌then◌else◌}
use Rattle.std.specs.List.{starts_with}
use Rattle.std.specs.Option.{option_or}
use Rattle.fancy_grep.specs.Rules.{decision}
use Rattle.fancy_grep.specs.declared.ignores.Ignores.{Ignores}
use Rattle.fancy_grep.specs.declared.ignores.Source.{Source}

-- what is known of a path after a source: it speaks of what is below its folder
abbrev pub says : (path name : List ℕ) → (is_folder : Bool) → Option Bool → Source → Option Bool
says path name is_folder said s =
    if starts_with nat_eq path s.folder.items
    then option_or (decision (drop (length s.folder.items) path) name is_folder s.rules.items) (if s.is_top then None else said)
    else said

abbrev pub said : (path name : List ℕ) → (is_folder : Bool) → List Source → Option Bool
said path name is_folder sources = fold (says path name is_folder) None sources

-- `.ignore` before those of git
abbrev pub by_ignores : (path name : List ℕ) → (is_folder : Bool) → Ignores → Option Bool
by_ignores path name is_folder i = option_or (said path name is_folder i.own.items) (said path name is_folder i.git.items)
