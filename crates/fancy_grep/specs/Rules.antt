-- Which files are searched, by rules.
use Rattle.std.specs.Prelude.{◌≡◌, ℕ, Bool, true, false, not, ◌&&◌, ◌||◌, ◌==◌, List, [], ◌∷◌, Option, Some, None, ◌-◌, fold, length, slice_get, take, unwrap_or, if◌then◌else◌}
use Rattle.std.specs.List.{list_any}
use Rattle.fancy_grep.specs.Globs.{glob_of, matches, tokens_of}
use Rattle.fancy_grep.specs.declared.rules.Rule.{Rule}

abbrev pub applies : (path name : List ℕ) → (is_folder : Bool) → Rule → Bool
applies path name is_folder r =
    (not r.is_for_folders || is_folder) && matches (tokens_of r.glob.items) (if r.is_for_names then name else path)

-- what the last rule that applies says, if one does
abbrev pub decision : (path name : List ℕ) → (is_folder : Bool) → List Rule → Option Bool
decision path name is_folder rules =
    fold (λ said r. if applies path name is_folder r then Some r.is_included else said) None rules

-- where no rule applies, a file is searched unless the first one includes files
abbrev pub unsaid : List Rule → Bool
unsaid [] = true
unsaid (r ∷ rules) = not r.is_included

abbrev pub file_decision : List ℕ → List Rule → Bool
file_decision name rules = unwrap_or (decision name name false rules) (unsaid rules)

abbrev pub includes : Rule → Bool
includes r = r.is_included

-- a file that no rule names is not searched if a rule includes others
abbrev pub said_or : Option Bool → (is_folder includes_some : Bool) → Option Bool
said_or (Some is_included) is_folder includes_some = Some is_included
said_or None true includes_some = None
said_or None false includes_some = if includes_some then Some false else None

abbrev pub choice : (path name : List ℕ) → (is_folder : Bool) → List Rule → Option Bool
choice path name is_folder rules = said_or (decision path name is_folder rules) is_folder (list_any includes rules)

-- one that nothing is said of is searched, unless it is hidden
abbrev pub is_kept : (by_ignores by_type : Option Bool) → (is_hidden : Bool) → Bool
is_kept None by_type is_hidden = unwrap_or by_type (not is_hidden)
is_kept (Some is_included) by_type is_hidden = is_included && unwrap_or by_type true

-- Whether an entry of a folder is searched: rules on paths decide, if they say something of it.
abbrev pub is_chosen : (by_path by_ignores by_type : Option Bool) → (is_hidden : Bool) → Bool
is_chosen by_path by_ignores by_type is_hidden = unwrap_or by_path (is_kept by_ignores by_type is_hidden)

-- ---- what a rule on paths reads as

-- a text after `!`, and whether this is there
abbrev pub unsigned : List ℕ → List ℕ × Bool
unsigned [] = ([], false)
unsigned (c ∷ text) = if c == 33 then (text, true) else (c ∷ text, false)

-- a text before a `/` at its end, and whether this is there
abbrev pub is_slash : Option ℕ → Bool
is_slash None = false
is_slash (Some c) = c == 47

abbrev pub before_slash : List ℕ → List ℕ × Bool
before_slash text =
    if is_slash (slice_get text (length text - 1)) then (take (length text - 1) text, true) else (text, false)

-- a text without a `/` at its beginning
abbrev pub after_slash : List ℕ → List ℕ
after_slash [] = []
after_slash (c ∷ text) = if c == 47 then text else c ∷ text

-- A rule on paths: `!` turns it, and `/` at its end says that it is for folders. With another `/` its glob matches paths, else
-- names.
pub record IsPathRule (is_included : Bool) (text : List ℕ) (r : Rule) : Type 0 where
  pub included : r.is_included ≡ (if (unsigned text).1 then not is_included else is_included)
  pub folders : r.is_for_folders ≡ (before_slash (unsigned text).0).1
  pub names : r.is_for_names ≡ not (list_any (λ c. c == 47) (before_slash (unsigned text).0).0)
  pub glob : tokens_of r.glob.items ≡ glob_of true (after_slash (before_slash (unsigned text).0).0)
