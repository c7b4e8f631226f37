-- What is written of a text.
use Rattle.std.specs.Prelude.{◌&&◌, ℕ, Bool, true, false, not, if◌then◌else◌}
use Rattle.fancy_grep.specs.declared.settings.Report.{Report}
use Rattle.fancy_grep.specs.declared.settings.Report.TheVariants as report

abbrev pub has_lines : Report → Bool
has_lines report.Lines = true
has_lines report.Matches = true
has_lines r = false

abbrev pub has_name : Report → Bool → Bool
has_name report.Name is_selected = is_selected
has_name report.NameWithout is_selected = not is_selected
has_name r is_selected = false

abbrev pub is_decided_by_line : Report → Bool
is_decided_by_line report.Name = true
is_decided_by_line report.NameWithout = true
is_decided_by_line report.Nothing = true
is_decided_by_line r = false

abbrev pub is_matches : Report → Bool
is_matches report.Matches = true
is_matches r = false

abbrev pub is_count : Report → Bool
is_count report.Count = true
is_count r = false

-- a selected line ends the search of all files
abbrev pub is_nothing : Report → Bool
is_nothing report.Nothing = true
is_nothing r = false

-- The status of grep: 0 if a line is selected, 1 if none is, and 2 if something failed; but if nothing is written and a line is
-- selected, 0.
abbrev pub exit_status : Report → (is_selected has_failed : Bool) → ℕ
exit_status r is_selected has_failed =
    if is_selected && is_nothing r then 0 else (if has_failed then 2 else (if is_selected then 0 else 1))
