-- What is printed of the lines of a file: each with what stands before it, and a line feed after it.
use Rattle.std.specs.Prelude.{◌≡◌, ◌+◌, ◌-◌, ◌^◌, ◌&&◌, ◌||◌, ◌==◌, ℕ, min, nat_eq, nat_lt, Bool, true, false, not, List, [], ◌∷◌, ◌++◌, codes, drop, take, length, flat_map, Option, Some, None, is_some, unwrap_or, if◌then◌else◌}
use Rattle.std.specs.Bool.{then_some}
use Rattle.std.specs.Fmt.{decimal}
use Rattle.std.specs.Cmp.Lexicographic.{pointwise}
use Rattle.fancy_grep.specs.Lines.{Line, line_of}
use Rattle.fancy_grep.specs.Printing.{name_part, painted, prefix}
use Rattle.fancy_grep.specs.Reports.{has_lines, has_name, is_count, is_matches}
use Rattle.fancy_grep.specs.declared.context.Shown.{Shown}
use Rattle.fancy_grep.specs.declared.printing.Place.{Place}
use Rattle.fancy_grep.specs.declared.printing.Style.{Style}
use Rattle.fancy_grep.specs.declared.lines.Line as code
use Rattle.fancy_grep.specs.declared.reports.Page.{Page}
use Rattle.fancy_grep.specs.declared.reports.Part.{Part}
use Rattle.fancy_grep.specs.declared.reports.Search.{Search}
use Rattle.fancy_grep.specs.declared.settings.Settings.{Settings}

-- a number, or the largest one that fits
abbrev pub capped : ℕ → ℕ
capped n = min n (2 ^ 64 - 1)

-- the bytes but for a line feed at their end
abbrev pub unended : List ℕ → List ℕ
unended bytes = if pointwise nat_eq (drop (length bytes - 1) bytes) (10 ∷ []) then take (length bytes - 1) bytes else bytes

-- what is in the file of a line that reads as this text
abbrev pub bytes_of : Part → List ℕ → List ℕ
bytes_of part text = if part.is_broken then unended part.bytes.now else text

-- a line of a part as one of the file, in which so many lines are before the part
abbrev pub in_file : ℕ → Part → Line → Line
in_file passed part l = record {
  number = capped (passed + l.number);
  start = capped (part.start + l.start);
  text = bytes_of part l.text;
}

-- what is said of where a line is: of its number, and of its first byte
abbrev pub place_of : Settings → Line → Place
place_of s l = record { number = then_some s.has_numbers l.number; column = None; offset = then_some s.has_offsets l.start }

-- a line as it is printed, with this after each part of what stands before it
abbrev pub printed : List ℕ → Style → Place → List ℕ → List ℕ
printed separator style place text = prefix style place separator ++ (text ++ 10 ∷ [])

-- a line that is not selected; of one such there are no matches to print
abbrev pub printed_near : Settings → Style → Place → List ℕ → List ℕ
printed_near s style place text = if is_matches s.report then [] else printed (codes "-") style place text

-- To print a selected line its matches have to be found: they are printed alone, in a colour or as something else, or the
-- column of the first one is.
abbrev pub needs_matches : Settings → Bool
needs_matches s =
    is_some s.template || (not (s.choice).inverted && (is_matches s.report || (s.has_colours || s.has_columns)))

-- a selected line, where no match has to be found
abbrev pub printed_selected : Settings → Style → Line → List ℕ
printed_selected s style l = if is_matches s.report then [] else printed (codes ":") style (place_of s l) l.text

-- what stands between lines if others between them are left out
abbrev pub separator : Bool → List ℕ
separator has_colours = painted has_colours (codes "36") (codes "--") ++ 10 ∷ []

-- these lines of a part, which are selected, where no match has to be found
abbrev pub printed_lines : Settings → Style → ℕ → Part → List Line → List ℕ
printed_lines s style passed part lines = flat_map (λ l. printed_selected s style (in_file passed part l)) lines

-- ---- the lines of a page

abbrev pub line_on : Page → code.Line → Line
line_on p l = in_file p.passed p.part (line_of l)

abbrev pub selected_on : Page → code.Line → List ℕ
selected_on p l = printed_selected p.settings p.style (line_on p l)

-- ---- the lines of a page with lines around them

-- lines are left out before this one; the last one that was printed has this number, if there is one of its file
abbrev pub has_gap : Option ℕ → ℕ → (is_first : Bool) → Bool
has_gap None number is_first = not is_first
has_gap (Some last) number is_first = nat_lt 1 (number - last)

abbrev pub gap : Page → Option ℕ → ℕ → List ℕ
gap p last number = if has_gap last number p.is_first then separator (p.style).has_colours else []

abbrev pub number_on : Page → Shown → ℕ
number_on p s = capped (p.passed + (s.line).number)

-- a line that is shown, where no match has to be found
abbrev pub shown_on : Page → Shown → List ℕ
shown_on p s =
    if s.is_selected then selected_on p s.line
    else printed_near p.settings p.style (place_of p.settings (line_on p s.line)) (line_on p s.line).text

-- Lines that are shown, in order, with what separates those between which others are left out.
abbrev pub printed_all : Page → Option ℕ → List Shown → List ℕ
printed_all p last [] = []
printed_all p last (s ∷ lines) = (gap p last (number_on p s) ++ shown_on p s) ++ printed_all p (Some (number_on p s)) lines

-- ---- a file

abbrev pub style_of : Search → Style
style_of s = record {
  name = then_some (unwrap_or (s.settings).has_names false) s.name;
  has_zeros = (s.settings).has_zeros;
  has_colours = (s.settings).has_colours;
}

-- how many more lines may be selected
abbrev pub left : Search → ℕ
left s = unwrap_or (s.settings).most (2 ^ 64 - 1) - s.selected

-- Lines are printed, in so far as a text is: of a binary file none are.
abbrev pub has_text : Search → Bool
has_text s = not s.is_binary && has_lines (s.settings).report

-- these lines of a part, which are selected, if lines are printed, and no match has to be found
abbrev pub printed_by : Search → Part → List Line → List ℕ
printed_by s part lines = if has_text s then printed_lines s.settings (style_of s) s.passed part lines else []

-- lines are printed by themselves: with no others around them, and without a look for their matches
abbrev pub IsPlain : Settings → Type 0
IsPlain s = (s.context ≡ None) × (needs_matches s ≡ false)

-- what is printed of the file as a whole: the number of its selected lines, or its name
abbrev pub printed_name : Style → List ℕ → List ℕ
printed_name style name = painted style.has_colours (codes "35") name ++ (if style.has_zeros then 0 else 10) ∷ []

abbrev pub printed_count : Style → ℕ → List ℕ
printed_count style count = name_part style (codes ":") ++ (decimal count ++ 10 ∷ [])

abbrev pub printed_last : Search → List ℕ
printed_last s =
    if is_count (s.settings).report then printed_count (style_of s) s.selected
    else (if has_name (s.settings).report (nat_lt 0 s.selected) then printed_name (style_of s) s.name.now else [])
