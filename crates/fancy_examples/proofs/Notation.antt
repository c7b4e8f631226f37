-- A short way to write trees, what they are compiled with, and what a row says.
use Rattle.std.specs.Prelude.{◌≡◌, ℕ, ◌-◌, ◌^◌, Bool, true, false, List, [], ◌∷◌, map, Option, Some, None, codes, encode_utf8_all, filter, filter_map, is_some, nat_le, nat_lt, slice_get}
use Rattle.std.specs.List.{list_any}
use Prim.Native.String.{String}
use Rattle.fancy_meaning.specs.Tree.{Tree, trees, Empty, Any, Assert, Assertion, NoLook, Literal, Delegate, Concat, Alt, Group, LookAround, Repeat, Backref, BackrefWithLevel, BackrefExists, SubroutineCall, LookAhead, LookAheadNeg, LookBehind, LookBehindNeg}
use Rattle.fancy_meaning.specs.Nodes.{nodes, target, groups, group_count, read_groups}
use Rattle.fancy_meaning.specs.Numbering.{numbered}
use Rattle.fancy_meaning.specs.Places.{places_from, places_back, chars_between}
use Rattle.fancy_meaning.specs.Chars.{fold_equal, is_word, is_class}
use Rattle.fancy_meaning.specs.Assertions.{holds, is_line_start, is_line_end, only_newlines_left}
use Rattle.fancy_meaning.specs.Moves.{pieces_fold}
use Rattle.fancy_meaning.specs.OpenCalls.{free_calls}
use Rattle.fancy_meaning.specs.Options.{ParsedTree, AnalysisOptions, CompileOptions, Plan, plan_of, RunOptions, Unicode}
use Rattle.fancy_meaning.specs.Answer.{answer, as_numbers, search_of}
use Rattle.fancy_meaning.specs.Sizes.{known_of}
use Rattle.fancy_meaning.specs.WellFormed.{is_call}
use Rattle.fancy_meaning.specs.Spots.{all_spots}
use Rattle.fancy_meaning.specs.FragmentStates.{fragment_states}
use Rattle.fancy_meaning.specs.Instr.{Instr, Prog}
use Rattle.fancy_meaning.specs.Layout.{layout, undelegated_layout}
use Rattle.fancy_meaning.specs.Config.{Outcome, outcome_of}
use Rattle.fancy_meaning.specs.Machine.{run}
use Rattle.regex_hir.specs.Text.{is_boundary, char_at, char_before, byte_before, has_bytes_at}
use Rattle.std.specs.Str.{chars}
use Rattle.ucd_case.proofs.Computing.{ucd_case}
use Rattle.ucd_perl.proofs.Computing.{ucd_perl}
use lib.Utf8.{encode}

-- ---- trees

abbrev pub letter : ℕ → Tree
letter c = Literal c false

abbrev pub of_letters : List Tree → Tree
of_letters [] = Empty
of_letters (e ∷ []) = e
of_letters (e ∷ f ∷ es) = Concat (trees (e ∷ f ∷ es))

-- the literals of a text
abbrev pub lit : String → Tree
lit s = of_letters (map letter (codes s))

-- the same, folded
abbrev pub ilit : String → Tree
ilit s = of_letters (map (λ c. Literal c true) (codes s))

abbrev pub cat : List Tree → Tree
cat es = Concat (trees es)

abbrev pub alt : List Tree → Tree
alt es = Alt (trees es)

abbrev pub grp : Tree → Tree
grp = Group 0

abbrev pub rep : ℕ → ℕ → Tree → Tree
rep lo hi = Repeat lo (Some hi) true

abbrev pub star : ℕ → Tree → Tree
star lo = Repeat lo None true

abbrev pub lazy : ℕ → ℕ → Tree → Tree
lazy lo hi = Repeat lo (Some hi) false

abbrev pub lazy_star : ℕ → Tree → Tree
lazy_star lo = Repeat lo None false

abbrev pub dot : Tree
dot = Any false false

abbrev pub dot_crlf : Tree
dot_crlf = Any false true

abbrev pub any : Tree
any = Any true false

abbrev pub assert : Assertion → Tree
assert = Assert NoLook

abbrev pub set : String → Tree
set s = Delegate (codes s) false

abbrev pub iset : String → Tree
iset s = Delegate (codes s) true

abbrev pub ref : ℕ → Tree
ref g = Backref g false

abbrev pub iref : ℕ → Tree
iref g = Backref g true

abbrev pub has : ℕ → Tree
has g = BackrefExists g None

abbrev pub call : ℕ → Tree
call = SubroutineCall

abbrev pub ahead : Tree → Tree
ahead = LookAround LookAhead

abbrev pub nahead : Tree → Tree
nahead = LookAround LookAheadNeg

abbrev pub behind : Tree → Tree
behind = LookAround LookBehind

abbrev pub nbehind : Tree → Tree
nbehind = LookAround LookBehindNeg

-- a text in UTF-8
abbrev pub utf8 : String → List ℕ
utf8 s = encode_utf8_all (codes s)

-- ---- what a reader says of a tree

abbrev reference : Tree → Option ℕ
reference (Backref g casei) = Some g
reference (BackrefWithLevel g level casei) = Some g
reference e = None

abbrev uses_a_number : Tree → Bool
uses_a_number (BackrefExists g level) = true
uses_a_number (SubroutineCall g) = true
uses_a_number e = is_some (reference e)

abbrev pub parsed : Tree → ParsedTree
parsed e =
    let n = group_count e in
    let references = filter_map reference (nodes e) in
    record {
      tree = e;
      backrefs = filter (λ g. nat_le g n) references;
      out_of_range_backref = slice_get (filter (nat_lt n) references) 0;
      named_groups = [];
      numeric_capture_group_references = list_any uses_a_number (nodes e);
      numbered_groups_ignored = false;
      contains_subroutines = list_any is_call (nodes e);
      total_groups = n;
    }

-- ---- plans

abbrev pub no_options : AnalysisOptions
no_options = record { explicit_capture_group_0 = false; find_not_empty = false; end_text = false; leftmost_longest = false }

abbrev pub default_compile : CompileOptions
default_compile = record { anchored = false; end_text = false; bytes_mode = Unicode; unicode = true; max_prog_size = None }

-- with the default options
abbrev pub plain : Tree → Plan
plain e = plan_of e no_options default_compile

abbrev pub anchored : Tree → Plan
anchored e = plan_of e no_options (record default_compile { anchored = true })

abbrev pub explicit_options : AnalysisOptions
explicit_options = record no_options { explicit_capture_group_0 = true }

-- with an explicit group 0, and anchored
abbrev pub explicit : Tree → Plan
explicit e = plan_of e (record no_options { explicit_capture_group_0 = true }) (record default_compile { anchored = true })

-- without `unicode`
abbrev pub ascii : Tree → Plan
ascii e = plan_of e no_options (record default_compile { unicode = false })

-- a match has to take something
abbrev pub taking : Tree → Plan
taking e = plan_of e (record no_options { find_not_empty = true }) default_compile

-- the longest match may be asked for
abbrev pub longest : Tree → Plan
longest e = plan_of e (record no_options { leftmost_longest = true }) default_compile

abbrev pub longest_anchored : Tree → Plan
longest_anchored e = plan_of e (record no_options { leftmost_longest = true }) (record default_compile { anchored = true })

-- under the end-of-text option
abbrev pub with_end_text : Tree → Plan
with_end_text e = plan_of e (record no_options { end_text = true }) (record default_compile { end_text = true })

-- under that option of the analysis alone
abbrev pub analysed_end_text : Tree → Plan
analysed_end_text e = plan_of e (record no_options { end_text = true }) (record default_compile { anchored = true })

-- with an explicit group 0, not anchored
abbrev pub explicit_search : Tree → Plan
explicit_search e = plan_of e (record no_options { explicit_capture_group_0 = true }) default_compile

-- ---- programs

-- the plan has this program
abbrev pub Lays : Plan → List Instr → Type 0
Lays p instrs = (layout p).body ≡ instrs

-- and this one without delegates
abbrev pub Undelegated : Plan → List Instr → Type 0
Undelegated p instrs = (undelegated_layout p).body ≡ instrs

abbrev pub code : String → Instr
code s = Instr.Lit (codes s)

abbrev pub delegate : String → List Tree → Option (ℕ × ℕ) → Instr
delegate pattern es groups = Instr.Delegate (codes pattern) (record { nodes = es; unicode = true }) groups

abbrev pub absent_delegate : String → List Tree → Option (ℕ × ℕ) → Instr
absent_delegate pattern es groups = Instr.AbsentRepeater (codes pattern) (record { nodes = es; unicode = true }) groups

-- ---- runs

abbrev pub from : ℕ → RunOptions
from pos = record {
  pos = pos;
  anchored = false;
  continued = true;
  not_empty = false;
  leftmost_longest = false;
  backtrack_limit = 1_000_000;
  step_limit = 2 ^ 64 - 1;
}

abbrev pub with_limits : ℕ → ℕ → RunOptions
with_limits backtracks steps = record (from 0) { backtrack_limit = backtracks; step_limit = steps }

abbrev pub with_backtracks : ℕ → RunOptions
with_backtracks backtracks = record (from 0) { backtrack_limit = backtracks }

abbrev pub with_steps : ℕ → RunOptions
with_steps steps = record (from 0) { step_limit = steps }

abbrev pub not_empty : RunOptions
not_empty = record (from 0) { not_empty = true }

-- the longest match is asked for
abbrev pub for_longest : RunOptions
for_longest = record (from 0) { leftmost_longest = true }

abbrev pub for_longest_within : ℕ → RunOptions
for_longest_within backtracks = record for_longest { backtrack_limit = backtracks }

abbrev pub run_of : (Plan → Prog) → Plan → List ℕ → RunOptions → Outcome
run_of program p text o = run (record { program = program p; text = text; options = o })

-- what a run comes to
abbrev pub found : Plan → List ℕ → RunOptions → Outcome
found = run_of layout

-- and without delegates
abbrev pub found_undelegated : Plan → List ℕ → RunOptions → Outcome
found_undelegated = run_of undelegated_layout

-- the meaning and both programs answer this
abbrev pub Answered : Plan → List ℕ → RunOptions → Option (List ℕ) → Type 0
Answered p text o numbers =
    (answer (search_of p text o) ≡ numbers) × (found p text o ≡ outcome_of numbers) × (found_undelegated p text o ≡ outcome_of numbers)

-- both programs come to this
abbrev pub Comes : Plan → List ℕ → RunOptions → Outcome → Type 0
Comes p text o outcome = (found p text o ≡ outcome) × (found_undelegated p text o ≡ outcome)

-- what a row computes with
unfoldable pub row : Unit {0}
unfolding answer run layout undelegated_layout numbered target groups group_count read_groups known_of free_calls all_spots fragment_states places_from places_back chars_between is_boundary char_at char_before byte_before has_bytes_at encode chars fold_equal holds is_line_start is_line_end only_newlines_left is_word is_class pieces_fold as_numbers
row = tt

-- the same with the tables of characters
unfoldable pub wide_row : Unit {0}
unfolding row ucd_case ucd_perl
wide_row = tt
