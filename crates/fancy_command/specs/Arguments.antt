-- The question that the words of a command line ask, and the options that they make.
use Rattle.std.specs.Prelude.{ℕ, ◌-◌, ◌^◌, Bool, true, false, not, List, [], ◌∷◌, Option, Some, None, is_some, unwrap_or, codes}
use Rattle.fancy_meaning.specs.Options.{RunOptions}
use Rattle.fancy_meaning.specs.Places.{is_place}
use Rattle.fancy_notation.specs.Words.{found, number_of, when}
use Rattle.fancy_info.specs.declared.context.AnalyzeContext.{AnalyzeContext}
use Rattle.fancy_compile.specs.declared.options.CompileOptions.{CompileOptions}
use Rattle.fancy_search.specs.declared.request.Request.{Request}
use Rattle.fancy_search.specs.Requests as asked
use Rattle.fancy_command.specs.declared.arguments.Arguments.{Arguments}
use Rattle.fancy_command.specs.declared.arguments.Flag.{Flag}
use Rattle.fancy_command.specs.declared.arguments.Flag.TheVariants.{CompileAnchored, Anchored, NotContinued, NotEmpty, EndText, Ascii, Longest}
use Rattle.fancy_command.specs.declared.arguments.Limit.{Limit}
use Rattle.fancy_command.specs.declared.arguments.Limit.TheVariants.{Backtracks, Steps, MaxProg}

abbrev pub Text : Type 0
Text = List ℕ

-- the options that stand alone
abbrev pub flags : List (Text × Flag)
flags =
    (codes "--compile-anchored", CompileAnchored)
    ∷ (codes "--anchored", Anchored)
    ∷ (codes "--not-continued", NotContinued)
    ∷ (codes "--not-empty", NotEmpty)
    ∷ (codes "--end-text", EndText)
    ∷ (codes "--ascii", Ascii)
    ∷ (codes "--longest", Longest)
    ∷ []

-- the options that a number follows
abbrev pub limits : List (Text × Limit)
limits =
    (codes "--backtracks", Backtracks)
    ∷ (codes "--steps", Steps)
    ∷ (codes "--max-prog", MaxProg)
    ∷ []

-- no option, and a search from this place on
abbrev pub with_pos : ℕ → Arguments
with_pos pos = record {
  pos = pos;
  compile_anchored = false;
  anchored = false;
  not_continued = false;
  not_empty = false;
  end_text = false;
  ascii = false;
  longest = false;
  backtracks = None;
  steps = None;
  max_prog = None;
}

abbrev pub is_set : Arguments → Flag → Bool
is_set a CompileAnchored = a.compile_anchored
is_set a Anchored = a.anchored
is_set a NotContinued = a.not_continued
is_set a NotEmpty = a.not_empty
is_set a EndText = a.end_text
is_set a Ascii = a.ascii
is_set a Longest = a.longest

abbrev pub set : Arguments → Flag → Arguments
set a CompileAnchored = record a { compile_anchored = true }
set a Anchored = record a { anchored = true }
set a NotContinued = record a { not_continued = true }
set a NotEmpty = record a { not_empty = true }
set a EndText = record a { end_text = true }
set a Ascii = record a { ascii = true }
set a Longest = record a { longest = true }

abbrev pub is_limited : Arguments → Limit → Bool
is_limited a Backtracks = is_some a.backtracks
is_limited a Steps = is_some a.steps
is_limited a MaxProg = is_some a.max_prog

abbrev pub limited : Arguments → Limit → ℕ → Arguments
limited a Backtracks most = record a { backtracks = Some most }
limited a Steps most = record a { steps = Some most }
limited a MaxProg most = record a { max_prog = Some most }

-- an option stands at most once
abbrev pub with_flag : Arguments → Flag → Option Arguments
with_flag a f = when (not (is_set a f)) (set a f)

abbrev pub with_limit : Arguments → Limit → ℕ → Option Arguments
with_limit a l most = when (not (is_limited a l)) (limited a l most)

-- what the words of options say, one option after the other
abbrev mutual
  pub with_options : Arguments → List Text → Option Arguments
  with_options a [] = Some a
  with_options a (w ∷ ws) = elim (found flags w) [
    | Some f ↦ elim (with_flag a f) [ Some b ↦ with_options b ws | None ↦ None ]
    | None ↦ with_number a (found limits w) ws
  ]

  -- an option that a number follows
  pub with_number : Arguments → Option Limit → List Text → Option Arguments
  with_number a None ws = None
  with_number a (Some l) [] = None
  with_number a (Some l) (w ∷ ws) = elim (number_of w) [
    | Some most ↦ elim (with_limit a l most) [ Some b ↦ with_options b ws | None ↦ None ]
    | None ↦ None
  ]

-- what the words after TREE and TEXT say: a place, where the first one is a number, and options
abbrev pub arguments_of : List Text → Option Arguments
arguments_of [] = Some (with_pos 0)
arguments_of (w ∷ ws) = elim (number_of w) [ Some pos ↦ with_options (with_pos pos) ws | None ↦ with_options (with_pos 0) (w ∷ ws) ]

-- ---- what they ask of a search

abbrev pub most_nesting : ℕ
most_nesting = 4_000

abbrev pub request : Arguments → Request
request a = record {
  pos = a.pos;
  compile_anchored = a.compile_anchored;
  anchored = a.anchored;
  not_continued = a.not_continued;
  not_empty = a.not_empty;
  end_text = a.end_text;
  ascii = a.ascii;
  longest = a.longest;
  max_prog_size = a.max_prog;
  max_nesting = Some most_nesting;
  backtrack_limit = unwrap_or a.backtracks 1_000_000;
  step_limit = unwrap_or a.steps (2 ^ 64 - 1);
}

abbrev pub analysis : Arguments → AnalyzeContext
analysis a = asked.analysis (request a)

abbrev pub compilation : Arguments → CompileOptions
compilation a = asked.compilation (request a)

abbrev pub running : Arguments → RunOptions
running a = asked.running (request a)

-- ---- the whole line

-- what a command line asks
pub record Question : Type 0 where
  pub tree : Text
  pub text : Text
  pub arguments : Arguments

abbrev pub asks : Text → Text → Arguments → Option Question
asks tree text a = when (is_place text a.pos) (record { tree = tree; text = text; arguments = a })

-- TREE, TEXT, and what follows them; the place is one of TEXT
abbrev pub question_of : List Text → Option Question
question_of [] = None
question_of (tree ∷ []) = None
question_of (tree ∷ text ∷ ws) = elim (arguments_of ws) [ Some a ↦ asks tree text a | None ↦ None ]
