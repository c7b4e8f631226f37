-- What a tree comes with, and the options of each call.
use Rattle.std.specs.Prelude.{ℕ, Bool, List, Option, if◌then◌else◌}
use Rattle.fancy_meaning.specs.Tree.{Tree}
use Rattle.fancy_meaning.specs.Numbering.{numbered}

-- a tree as it is handed in, with what its reader says of it
pub record ParsedTree : Type 0 where
  -- its groups are not numbered yet
  pub tree : Tree
  pub backrefs : List ℕ
  pub out_of_range_backref : Option ℕ
  -- the numbers of each name
  pub named_groups : List (List ℕ × List ℕ)
  pub numeric_capture_group_references : Bool
  pub numbered_groups_ignored : Bool
  pub contains_subroutines : Bool
  pub total_groups : ℕ

pub record AnalysisOptions : Type 0 where
  -- the first group has number 0
  pub explicit_capture_group_0 : Bool
  pub find_not_empty : Bool
  -- `disallow_empty_match_at_eof_after_newline`
  pub end_text : Bool
  -- a run may ask for the longest match at the earliest start
  pub leftmost_longest : Bool

-- what is analysed: a tree with its groups numbered, and the options
pub record Analysis : Type 0 where
  pub tree : Tree
  pub options : AnalysisOptions
  pub open options use *

abbrev pub analysis_of : Tree → AnalysisOptions → Analysis
analysis_of tree options =
    record { tree = numbered (if options.explicit_capture_group_0 then 0 else 1) tree; options = options }

pub data BytesMode : Type 0 where
  Ascii Unicode UnicodeBytes : BytesMode

pub record CompileOptions : Type 0 where
  -- the search tries the first start alone
  pub anchored : Bool
  -- `disallow_empty_match_at_eof_after_newline`
  pub end_text : Bool
  pub bytes_mode : BytesMode
  pub unicode : Bool
  pub max_prog_size : Option ℕ

-- what is compiled, and how
pub record Plan : Type 0 where
  pub analysis : Analysis
  pub options : CompileOptions
  pub open options use *

abbrev pub plan_of : Tree → AnalysisOptions → CompileOptions → Plan
plan_of tree analysis options = record { analysis = analysis_of tree analysis; options = options }

pub record RunOptions : Type 0 where
  -- where the search begins, a byte offset of the text
  pub pos : ℕ
  -- the first start alone is tried
  pub anchored : Bool
  -- the match before ended at `pos`
  pub continued : Bool
  -- a match has to take something
  pub not_empty : Bool
  -- the longest match at the earliest start is asked for
  pub leftmost_longest : Bool
  pub backtrack_limit : ℕ
  pub step_limit : ℕ
