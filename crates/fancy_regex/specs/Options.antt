-- What the options of a regex ask for: how its pattern is read, how its tree is analysed and compiled, and how it is
-- searched for.
use Rattle.std.specs.Prelude.{◌-◌, ◌^◌, ◌<◌, ℕ, true, false, List, Option, None, Some}
use Rattle.fancy_meaning.specs.Options as plain
use Rattle.fancy_meaning.specs.Premises.{Input}
use Rattle.fancy_expr.specs.Views.{parsed_of}
use Rattle.fancy_expr.specs.declared.expr.ExprTree.{ExprTree}
use Rattle.fancy_analysis.specs.AnalysisLimit.{analysis_nodes}
use Rattle.fancy_matches.specs.Listing.{backtracks_for, steps_for}
use Rattle.fancy_steps.specs.declared.search_limits.SearchLimits.{SearchLimits}
use Rattle.fancy_pattern.specs.Options.{default_parsing}
use Rattle.fancy_regex.specs.declared.options.RegexOptions.{RegexOptions}

-- the options unless said otherwise
abbrev pub default_options : RegexOptions
default_options = record {
  parsing = default_parsing;
  not_empty = false;
  longest = false;
  max_prog_size = Some 100_000;
  max_nesting = Some 500;
  analysis_limit = Some 5_000_000;
  backtrack_limit = None;
  step_limit = 2 ^ 64 - 1;
  visit_limit = Some 20_000_000;
  memory_limit = Some 268_435_456;
}

-- the analysis looks at more nodes in rounds that change something than the limit allows
abbrev pub ExceedsAnalysisLimit : Option ℕ → ExprTree → Type 0
ExceedsAnalysisLimit None t = ⊥
ExceedsAnalysisLimit (Some limit) t = limit < analysis_nodes t

-- how the tree is analysed
abbrev pub analysis : RegexOptions → plain.AnalysisOptions
analysis o = record {
  explicit_capture_group_0 = false;
  find_not_empty = o.not_empty;
  end_text = false;
  leftmost_longest = o.longest;
}

-- how it is compiled
abbrev pub compilation : RegexOptions → plain.CompileOptions
compilation o = record {
  anchored = false;
  end_text = false;
  bytes_mode = plain.Unicode;
  unicode = (o.parsing).unicode;
  max_prog_size = o.max_prog_size;
}

-- how it is searched for in a text
abbrev pub running : RegexOptions → List ℕ → plain.RunOptions
running o text = record {
  pos = 0;
  anchored = false;
  continued = true;
  not_empty = o.not_empty;
  leftmost_longest = o.longest;
  backtrack_limit = backtracks_for o.backtrack_limit text;
  step_limit = steps_for o.step_limit text;
}

-- how much its searches of easy parts may take together
abbrev pub limits : RegexOptions → SearchLimits
limits o = record { visits = o.visit_limit; bytes = o.memory_limit }

-- a tree with these options
abbrev pub input : ExprTree → RegexOptions → Input
input t o = record { parsed = parsed_of t; analysis = analysis o; options = compilation o }
