-- The options of the regex that is searched for.
use Rattle.std.specs.Prelude.{ℕ, Some, unwrap_or}
use Rattle.std.specs.Option.{option_or}
use Rattle.fancy_pattern.specs.Options.{default_parsing}
use Rattle.fancy_regex.specs.Options.{default_options}
use Rattle.fancy_regex.specs.declared.options.RegexOptions.{RegexOptions}
use Rattle.fancy_grep.specs.declared.patterns.Limits.{Limits}
use Rattle.fancy_grep.specs.declared.patterns.PatternOptions.{PatternOptions}

-- the options, but for the limits that are given
abbrev pub limited : Limits → RegexOptions → RegexOptions
limited l o = record o {
  backtrack_limit = option_or l.backtracks o.backtrack_limit;
  step_limit = unwrap_or l.steps o.step_limit;
  visit_limit = option_or l.visits o.visit_limit;
  memory_limit = option_or l.memory o.memory_limit;
  analysis_limit = option_or l.analysis o.analysis_limit;
}

-- those that are asked for; a bound on the program and on how deep the nodes nest; and else the defaults
abbrev pub options_for : PatternOptions → RegexOptions
options_for o = limited o.limits (record default_options {
  parsing = record default_parsing { case_insensitive = o.case_insensitive };
  longest = o.longest;
  max_prog_size = Some (unwrap_or (o.limits).max_prog 1_000_000);
  max_nesting = Some 4_000;
})
