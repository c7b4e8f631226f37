-- How a pattern is read unless said otherwise.
use Rattle.std.specs.Prelude.{true, false}
use Rattle.fancy_pattern.specs.declared.options.ParseOptions.{ParseOptions}

abbrev pub default_parsing : ParseOptions
default_parsing = record {
  case_insensitive = false;
  multi_line = false;
  dot_matches_new_line = false;
  ignore_whitespace = false;
  crlf = false;
  swap_greed = false;
  unicode = true;
  oniguruma = false;
  ignore_numbered_groups_when_named_groups_exist = false;
}
