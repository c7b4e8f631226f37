-- What a request asks of each stage of a search.
use Rattle.std.specs.Prelude.{false, not}
use Rattle.fancy_meaning.specs.Options.{RunOptions}
use Rattle.fancy_info.specs.declared.context.AnalyzeContext.{AnalyzeContext}
use Rattle.fancy_compile.specs.declared.options.CompileOptions.{CompileOptions}
use Rattle.fancy_compile.specs.declared.options.BytesMode.TheVariants as mode
use Rattle.fancy_search.specs.declared.request.Request.{Request}

abbrev pub analysis : Request → AnalyzeContext
analysis r = record {
  explicit_capture_group_0 = false;
  find_not_empty = r.not_empty;
  disallow_empty_match_at_eof_after_newline = r.end_text;
  leftmost_longest = r.longest;
}

abbrev pub compilation : Request → CompileOptions
compilation r = record {
  anchored = r.compile_anchored;
  contains_subroutines = false;
  disallow_empty_match_at_eof_after_newline = r.end_text;
  bytes_mode = mode.Unicode;
  unicode = not r.ascii;
  max_prog_size = r.max_prog_size;
  max_nesting = r.max_nesting;
}

abbrev pub running : Request → RunOptions
running r = record {
  pos = r.pos;
  anchored = r.anchored;
  continued = not r.not_continued;
  not_empty = r.not_empty;
  leftmost_longest = r.longest;
  backtrack_limit = r.backtrack_limit;
  step_limit = r.step_limit;
}
