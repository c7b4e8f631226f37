use Rattle.std.proofs.Common.{ap, sym, subst, ◌∙◌}
use Rattle.fancy_expr.specs.Views.{parsed_of}
use Rattle.fancy_search.specs.Searches.{IsRefusedAs}
use Rattle.fancy_steps.specs.Tasks.{options_of as run_options_of}
use Rattle.fancy_info.specs.Infos.{analysis_options_of}
use Rattle.fancy_compile.specs.Compiled.{compile_options_of}
use Rattle.fancy_regex.specs.Builders.{options}
use Rattle.fancy_matches.specs.declared.options.MatcherOptions as engine_options
use Rattle.fancy_regex.specs.Options.{input}
use Rattle.fancy_regex.proofs.Built.{built, compiled_so, limited_so, refused, refused_so, unlimited_so, within_so}
use Rattle.fancy_regex.proofs.builder.RegexBuilder.build.Goals as goal

pub regex_of-requires : goal.regex_of-requires
regex_of-requires c = ((c.in_ok-tree.ensures.spelled.well_formed).0).not_too_many

pub returns-in-Ok : goal.returns-in-Ok
returns-in-Ok c =
    let b = c.args.self.now in
    let tree = c.in_ok-tree.tree in
    let o = c.search_options-search.result in
    let says = c.search_options-search.ensures in
    let a = analysis_options_of o.analysis in
    let k = compile_options_of o.compilation in
    let engine = c.limit.new.self in
    let made = limited_so (record { parsed = parsed_of tree; analysis = a; options = k }) (run_options_of o.run) (options b).backtrack_limit c.in-Ok.engine
    engine c.search_limits.result c.limit.ensures.compiled c.limit.ensures.options c.in-Ok.ensures.made in
    built (options b) tree b.pattern.now c.in_ok-tree.ensures engine
    (compiled_so (options b) tree a k says.analysis says.compilation (run_options_of o.run) engine says.run made)
    (unlimited_so (options b) tree a k says.analysis says.compilation (run_options_of o.run) engine says.run made says.steps)
    (within_so (options b) tree a k says.analysis says.compilation (o.compilation).max_nesting says.nesting c.in-Ok.ensures.within)
    (ap (λ (a : engine_options.MatcherOptions). a.limits) c.limit.ensures.options ∙ c.search_limits.ensures)
    c.regex_of.result c.regex_of.ensures

pub returns-in-Err : goal.returns-in-Err
returns-in-Err c =
    let b = c.args.self.now in
    let tree = c.in_ok-tree.tree in
    let o = c.search_options-search.result in
    let says = c.search_options-search.ensures in
    refused (options b) tree b.pattern.now c.in_ok-tree.ensures c.from.result c.from.ensures.1
    (subst (IsRefusedAs (input tree (options b)) (options b).max_nesting) (sym c.from.ensures.0)
    (refused_so (options b) tree (analysis_options_of o.analysis) (compile_options_of o.compilation) says.analysis says.compilation (o.compilation).max_nesting
    c.in-Err.error says.nesting c.in-Err.ensures.made))
