use Rattle.std.proofs.Common.{ℕ, List, sym, subst}
use Rattle.fancy_search.specs.Searches.{IsRefusedAs}
use Rattle.fancy_steps.specs.Tasks.{options_of as run_options_of}
use Rattle.fancy_info.specs.Infos.{analysis_options_of}
use Rattle.fancy_compile.specs.Compiled.{compile_options_of}
use Rattle.fancy_matches.specs.Listing.{options_for}
use Rattle.fancy_scanner.specs.Scanning.{IsTreeOf, rule_of}
use Rattle.fancy_regex.specs.Builders.{AreNamesOf, options}
use Rattle.fancy_regex.specs.Options.{input}
use Rattle.fancy_regex.proofs.Built.{refused, refused_so}
use Rattle.fancy_regex.proofs.Scanning.{rule_so}
use Rattle.fancy_regex.proofs.builder.RegexBuilder.scan_pattern.Goals as goal

pub names_of-requires : goal.names_of-requires
names_of-requires c = ((c.in_ok-tree.ensures.spelled.well_formed).0).not_too_many

pub returns-in_ok-names-in-Ok : goal.returns-in_ok-names-in-Ok
returns-in_ok-names-in-Ok c =
    let b = c.args.self.now in
    let tree = c.in_ok-tree.tree in
    let o = c.search_options-search.result in
    let says = c.search_options-search.ensures in
    let rule = λ (text : List ℕ). rule_so tree (options b) text (analysis_options_of o.analysis) (compile_options_of o.compilation)
    (options_for (run_options_of o.run) (options b).backtrack_limit text) c.search_limits.result says.analysis says.compilation (says.run text)
    c.search_limits.ensures in
    let made = rule_of tree o (options b).backtrack_limit in
    record {
      tree = tree;
      spelled = c.in_ok-tree.ensures.spelled;
      analysed_within = c.in_ok-tree.ensures.within;
      compiled = λ text. subst (λ r. IsTreeOf r text c.limit.new.self) (rule text) (c.limit.ensures (made text) text (c.in-Ok.ensures text));
      names = subst (AreNamesOf tree) (sym c.in_ok-names-in-Ok.ensures.ok) c.names_of.ensures;
    }

pub returns-in-Err : goal.returns-in-Err
returns-in-Err c =
    let b = c.args.self.now in
    let tree = c.in_ok-tree.tree in
    let o = c.search_options-search.result in
    let says = c.search_options-search.ensures in
    refused (options b) tree b.pattern.now c.in_ok-tree.ensures c.from.result c.from.ensures.1
    (subst (IsRefusedAs (input tree (options b)) (options b).max_nesting) (sym c.from.ensures.0)
    (refused_so (options b) tree (analysis_options_of o.analysis) (compile_options_of o.compilation) says.analysis says.compilation (o.compilation).max_nesting
    c.in-Err.error says.nesting c.in-Err.ensures))
